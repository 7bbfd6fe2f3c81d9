-- Records behind those of a log, and one more.
use Rattle.std.proofs.Common.{◌≡◌, ℕ, List, [], ◌++◌, ap, sym, subst, ◌∙◌, append_assoc}
use Rattle.p9_tree.specs.ForestEdit.{ForestEdit, forest_edited}
use Rattle.p9_record.specs.Closed.{closed_spelling}
use Rattle.p9_record.specs.Record.{FitsForestEdit}
use Rattle.p9_kept.specs.Edits.{IsWhole, stood_for}
use Rattle.p9_kept.proofs.Edits.{stood-more, whole-more}

module _ (content old new : List ℕ) (edit : ForestEdit) (is : new ≡ old ++ closed_spelling edit)
    (fits : FitsForestEdit edit) (whole : IsWhole (content ++ old)) where
  longer : content ++ new ≡ (content ++ old) ++ closed_spelling edit
  longer = ap (λ (b : List ℕ). content ++ b) is ∙ sym (append_assoc content old (closed_spelling edit))

  pub noted-whole : IsWhole (content ++ new)
  noted-whole = subst IsWhole (sym longer) (whole-more (content ++ old) edit whole fits)

  pub noted-stood : stood_for (content ++ new) ≡ forest_edited edit (stood_for (content ++ old))
  noted-stood = ap stood_for longer ∙ stood-more [] (content ++ old) edit whole fits
