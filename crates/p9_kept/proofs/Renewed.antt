-- What a crash leaves while a journal is renewed.
use Rattle.std.proofs.Common.{inl, inr, ℕ, List, [], ap, sym, ◌∙◌}
use Rattle.std.proofs.lemmas.List.{append-nil}
use Rattle.p9_log.specs.declared.crash.Crash.{Crash}
use Rattle.p9_log.specs.declared.crash.Crash.TheVariants.{Stopped}
use Rattle.p9_log.specs.Blocks.{content_in}
use Rattle.p9_log.specs.Device.{LeavesOnly}
use Rattle.p9_log.specs.Log.{AlwaysHas, IsAppended, Nothing}
use Rattle.p9_tree.specs.Server.{Server}
use Rattle.p9_kept.specs.Edits.{stood_for}
use Rattle.p9_kept.specs.Making.{IsRenewed, Makes}
use Rattle.p9_kept.proofs.Untouched.{leaves-then, leaves-weaker}

module _ {D : Type 0} (moment : D → ℕ) (left_since : D → Crash → ℕ → List ℕ → Type 0) (how : Crash)
    (file noted : List ℕ) (forest : List Server) (old settled : D)
    (first : LeavesOnly moment left_since how (IsAppended how file noted) old settled) where
  -- while it is settled
  pub renew-settled : LeavesOnly moment left_since how (IsRenewed how file noted forest) old settled
  renew-settled =
      leaves-weaker moment left_since how (IsAppended how file noted) (IsRenewed how file noted forest)
      old settled (λ c is. inl is) first

  module _ (drafted : D) (second : LeavesOnly moment left_since how Nothing settled drafted) where
    -- and while the draft is written
    pub renew-drafted : LeavesOnly moment left_since how (IsRenewed how file noted forest) old drafted
    renew-drafted =
        leaves-then moment left_since how (IsRenewed how file noted forest) old settled drafted
        renew-settled
        (leaves-weaker moment left_since how Nothing (IsRenewed how file noted forest) settled drafted
        (λ c no. absurd no) second)

    -- and while it is put in the place of the log
    pub renew-put : (draft : List ℕ) (new : D) → Makes draft [] forest
        → LeavesOnly moment left_since how (AlwaysHas (content_in Stopped draft)) drafted new
        → LeavesOnly moment left_since how (IsRenewed how file noted forest) old new
    renew-put draft new makes third =
        leaves-then moment left_since how (IsRenewed how file noted forest) old drafted new renew-drafted
        (leaves-weaker moment left_since how (AlwaysHas (content_in Stopped draft))
        (IsRenewed how file noted forest) drafted new
        (λ c has. inr (λ next.
        ap stood_for (has next ∙ sym (append-nil (content_in Stopped draft))) ∙ makes.stood))
        third)
