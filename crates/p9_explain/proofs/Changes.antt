-- Whether a name space is fixed, in words.
use Rattle.std.proofs.Common.{◌≡◌, ℕ, List, [], ◌++◌, Option, Some, length, sym, ap, ◌∙◌, subst, append_assoc}
use Rattle.std.specs.Prelude.{codes}
use Rattle.p9_base.specs.declared.node_ref.NodeRef.{NodeRef}
use Rattle.p9_cert.specs.Policy.{policy_of}
use Rattle.p9_prepared.specs.NameSpace.{NameSpace}
use Rattle.p9_prepared.specs.Path.{path_of}
use Rattle.p9_fixed.specs.Change.{first_change}
use Rattle.p9_fixed.specs.declared.change.Change.{Change}
use Rattle.p9_shown.specs.Text.{shown_text}
use Rattle.p9_world.specs.World.{World}
use Rattle.p9_explain.specs.Change.{IsChangeTold, IsDeedTold, IsFirstTold, IsKindTold, IsReachTold}
use Rattle.p9_explain.specs.Change.{IsVerb, reach_text}
use Rattle.p9_explain.specs.Free.{first_line, free_lines}

module _ (world : World) (change : Change) where
  -- the line of a change, by its parts
  pub deed-told : (user text name verb path right said : List ℕ) → IsVerb change.kind verb
      → name ≡ shown_text user → path ≡ shown_text (path_of world change.member)
      → right ≡ first_line said
      → text ≡ name ++ (verb ++ (path ++ (right ++ codes "\n"))) → IsDeedTold world change user text
  deed-told user text name verb path right said is_verb name_is path_is right_is written = record {
    verb = verb;
    is_verb = is_verb;
    right = said;
    is = rw (written, name_is, path_is, right_is) (simp append_assoc);
  }

module _ (space : NameSpace) (rows : List NodeRef) where
  -- of a change
  pub changeable-told : (found : Option Change) (change : Change) (words text : List ℕ)
      → found ≡ Some change
      → found ≡ first_change (policy_of space.world) space.world.forest space.table rows
      → IsChangeTold space.world change words → text ≡ codes "changeable: " ++ words
      → IsKindTold space rows text
  changeable-told found change words text some same told written =
      subst (λ (o : Option Change). IsFirstTold space.world o text) (sym some ∙ same)
      (words, told, written)

  -- what follows a yes, by its parts
  pub reach-told : (count : ℕ) (text reach kind hints none said : List ℕ) → count ≡ length rows
      → reach ≡ reach_text count → none ≡ [] → hints ≡ none ++ free_lines said
      → IsKindTold space rows kind → text ≡ reach ++ (kind ++ hints) → IsReachTold space rows text
  reach-told count text reach kind hints none said count_is reach_is none_is hints_is told written = record {
    kind = kind;
    hints = hints;
    told = told;
    free = (said, hints_is ∙ ap (λ n. n ++ free_lines said) none_is);
    is =
        written
        ∙ ap (λ r. r ++ (kind ++ hints)) (reach_is ∙ ap reach_text count_is)
        ∙ sym (append_assoc (reach_text (length rows)) kind hints);
  }
