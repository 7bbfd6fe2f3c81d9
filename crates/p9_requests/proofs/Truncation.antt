-- The file after a truncation.
use Rattle.std.proofs.Common.{◌≡◌, ℕ, true, false, Bor, List, [], ◌∷◌, Option, Some, None, IfSome}
use Rattle.std.proofs.Common.{IsSome, refl, ap, ◌∙◌}
use Rattle.std.specs.Option.{option_copied}
use Rattle.p9_base.specs.declared.node_ref.NodeRef.{NodeRef}
use Rattle.p9_base.specs.declared.qid.Qid.{Qid}
use Rattle.p9_tree.specs.Bytes.{cut_to}
use Rattle.p9_tree.specs.Node.{Node, marked, with_bytes}
use Rattle.p9_tree.specs.Server.{Server}
use Rattle.p9_tree.specs.Forest.{forest_changed_at, node_of}
use Rattle.p9_tree.proofs.Changed.{keeps-marked, keeps-with_bytes}
use Rattle.p9_step.specs.ForestChange.{ForestChange, Cut, EditNode, Mark, all_applied, applied}
use Rattle.p9_step.specs.ForestChange.{edited}
use Rattle.p9_step.specs.Qid.{qid_of}
use Rattle.p9_step.proofs.Found.{node_of-changed}

-- a file is cut to nothing and marked
abbrev pub cuts : List ℕ → ℕ → NodeRef → List ForestChange
cuts user now at = EditNode at (Cut 0) ∷ EditNode at (Mark user now) ∷ []

module _ (user : List ℕ) (now : ℕ) (at : NodeRef) (forest : List Server) where
  pub cuts-made : forest_changed_at at (marked user now)
      (forest_changed_at at (with_bytes (cut_to 0)) forest) ≡ all_applied (cuts user now at) forest
  unfolding applied edited
  cuts-made = refl

  -- the file is found as that leaves it
  cut-found : (n : Node) → node_of at forest ≡ Some n
      → node_of at (all_applied (cuts user now at) forest)
      ≡ Some (edited (Mark user now) (edited (Cut 0) n))
  unfolding applied edited
  cut-found n found =
      node_of-changed at (marked user now) (forest_changed_at at (with_bytes (cut_to 0)) forest)
      (with_bytes (cut_to 0) n) (keeps-marked user now)
      (node_of-changed at (with_bytes (cut_to 0)) forest n (keeps-with_bytes (cut_to 0)) found)

  -- the same of a file that is there
  pub cut-there : (forest' : List Server) → forest' ≡ all_applied (cuts user now at) forest
      → IfSome (node_of at forest)
      (λ n. node_of at forest' ≡ Some (edited (Mark user now) (edited (Cut 0) n)))
  cut-there forest' is = go (node_of at forest) refl
    where
      go : (found : Option Node) → node_of at forest ≡ found
          → IfSome found
          (λ n. node_of at forest' ≡ Some (edited (Mark user now) (edited (Cut 0) n)))
      go None e = tt
      go (Some n) e = ap (node_of at) is ∙ cut-found n e

-- what is there is there in another form
pub still_there : (f : Node → Node) (before after : Option Node) → IsSome before
    → IfSome before (λ n. after ≡ Some (f n)) → IsSome after
still_there f None after there is = let no : false ≡ true = there in cc
still_there f (Some n) after there is = rw is refl

-- the qid of what is found is that of the file in this form
pub qid-after : (f : Node → Node) (at : NodeRef) (before after : Option Node) (m : Node) (qid : Qid)
    → IfSome before (λ n. after ≡ Some (f n)) → after ≡ Some m → qid ≡ qid_of at m
    → IfSome before (λ n. qid ≡ qid_of at (f n))
qid-after f at None after m qid is found of = tt
qid-after f at (Some n) after m qid is found of =
    let same : m ≡ f n = cc in of ∙ ap (qid_of at) same

-- what is read through a reference is there
pub copied-some : {X : Type 0} (r : Option (Bor X)) → IsSome (option_copied r) → IsSome r
copied-some None there = there
copied-some (Some x) there = refl
