-- A name that was never entered is free, and what is entered stays so.
use Rattle.std.proofs.Common.{◌≡◌, ℕ, Bool, true, false, cond, List, [], ◌∷◌, Option, Some, None}
use Rattle.std.proofs.Common.{refl, sym, ap, ◌∙◌, subst}
use Rattle.std.specs.Prelude.{◌==◌}
use Rattle.std.specs.Option.{option_map_or}
use Rattle.std.proofs.lemmas.Bool.{and_parts, eqb-true}
use Rattle.std.proofs.lemmas.Slice.Eq.{bytes_eq-Decides}
use Rattle.std.proofs.lemmas.List.Elements.{All-cons, All-head, All-nil, All-push, All-tail, All-weaker}
use Rattle.p9_tree.specs.declared.saved.Saved.{Saved}
use Rattle.p9_tree.specs.Node.{Node, has_number, is_child}
use Rattle.p9_tree.specs.Saved.{put_back, saved_node, skipped_to, with_fields}
use Rattle.p9_tree.specs.Server.{Server, added, changed_at, child_of, with_changed}
use Rattle.p9_tree.proofs.Changed.{KeepsPlace, keeps-with_fields}
use Rattle.p9_kept.specs.Entered.{AreEntered, IsEntered, KeepsEntered, may_have}

-- what is in the directory has it for its parent
parent-is_in : (dir : ℕ) (o : Option ℕ) → option_map_or (λ parent. parent == dir) o false ≡ true
    → o ≡ Some dir
parent-is_in dir None is = absurd (cc)
parent-is_in dir (Some p) is = ap Some (eqb-true p dir is)

-- a node of the name in the directory
child-is_in : (dir : ℕ) (name : List ℕ) (n : Node) → is_child dir name n ≡ true
    → (n.parent ≡ Some dir) × (n.name ≡ name)
child-is_in dir name n is =
    let both = and_parts _ _ is in
    (parent-is_in dir n.parent both.0, (bytes_eq-Decides n.name name).0 both.1)

-- a name that can't be in a directory is free there
pub free-unless_entered : (slots : List Bool) (dir : ℕ) (name : List ℕ) (nodes : List Node)
    → AreEntered slots nodes → may_have slots dir name ≡ false → child_of dir name nodes ≡ None
free-unless_entered slots dir name [] all never = refl
free-unless_entered slots dir name (n ∷ ns) all never =
    elim (is_child dir name n) as (λ b. is_child dir name n ≡ b
    → cond b (Some n) (child_of dir name ns) ≡ None) [
      | true ↦ λ here.
          absurd (
          let at = child-is_in dir name n here in
          let there : may_have slots dir name ≡ true =
          subst (λ m. may_have slots dir m ≡ true) at.1
          (All-head (IsEntered slots) n ns all dir at.0) in
          cc
          )
      | false ↦ λ other. free-unless_entered slots dir name ns
          (All-tail (IsEntered slots) n ns all) never
    ] refl

-- nodes stay entered where what may be there stays so
pub entered-kept : (old new : List Bool) → KeepsEntered old new → (nodes : List Node)
    → AreEntered old nodes → AreEntered new nodes
entered-kept old new keeps nodes =
    All-weaker (IsEntered old) (IsEntered new)
    (λ n is dir parent. keeps dir n.name (is dir parent)) nodes

-- and where one is changed that stays in its place
pub entered-changed : (slots : List Bool) (k : ℕ) (f : Node → Node) → KeepsPlace f
    → (nodes : List Node) → AreEntered slots nodes → AreEntered slots (changed_at k f nodes)
entered-changed slots k f keeps [] all = All-nil (IsEntered slots)
entered-changed slots k f keeps (n ∷ ns) all =
    let head : IsEntered slots n = All-head (IsEntered slots) n ns all in
    let tail : AreEntered slots ns = All-tail (IsEntered slots) n ns all in
    let moved : IsEntered slots (f n) =
    λ dir parent. subst (λ m. may_have slots dir m ≡ true) (sym (keeps.name n))
    (head dir (sym (keeps.in_dir.parent n) ∙ parent)) in
    elim (has_number k n) as (λ b. AreEntered slots (cond b (f n ∷ ns) (n ∷ changed_at k f ns))) [
      | true ↦ All-cons (IsEntered slots) (f n) ns moved tail
      | false ↦ All-cons (IsEntered slots) n (changed_at k f ns) head
          (entered-changed slots k f keeps ns tail)
    ]

-- a node that is put back is entered with the others
pub entered-put_back : (old new : List Bool) (n : Node) (s : Server) → KeepsEntered old new
    → AreEntered old s.nodes → IsEntered new n → AreEntered new (put_back n s).nodes
entered-put_back old new n s keeps all is =
    let others : AreEntered new s.nodes = entered-kept old new keeps s.nodes all in
    elim n.parent as (λ o. AreEntered new (option_map_or (λ (dir : ℕ). added (skipped_to n.number s) n) o
    (with_changed 0 (with_fields n) s)).nodes) [
      | None ↦ entered-changed new 0 (with_fields n) (keeps-with_fields n) s.nodes others
      | Some dir ↦ All-push (IsEntered new) s.nodes n others is
    ]

-- a saved root is in no directory
pub root-entered : (slots : List Bool) (saved : Saved) → saved.entry ≡ None
    → IsEntered slots (saved_node saved)
root-entered slots saved none = λ dir parent. absurd (cc)
