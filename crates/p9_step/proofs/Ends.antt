-- The end of fids.
use Rattle.std.proofs.Common.{◌≡◌, ◌≢◌, ℕ, ◌<◌, ◌&&◌, Bool, true, false, List, [], ◌∷◌, ◌++◌}
use Rattle.std.proofs.Common.{Option, Some, None, refl, ap, ◌∙◌, subst, arith}
use Rattle.std.specs.Prelude.{◌==◌, is_some, slice_get}
use Rattle.std.proofs.lemmas.Bool.{and_parts}
use Rattle.std.proofs.lemmas.Bool.Decides.{nat_tests}
use Rattle.p9_base.specs.declared.node_ref.NodeRef.{NodeRef}
use Rattle.p9_tree.specs.Node.{Node, is_above, is_dir, is_in}
use Rattle.p9_tree.specs.Server.{Server, WellFormed, child_after, is_dir_at, node_at}
use Rattle.p9_tree.specs.Forest.{IsForest, has_children_of, node_of}
use Rattle.p9_space.specs.Table.{MountRow}
use Rattle.p9_fids.specs.declared.opened.Opened.{Opened}
use Rattle.p9_fids.specs.Fid.{Fid, FidRow}
use Rattle.p9_step.specs.ForestChange.{ForestChange, DropNode, all_applied, applied}
use Rattle.p9_step.specs.Sound.{IsWellOpen, AreWellOpen}
use Rattle.p9_step.specs.State.{fid_file, fid_ref}
use Rattle.p9_step.specs.End.{on_end, on_ends, parent_marked}
use Rattle.p9_step.specs.End.{removes_on_close, taken_out}
use Rattle.p9_step.proofs.Members.{found-member, member-node_at}
use Rattle.p9_step.proofs.Changes.{AllSteady, evolves-all, keeps-mark}
use Rattle.p9_step.proofs.OpenFids.{fits-evolved}

-- what is found in a server that is well-formed or isn't there
pub record IsLeaf (at : NodeRef) (forest : List Server) : Type 0 where
  pub not_root : at.number ≢ 0
  pub empty : has_children_of at forest ≡ false

-- a node that is in a directory is no root
pub node_of-inner : (forest : List Server) (at : NodeRef) (n : Node) → IsForest forest
    → node_of at forest ≡ Some n → is_some n.parent ≡ true → at.number ≢ 0
node_of-inner forest at n sound found inner = by n.parent refl
  where
    go : (o : Option Server) → slice_get forest at.server ≡ o → (parent : ℕ)
        → n.parent ≡ Some parent → at.number ≡ 0 → ⊥
    go None e parent in_dir root = let none : None ≡ Some n = rw e at found in cc
    go (Some s) e parent in_dir root =
        let here : node_at at.number s.nodes ≡ Some n = rw e at found in
        let below : parent < at.number =
        (sound.servers at.server s e).parent_below at.number parent n here in_dir in
        omega arith

    by : (o : Option ℕ) → n.parent ≡ o → at.number ≡ 0 → ⊥
    by None e root = let no : false ≡ true = rw e at inner in cc
    by (Some parent) e root = go (slice_get forest at.server) refl parent e root

-- a node is in the directory that is its parent
in-parent : (k : ℕ) (m : Node) → is_in k m ≡ true → m.parent ≡ Some k
in-parent k m e = go m.parent refl
  where
    go : (o : Option ℕ) → m.parent ≡ o → m.parent ≡ Some k
    go None is = let no : false ≡ true = rw is at e in cc
    go (Some p) is =
        let same : (p == k) ≡ true = rw is at e in is ∙ ap Some (grind (arith, nat_tests))

module _ (s : Server) (k : ℕ) (n : Node) (well : WellFormed s) (found : node_at k s.nodes ≡ Some n)
    (file : is_dir n ≡ false) where
  not_dir : is_dir_at k s.nodes ≡ false
  not_dir = rw found file

  -- a file is not the root
  leaf-not_root : k ≢ 0
  leaf-not_root is =
      let root : is_dir_at 0 s.nodes ≡ true = well.root in
      let same : is_dir_at 0 s.nodes
      ≡ false = subst (λ j. is_dir_at j s.nodes ≡ false) is not_dir in cc

  -- nothing is in it
  leaf-empty : is_some (child_after k None s.nodes) ≡ false
  leaf-empty = go (child_after k None s.nodes) refl
    where
      go : (o : Option Node) → child_after k None s.nodes ≡ o
          → is_some (child_after k None s.nodes) ≡ false
      go None e = rw e refl
      go (Some m) e =
          let there = found-member (λ x. is_in k x && is_above None x) s.nodes m e in
          let here : node_at m.number s.nodes ≡ Some m =
          member-node_at m s.nodes well.rising there.0 in
          let inside : is_in k m ≡ true = (and_parts (is_in k m) (is_above None m) there.1).0 in
          let parent : m.parent ≡ Some k = in-parent k m inside in
          let dir : is_dir_at k s.nodes ≡ true = well.parent_dir m.number k m here parent in
          absurd (cc)

-- a file may be dropped
pub leaf : (forest : List Server) (at : NodeRef) (n : Node) → IsForest forest
    → node_of at forest ≡ Some n → is_dir n ≡ false → IsLeaf at forest
leaf forest at n sound found file = go (slice_get forest at.server) refl
  where
    go : (o : Option Server) → slice_get forest at.server ≡ o → IsLeaf at forest
    go None e = let none : None ≡ Some n = rw e at found in cc
    go (Some s) e =
        let there : node_at at.number s.nodes ≡ Some n = rw e at found in
        let well = sound.servers at.server s e in
        record {
          not_root = leaf-not_root s at.number n well there file;
          empty = rw e (leaf-empty s at.number n well there file);
        }

-- what is open with remove-on-close is a file
pub removed_file : (table : List MountRow) (forest : List Server) (v : Fid) (n : Node)
    → IsWellOpen table forest v → removes_on_close v ≡ true → fid_file table forest v ≡ Some n
    → is_dir n ≡ false
removed_file table forest v n fits removes found = go v.opened refl
  where
    dir_or_not : (o : Opened) → v.opened ≡ Some o → o.remove_on_close ≡ true → (b : Bool)
        → is_dir n ≡ b → is_dir n ≡ false
    dir_or_not o is closes true dir = let stays = (fits o is).stays n found dir in cc
    dir_or_not o is closes false file = file

    go : (o : Option Opened) → v.opened ≡ o → is_dir n ≡ false
    go None is = let no : false ≡ true = rw is at removes in cc
    go (Some o) is = dir_or_not o is (rw is at removes) (is_dir n) refl

-- one list of changes after another
pub applied-append : (xs ys : List ForestChange) (forest : List Server)
    → all_applied (xs ++ ys) forest ≡ all_applied ys (all_applied xs forest)
applied-append [] ys forest = refl
applied-append (x ∷ xs) ys forest = applied-append xs ys (applied x forest)

-- to mark a directory is steady
pub steady-parent_marked : (forest : List Server) (user : List ℕ) (now : ℕ) (at : NodeRef)
    (parent : Option ℕ) → AllSteady forest (parent_marked user now at parent)
steady-parent_marked forest user now at None = tt
steady-parent_marked forest user now at (Some p) = ((λ n found. keeps-mark user now n), tt)

-- to take out a node is steady
pub steady-taken_out : (forest : List Server) (user : List ℕ) (now : ℕ) (at : NodeRef) (n : Node)
    → AllSteady forest (taken_out user now at n)
steady-taken_out forest user now at n =
    (tt, steady-parent_marked (applied (DropNode at) forest) user now at n.parent)

module _ (table : List MountRow) (now : ℕ) where
  -- what the end of a fid changes is steady
  pub steady-on_end : (forest : List Server) (v : Fid)
      → AllSteady forest (on_end table now forest v)
  steady-on_end forest v = go (removes_on_close v) refl (fid_file table forest v) refl
    where
      go : (b : Bool) → removes_on_close v ≡ b → (o : Option Node) → fid_file table forest v ≡ o
          → AllSteady forest (on_end table now forest v)
      go false e o is = rw e tt
      go true e None is = rw (e, is) tt
      go true e (Some n) is = rw (e, is) (steady-taken_out forest v.user now (fid_ref table v) n)

  -- the first fid ends, then the others
  pub ends-first : (forest : List Server) (row : FidRow) (rows : List FidRow)
      → all_applied (on_ends table now forest (row ∷ rows)) forest
      ≡ all_applied (on_ends table now (all_applied (on_end table now forest row.1) forest) rows)
      (all_applied (on_end table now forest row.1) forest)
  ends-first forest row rows =
      applied-append (on_end table now forest row.1)
      (on_ends table now (all_applied (on_end table now forest row.1) forest) rows) forest

  -- what is kept of the others after the end of one
  pub fits-ended : (forest : List Server) (row : FidRow) (rows : List FidRow) → IsForest forest
      → AreWellOpen table forest (row ∷ rows)
      → AreWellOpen table (all_applied (on_end table now forest row.1) forest) rows
  fits-ended forest row rows sound fits =
      fits-evolved table forest (all_applied (on_end table now forest row.1) forest) sound
      (evolves-all forest (on_end table now forest row.1) (steady-on_end forest row.1)) rows fits.1

-- what is open with remove-on-close may be dropped
pub removed_leaf : (table : List MountRow) (forest : List Server) (v : Fid) (at : NodeRef)
    (n : Node) → IsForest forest → IsWellOpen table forest v → removes_on_close v ≡ true
    → at ≡ fid_ref table v → node_of at forest ≡ Some n → IsLeaf at forest
removed_leaf table forest v at n sound fits removes is found =
    leaf forest at n sound found
    (removed_file table forest v n fits removes
    (subst (λ r. node_of r forest ≡ Some n) is found))
