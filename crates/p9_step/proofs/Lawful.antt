-- Changes that the rules permit: the forest is well-formed after them too.
use Rattle.std.proofs.Common.{Bool, IsTrue, List, None, Option, Some, [], ap, arith, false, inl}
use Rattle.std.proofs.Common.{inr, length, refl, remove, subst, suc, sym, true, zero, ℕ, ◌++◌, ◌+◌}
use Rattle.std.proofs.Common.{◌<◌, ◌^◌, ◌∙◌, ◌∷◌, ◌≡◌, ◌≤◌, ◌⊎◌}
use Rattle.std.proofs.Math.Nat.{mod-lt}
use Rattle.std.proofs.lemmas.List.{length-set}
use Rattle.std.specs.List.{AllByRecursion}
use Rattle.std.specs.Prelude.{position, slice_get, slice_set, unwrap_or}
use Rattle.p9_base.specs.Name.{is_name}
use Rattle.p9_base.specs.NodeRef.{beside}
use Rattle.p9_base.specs.User.{is_user}
use Rattle.p9_base.specs.declared.node_ref.NodeRef.{NodeRef}
use Rattle.p9_tree.specs.Bytes.{file_max, overwritten}
use Rattle.p9_tree.specs.Forest.{IsForest, next_of, no_server, node_of, server_at, tree_changed_at}
use Rattle.p9_tree.specs.Node.{IsTellable, Node, has_number, is_dir}
use Rattle.p9_tree.specs.Server.{CanAdd, IsSound, Server, WellFormed, added, node_at, with_changed}
use Rattle.p9_tree.specs.Server.{with_dropped, with_nodes}
use Rattle.p9_tree.proofs.Added.{WellFormed-added}
use Rattle.p9_tree.proofs.BytesLemmas.{length-overwritten}
use Rattle.p9_tree.proofs.Changed.{IsApart, KeepsParent, KeepsSound, WellFormed-changed}
use Rattle.p9_tree.proofs.Changed.{sound-cut_to, sound-marked, sound-touched, sound-with_bytes}
use Rattle.p9_tree.proofs.Dropped.{WellFormed-remove}
use Rattle.p9_tree.proofs.Lookups.{absent-dropped_at, remove-dropped_at}
use Rattle.p9_space.specs.Table.{MountRow}
use Rattle.p9_fids.specs.Fid.{Fid, FidRow}
use Rattle.p9_step.specs.ForestChange.{AddNode, ForestChange, Cut, DropNode, Edit, EditNode, Mark, Overwrite}
use Rattle.p9_step.specs.ForestChange.{Rewrite, Touch, all_applied, applied, edited}
use Rattle.p9_step.specs.End.{on_end, on_ends, parent_marked, removes_on_close, taken_out}
use Rattle.p9_step.specs.Sound.{IsWellOpen, AreWellOpen}
use Rattle.p9_step.specs.State.{fid_file, fid_ref}
use Rattle.p9_step.proofs.Changes.{AllSteady, IsSteady, evolves-all}
use Rattle.p9_step.proofs.Ends.{IsLeaf, fits-ended, removed_leaf}
use Rattle.p9_step.proofs.Evolves.{Evolves, server_well}
use Rattle.p9_step.proofs.Members.{found-member}

-- an edit keeps the node sound, and no sibling has the name that it gives
pub record EditFits (forest : List Server) (at : NodeRef) (edit : Edit) : Type 0 where
  pub sound : (n : Node) → node_of at forest ≡ Some n → KeepsSound (edited edit) n
  pub apart : IsApart at.number (edited edit) (server_at at.server forest)

-- a node may join the server
pub record AddFits (forest : List Server) (server : ℕ) (n : Node) : Type 0 where
  pub dir : ℕ
  pub can : CanAdd (server_at server forest) dir n
  pub number : n.number ≡ next_of server forest
  pub parent : n.parent ≡ Some dir
  pub name : IsTrue (is_name n.name)
  pub told : IsTellable n

-- a change that the rules permit
abbrev pub IsLawful : List Server → ForestChange → Type 0
IsLawful forest (EditNode at edit) = EditFits forest at edit
IsLawful forest (AddNode server n) = AddFits forest server n
IsLawful forest (DropNode at) = IsLeaf at forest

-- the same of each of them, one after another
abbrev pub AllLawful : List Server → List ForestChange → Type 0
AllLawful forest [] = Unit {0}
AllLawful forest (change ∷ changes) =
    IsLawful forest change × AllLawful (applied change forest) changes

-- an edit leaves a node where it is
pub edit_keeps : (edit : Edit) → KeepsParent (edited edit)
unfolding edited
edit_keeps (Mark user now) = record { number = λ n. refl; parent = λ n. refl }
edit_keeps (Touch now) = record { number = λ n. refl; parent = λ n. refl }
edit_keeps (Overwrite offset bytes) = record { number = λ n. refl; parent = λ n. refl }
edit_keeps (Cut size) = record { number = λ n. refl; parent = λ n. refl }
edit_keeps (Rewrite change) = record { number = λ n. refl; parent = λ n. refl }

-- The forest stays well-formed.

-- a server after a change of one is an old one, or that one
set_gets : (forest : List Server) (server k : ℕ) (new t : Server)
    → slice_get (slice_set forest server new) k ≡ Some t
    → (slice_get forest k ≡ Some t)
    ⊎ ((s : Server) × (slice_get forest server ≡ Some s) × (new ≡ t))
set_gets [] server k new t e = inl e
set_gets (s ∷ ss) zero zero new t e = inr (s, refl, cc)
set_gets (s ∷ ss) zero (suc k) new t e = inl e
set_gets (s ∷ ss) (suc server) zero new t e = inl e
set_gets (s ∷ ss) (suc server) (suc k) new t e = set_gets ss server k new t e

forest_tree : (forest : List Server) (server : ℕ) (change : Server → Server) → IsForest forest
    → ((s : Server) → slice_get forest server ≡ Some s → server_at server forest ≡ s
    → WellFormed s → WellFormed (change s)) → IsForest (tree_changed_at server change forest)
forest_tree forest server change sound keeps = record {
  few =
      (let few = sound.few in
      omega (arith, length-set forest server (change (server_at server forest))));
  servers = λ k t e. elim (set_gets forest server k (change (server_at server forest)) t e) [
    | inl old ↦ sound.servers k t old
    | inr there ↦
        (let is : server_at server forest ≡ there.0 = ap (λ o. unwrap_or o no_server) there.1 in
        subst WellFormed (sym (ap change is) ∙ there.2)
        (keeps there.0 there.1 is (sound.servers server there.0 there.1)))
  ];
}

dropped-well : (s : Server) (at : NodeRef) (forest : List Server) → server_at at.server forest ≡ s
    → WellFormed s → IsLeaf at forest → WellFormed (with_dropped at.number s)
dropped-well s at forest is well leaf = go (position (has_number at.number) s.nodes) refl
  where
    go : (i : Option ℕ) → position (has_number at.number) s.nodes ≡ i
        → WellFormed (with_dropped at.number s)
    go None e =
        subst (λ ns. WellFormed (with_nodes s ns)) (absent-dropped_at at.number s.nodes e) well
    go (Some i) e =
        subst (λ ns. WellFormed (with_nodes s ns))
        (remove-dropped_at at.number s.nodes (remove s.nodes i) i e refl)
        (WellFormed-remove s at.number i well e leaf.not_root (rw is at leaf.empty))

-- after a lawful change the forest is well-formed
pub forest-applied : (forest : List Server) (change : ForestChange) → IsForest forest
    → IsLawful forest change → IsForest (applied change forest)
unfolding applied
forest-applied forest (EditNode at edit) sound fits =
    forest_tree forest at.server (with_changed at.number (edited edit)) sound
    (λ s there is well. WellFormed-changed at.number (edited edit) (edit_keeps edit) s well
    (λ n found. fits.sound n (ap (λ (t : Server). node_at at.number t.nodes) is ∙ found))
    (subst (IsApart at.number (edited edit)) is fits.apart))
forest-applied forest (AddNode server n) sound fits =
    forest_tree forest server (λ s. added s n) sound
    (λ s there is well. WellFormed-added s fits.dir n well
    (subst (λ t. CanAdd t fits.dir n) is fits.can)
    (fits.number ∙ ap (λ (t : Server). t.next) is) fits.parent fits.name fits.told)
forest-applied forest (DropNode at) sound leaf =
    forest_tree forest at.server (with_dropped at.number) sound
    (λ s there is well. dropped-well s at forest is well leaf)

-- and after all of them
pub forest-all : (forest : List Server) (changes : List ForestChange) → IsForest forest
    → AllLawful forest changes → IsForest (all_applied changes forest)
forest-all forest [] sound lawful = sound
forest-all forest (change ∷ changes) sound lawful =
    forest-all (applied change forest) changes (forest-applied forest change sound lawful.0)
    lawful.1

-- a node that exists is sound
pub node-sound : (forest : List Server) → IsForest forest → (at : NodeRef) (n : Node)
    → node_of at forest ≡ Some n → IsSound n
node-sound forest sound at n found = go (slice_get forest at.server) refl
  where
    go : (o : Option Server) → slice_get forest at.server ≡ o → IsSound n
    go None e = let none : None ≡ Some n = rw e at found in absurd (cc)
    go (Some s) e =
        let here : node_at at.number s.nodes ≡ Some n = rw e at found in
        (sound.servers at.server s e).sound at.number n here

-- A lawful change is steady.

pub steady : (forest : List Server) (change : ForestChange) → IsForest forest → IsLawful forest change
    → IsSteady forest change
steady forest (EditNode at edit) sound fits =
    λ n found. record {
      number = (edit_keeps edit).number n;
      dir = (fits.sound n found).dir (node-sound forest sound at n found);
    }
steady forest (AddNode server node) sound fits = fits.number
steady forest (DropNode at) sound leaf = tt

pub all_steady : (forest : List Server) (changes : List ForestChange) → IsForest forest
    → AllLawful forest changes → AllSteady forest changes
all_steady forest [] sound lawful = tt
all_steady forest (change ∷ changes) sound lawful = (
  steady forest change sound lawful.0,
  all_steady (applied change forest) changes (forest-applied forest change sound lawful.0)
      lawful.1,
)

-- after lawful changes the forest has evolved
pub evolves-lawful : (forest : List Server) (changes : List ForestChange) → IsForest forest
    → AllLawful forest changes → Evolves forest (all_applied changes forest)
evolves-lawful forest changes sound lawful =
    evolves-all forest changes (all_steady forest changes sound lawful)

-- lawful changes, one list after another, are lawful
pub lawful-append : (forest : List Server) (xs ys : List ForestChange) → AllLawful forest xs
    → AllLawful (all_applied xs forest) ys → AllLawful forest (xs ++ ys)
lawful-append forest [] ys first second = second
lawful-append forest (x ∷ xs) ys first second =
    (first.0, lawful-append (applied x forest) xs ys first.1 second)

-- The edits of requests.

-- a node that keeps its name stays apart from its siblings
apart-kept : (forest : List Server) → IsForest forest → (at : NodeRef) (f : Node → Node)
    → ((n : Node) → (f n).name ≡ n.name) → IsApart at.number f (server_at at.server forest)
apart-kept forest sound at f keeps n found j p m other in_n in_m same =
    let well = server_well forest at.server n sound
    (found-member (has_number at.number) (server_at at.server forest).nodes n found).0 in
    well.siblings j at.number p m n other found in_m in_n (sym same ∙ keeps n)

module _ (forest : List Server) (sound : IsForest forest) where
  -- a mark by a user, at a time of 32 bits
  pub lawful-mark : (at : NodeRef) (user : List ℕ) (now : ℕ) → is_user user ≡ true → now < 2 ^ 32
      → EditFits forest at (Mark user now)
  unfolding edited
  lawful-mark at user now valid short = record {
    sound =
        λ n found. let told = (node-sound forest sound at n found).tellable in
        sound-marked user now n (
          (told.0.0, told.0.1, valid),
          (mod-lt (n.version + 1) (omega arith), short, short),
        );
    apart = apart-kept forest sound at (edited (Mark user now)) (λ n. refl);
  }

  pub lawful-touch : (at : NodeRef) (now : ℕ) → now < 2 ^ 32 → EditFits forest at (Touch now)
  unfolding edited
  lawful-touch at now short = record {
    sound =
        λ n found. let told = (node-sound forest sound at n found).tellable in
        sound-touched now n (told.0, (told.1.0, short, told.1.2));
    apart = apart-kept forest sound at (edited (Touch now)) (λ n. refl);
  }

  pub lawful-cut : (at : NodeRef) (size : ℕ) → EditFits forest at (Cut size)
  unfolding edited
  lawful-cut at size = record {
    sound = λ n found. sound-cut_to size n;
    apart = apart-kept forest sound at (edited (Cut size)) (λ n. refl);
  }

  -- a write into a file, up to the greatest length
  pub lawful-overwrite : (at : NodeRef) (n : Node) (place : ℕ) (bytes : List ℕ)
      → node_of at forest ≡ Some n → is_dir n ≡ false → place + length bytes ≤ file_max
      → EditFits forest at (Overwrite place bytes)
  unfolding edited
  lawful-overwrite at n place bytes found file short = record {
    sound =
        λ m there. sound-with_bytes (overwritten place bytes) m
        (length-overwritten place bytes m.bytes file_max short)
        (λ dir _. let same : Some m ≡ Some n = sym there ∙ found in
        let it : m ≡ n = cc in
        let no : true ≡ false = sym dir ∙ ap is_dir it ∙ file in
        absurd (cc));
    apart = apart-kept forest sound at (edited (Overwrite place bytes)) (λ n. refl);
  }

module _ (table : List MountRow) (now : ℕ) (short : now < 2 ^ 32) where
  -- to mark a directory is lawful
  pub lawful-parent_marked : (forest : List Server) (user : List ℕ) (at : NodeRef)
      (parent : Option ℕ) → IsForest forest → is_user user ≡ true
      → AllLawful forest (parent_marked user now at parent)
  lawful-parent_marked forest user at None sound valid = tt
  lawful-parent_marked forest user at (Some p) sound valid =
      (lawful-mark forest sound (beside at p) user now valid short, tt)

  -- to take out a leaf is lawful
  pub lawful-taken_out : (forest : List Server) (user : List ℕ) (at : NodeRef) (n : Node)
      → IsForest forest → is_user user ≡ true → IsLeaf at forest
      → AllLawful forest (taken_out user now at n)
  lawful-taken_out forest user at n sound valid its = (
    its,
    lawful-parent_marked (applied (DropNode at) forest) user at n.parent
        (forest-applied forest (DropNode at) sound its) valid,
  )

  -- what the end of a fid changes is lawful
  pub lawful-on_end : (forest : List Server) (v : Fid) → IsForest forest → is_user v.user ≡ true
      → IsWellOpen table forest v → AllLawful forest (on_end table now forest v)
  lawful-on_end forest v sound valid fits =
      go (removes_on_close v) refl (fid_file table forest v) refl
    where
      go : (b : Bool) → removes_on_close v ≡ b → (o : Option Node) → fid_file table forest v ≡ o
          → AllLawful forest (on_end table now forest v)
      go false e o is = rw e tt
      go true e None is = rw (e, is) tt
      go true e (Some n) is =
          rw (e, is)
          (lawful-taken_out forest v.user (fid_ref table v) n sound valid
          (removed_leaf table forest v (fid_ref table v) n sound fits e refl is))

  -- and what the end of all of them does
  pub lawful-on_ends : (forest : List Server) (fids : List FidRow) → IsForest forest
      → AllByRecursion (λ row. is_user row.1.user ≡ true) fids → AreWellOpen table forest fids
      → AllLawful forest (on_ends table now forest fids)
  lawful-on_ends forest [] sound valid fits = tt
  lawful-on_ends forest (row ∷ rows) sound valid fits =
      let here = lawful-on_end forest row.1 sound valid.0 fits.0 in
      lawful-append forest (on_end table now forest row.1)
      (on_ends table now (all_applied (on_end table now forest row.1) forest) rows) here
      (lawful-on_ends (all_applied (on_end table now forest row.1) forest) rows
      (forest-all forest (on_end table now forest row.1) sound here) valid.1
      (fits-ended table now forest row rows sound fits))
