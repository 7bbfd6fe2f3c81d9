-- A server of which one node is changed as a wstat does is well-formed.
use Rattle.std.proofs.Common.{◌≡◌, ℕ, ◌≤◌, true, false, List, [], length, Option, Some, None}
use Rattle.std.proofs.Common.{IsTrue, IsFalse, refl, sym, ap, ◌∙◌, arith}
use Rattle.std.specs.Prelude.{◌==◌, IsSome, unwrap_or}
use Rattle.std.specs.Option.{ForSome, option_map_or}
use Rattle.std.proofs.lemmas.Bool.{and_parts, eqb-true}
use Rattle.std.proofs.lemmas.Slice.Eq.{bytes_eq-Decides}
use Rattle.std.proofs.lemmas.List.{length-append, length-take, length-replicate}
use Rattle.p9_base.specs.Name.{is_name}
use Rattle.p9_base.specs.declared.mode.Mode.{Mode}
use Rattle.p9_base.specs.Mode.{is_dir as is_dir_mode}
use Rattle.p9_tree.specs.declared.change.Change.{Change}
use Rattle.p9_tree.specs.Bytes.{resized, file_max}
use Rattle.p9_tree.specs.Change.{CanChange, CanChangeNode, changed}
use Rattle.p9_tree.specs.Node.{Node, IsTellable, is_child, is_dir, marked, root_name, with_bytes}
use Rattle.p9_tree.specs.Server.{Server, node_at, child_of, WellFormed}
use Rattle.p9_tree.proofs.Lookups.{node_at-found, number-node_at, passes-found}
use Rattle.p9_tree.proofs.Added.{child_of-None}
use Rattle.p9_tree.proofs.Changed.{KeepsParent, KeepsSound, IsApart}

-- bytes that are cut or grown to a number are no more
length-resized : (size : ℕ) (old : List ℕ) (limit : ℕ) → size ≤ limit
    → length (resized size old) ≤ limit
length-resized size old limit le = simp (length-take, length-append, length-replicate) (omega arith)

pub keeps-changed : (c : Change) → KeepsParent (changed c)
keeps-changed c = record { number = λ n. refl; parent = λ n. refl }

-- a node that gets a name isn't the root
pub named : (s : Server) (k : ℕ) (c : Change) (n : Node) → WellFormed s → CanChange s k c
    → node_at k s.nodes ≡ Some n → ForSome c.name (λ name. IsSome n.parent)
named s k c n w can found name given =
    let at : n.number ≡ k = number-node_at k s.nodes n found in
    go n.parent refl
  where
    go : (o : Option ℕ) → n.parent ≡ o → IsSome o
    go None none =
        absurd ((can n found).not_root name given
        (number-node_at k s.nodes n found ∙ w.only_root k n found none))
    go (Some p) e = refl

same_dir : (c : Change) (n : Node) → ForSome c.mode (λ mode. is_dir_mode mode ≡ is_dir n)
    → is_dir (changed c n) ≡ is_dir n
same_dir c n kind = go c.mode refl
  where
    go : (o : Option Mode) → c.mode ≡ o → is_dir_mode (unwrap_or o n.mode) ≡ is_dir n
    go None e = refl
    go (Some mode) e = kind mode e

module _ (s : Server) (n : Node) (c : Change) (can : CanChangeNode s n c)
    (valid : ForSome c.name (λ name. IsTrue (is_name name)))
    (in_dir : ForSome c.name (λ name. IsSome n.parent)) (told : IsTellable (changed c n)) where
  small : length n.bytes ≤ file_max → length (changed c n).bytes ≤ file_max
  small old = go c.length refl
    where
      go : (o : Option ℕ) → c.length ≡ o
          → length
          (option_map_or (λ size. marked c.user c.clock (with_bytes (resized size) n)) o n).bytes
          ≤ file_max
      go None e = old
      go (Some size) e = length-resized size n.bytes file_max (can.small size e)

  empty : IsTrue (is_dir n) → n.bytes ≡ [] → (changed c n).bytes ≡ []
  empty dir old = go c.length refl
    where
      go : (o : Option ℕ) → c.length ≡ o
          → (option_map_or (λ size. marked c.user c.clock (with_bytes (resized size) n)) o n).bytes
          ≡ []
      go None e = old
      go (Some size) e = let file : IsFalse (is_dir n) = can.file size e in absurd (cc)

  sound_name : ((p : ℕ) → n.parent ≡ Some p → IsTrue (is_name n.name)) → (p : ℕ) → n.parent ≡ Some p
      → IsTrue (is_name (changed c n).name)
  sound_name old p in_p = go c.name refl
    where
      go : (o : Option (List ℕ)) → c.name ≡ o → IsTrue (is_name (unwrap_or o n.name))
      go None e = old p in_p
      go (Some name) e = valid name e

  same_root : (n.parent ≡ None → n.name ≡ root_name) → n.parent ≡ None
      → (changed c n).name ≡ root_name
  same_root old none = go c.name refl
    where
      go : (o : Option (List ℕ)) → c.name ≡ o → unwrap_or o n.name ≡ root_name
      go None e = old none
      go (Some name) e = let in_p : IsSome n.parent = in_dir name e in absurd (cc)

  pub sound-changed : KeepsSound (changed c) n
  sound-changed = record {
    sound = λ w. record {
      small = small w.small;
      empty_dir =
          λ d. let dir : IsTrue (is_dir n) = sym (same_dir c n can.same_kind) ∙ d in
          empty dir (w.empty_dir dir);
      valid_name = sound_name w.valid_name;
      root_name = same_root w.root_name;
      tellable = told;
    };
    dir = λ w. same_dir c n can.same_kind;
  }

-- a child of a name is found by that name
child_of-there : (dir k : ℕ) (xs : List Node) (n : Node) → node_at k xs ≡ Some n
    → n.parent ≡ Some dir → (m : Node) × (child_of dir n.name xs ≡ Some m)
child_of-there dir k xs n e in_dir = go (child_of dir n.name xs) refl
  where
    go : (o : Option Node) → child_of dir n.name xs ≡ o
        → (m : Node) × (child_of dir n.name xs ≡ Some m)
    go None none = absurd (child_of-None dir k xs n none e in_dir)
    go (Some m) some = (m, some)

-- what is in the directory has it for its parent
parent-is_in : (dir : ℕ) (o : Option ℕ) → option_map_or (λ parent. parent == dir) o false ≡ true
    → o ≡ Some dir
parent-is_in dir None is = absurd (cc)
parent-is_in dir (Some p) is = ap Some (eqb-true p dir is)

-- what is found by a name is in the directory under it
is_child-found : (dir : ℕ) (name : List ℕ) (xs : List Node) (n : Node)
    → child_of dir name xs ≡ Some n → (n.parent ≡ Some dir) × (n.name ≡ name)
is_child-found dir name xs n e =
    let both = and_parts _ _ (passes-found (is_child dir name) xs n e) in
    (parent-is_in dir n.parent both.0, (bytes_eq-Decides n.name name).0 both.1)

-- no other child of its parent has the new name
pub apart-changed : (s : Server) (k : ℕ) (c : Change) → WellFormed s → CanChange s k c
    → IsApart k (changed c) s
apart-changed s k c w can n found j p m e in_n in_m = go c.name refl
  where
    go : (o : Option (List ℕ)) → c.name ≡ o → unwrap_or o n.name ≡ m.name → j ≡ k
    go None none same = w.siblings j k p m n e found in_m in_n (sym same)
    go (Some name) given same =
        let there = child_of-there p j s.nodes m e in_m in
        let first : child_of p name s.nodes ≡ Some there.0 =
        ap (λ (x : List ℕ). child_of p x s.nodes) same ∙ there.1 in
        let at : node_at there.0.number s.nodes ≡ Some there.0 =
        node_at-found (is_child p name) s.nodes there.0 w.rising first in
        let child = is_child-found p name s.nodes there.0 first in
        let one : there.0.number ≡ j =
        w.siblings there.0.number j p there.0 m at e child.0 in_m (child.1 ∙ same) in
        sym one ∙ (can n found).free name given p in_n there.0 first
        ∙ number-node_at k s.nodes n found
