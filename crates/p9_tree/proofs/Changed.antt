-- A server of which one node is changed in its place is well-formed.
use Rattle.std.proofs.Common.{◌≡◌, ℕ, zero, suc, ◌+◌, ◌<◌, ◌≤◌, false, cond, eqb, List, [], ◌∷◌}
use Rattle.std.proofs.Common.{◌⊎◌, length, get_or, set, Some, None, Result, Ok, Err, IsTrue}
use Rattle.std.proofs.Common.{IsFalse, refl, sym, ap, ◌∙◌, subst, inl, inr, arith}
use Rattle.std.specs.Option.{option_map, option_map_or}
use Rattle.std.specs.Result.{OnOk, OnErr}
use Rattle.std.proofs.Math.Seq.{take-nil}
use Rattle.std.specs.List.{position}
use Rattle.std.proofs.lemmas.Bool.Decides.{nat_tests}
use Rattle.p9_base.specs.declared.mode.Permissions.{Permissions}
use Rattle.p9_tree.specs.Bytes.{overwritten, cut_to, file_max}
use Rattle.p9_tree.specs.Node.{Node, IsTellable, has_number, is_dir, marked, touched, with_bytes}
use Rattle.p9_tree.specs.Node.{with_owner}
use Rattle.p9_tree.specs.Saved.{with_fields}
use Rattle.p9_tree.specs.Server.{Server, node_at, is_dir_at, IsSound, WellFormed, changed_at}
use Rattle.p9_tree.specs.Server.{with_nodes, with_changed}
use Rattle.p9_tree.proofs.BytesLemmas.{length-cut_to, length-overwritten}
use Rattle.p9_tree.proofs.Lookups.{node_at-position, set-changed_at}

-- a change that leaves each node in its directory
pub record KeepsParent (f : Node → Node) : Type 0 where
  pub number : (n : Node) → (f n).number ≡ n.number
  pub parent : (n : Node) → (f n).parent ≡ n.parent

-- and under its name
pub record KeepsPlace (f : Node → Node) : Type 0 where
  pub in_dir : KeepsParent f
  pub name : (n : Node) → (f n).name ≡ n.name

-- no other node of its directory has the name that the node of the number gets
abbrev pub IsApart : ℕ → (Node → Node) → Server → Type 0
IsApart k f s = (n : Node) → node_at k s.nodes ≡ Some n
    → (j p : ℕ) (m : Node) → node_at j s.nodes ≡ Some m
    → n.parent ≡ Some p → m.parent ≡ Some p → (f n).name ≡ m.name → j ≡ k

-- a change that leaves the node sound, and a directory or a file as it is
pub record KeepsSound (f : Node → Node) (n : Node) : Type 0 where
  pub sound : IsSound n → IsSound (f n)
  pub dir : IsSound n → is_dir (f n) ≡ is_dir n

module _ (k : ℕ) (f : Node → Node) (keeps : KeepsParent f) where
  -- a look-up after the change
  pub node_at-changed_at : (j : ℕ) (xs : List Node)
      → node_at j (changed_at k f xs)
      ≡ (cond (eqb j k) (option_map f (node_at k xs)) (node_at j xs))
  node_at-changed_at j [] = grind (arith, nat_tests)
  node_at-changed_at j (x ∷ xs) = grind (arith, nat_tests, keeps.number x, node_at-changed_at j xs)

  length-changed_at : (xs : List Node) → length (changed_at k f xs) ≡ length xs
  length-changed_at [] = refl
  length-changed_at (x ∷ xs) = grind (arith, length-changed_at xs)

  number-get_or-changed_at : (xs : List Node) (i : ℕ) (d : Node)
      → (get_or (changed_at k f xs) i d).number ≡ (get_or xs i d).number
  number-get_or-changed_at [] i d = refl
  number-get_or-changed_at (x ∷ xs) zero d = grind (arith, keeps.number x)
  number-get_or-changed_at (x ∷ xs) (suc i) d = grind (arith, number-get_or-changed_at xs i d)

  -- what is found afterwards was there, changed or as it is
  was : (j : ℕ) (xs : List Node) (n : Node) → node_at j (changed_at k f xs) ≡ Some n
      → (m : Node) × (node_at j xs ≡ Some m) × (((j ≡ k) × (f m ≡ n)) ⊎ (m ≡ n))
  was j xs n e =
      elim (node_at j xs) as (λ o. node_at j xs ≡ o
      → (m : Node) × (node_at j xs ≡ Some m) × (((j ≡ k) × (f m ≡ n)) ⊎ (m ≡ n))) [
        | None ↦ λ at. absurd (grind (arith, nat_tests, node_at-changed_at j xs))
        | Some m ↦ λ at. (m, at, grind (arith, nat_tests, node_at-changed_at j xs))
      ] refl

  -- and was in the same directory
  was_in : (j : ℕ) (m n : Node) → ((j ≡ k) × (f m ≡ n)) ⊎ (m ≡ n) → m.parent ≡ n.parent
  was_in j m n (inl changed) = sym (keeps.parent m) ∙ ap (λ (x : Node). x.parent) changed.1
  was_in j m n (inr same) = ap (λ (x : Node). x.parent) same

  is_dir_at-changed_at : (j : ℕ) (xs : List Node)
      → ((n : Node) → node_at k xs ≡ Some n → is_dir (f n) ≡ is_dir n)
      → is_dir_at j (changed_at k f xs) ≡ is_dir_at j xs
  is_dir_at-changed_at j xs dir =
      elim (node_at k xs) as (λ o. node_at k xs ≡ o
      → is_dir_at j (changed_at k f xs) ≡ is_dir_at j xs) [
        | None ↦ λ at. grind (arith, nat_tests, node_at-changed_at j xs)
        | Some m ↦ λ at. grind (arith, nat_tests, node_at-changed_at j xs, dir m at)
      ] refl

  module _ (s : Server) (w : WellFormed s)
      (sound : (n : Node) → node_at k s.nodes ≡ Some n → KeepsSound f n)
      (apart : IsApart k f s) where
    -- nodes of one directory and one name are one
    one_name : (i j p : ℕ) (m n : Node) → node_at i (changed_at k f s.nodes) ≡ Some m
        → node_at j (changed_at k f s.nodes) ≡ Some n → m.parent ≡ Some p → n.parent ≡ Some p
        → m.name ≡ n.name → i ≡ j
    one_name i j p m n e1 e2 in_m in_n same =
        let a = was i s.nodes m e1 in
        let b = was j s.nodes n e2 in
        let in_a : (a.0).parent ≡ Some p = was_in i a.0 m a.2 ∙ in_m in
        let in_b : (b.0).parent ≡ Some p = was_in j b.0 n b.2 ∙ in_n in
        elim a.2 [
          | inl new ↦ elim b.2 [
            | inl new2 ↦ new.0 ∙ sym new2.0
            | inr old ↦ new.0
                ∙ sym (apart a.0 (subst (λ q. node_at q s.nodes ≡ Some a.0) new.0 a.1) j p b.0 b.1
                in_a in_b (ap (λ (x : Node). x.name) new.1 ∙ same
                ∙ ap (λ (x : Node). x.name) (sym old)))
          ]
          | inr old ↦ elim b.2 [
            | inl new ↦ apart b.0 (subst (λ q. node_at q s.nodes ≡ Some b.0) new.0 b.1) i p a.0 a.1
                in_b in_a (ap (λ (x : Node). x.name) new.1 ∙ sym same
                ∙ ap (λ (x : Node). x.name) (sym old)) ∙ sym new.0
            | inr old2 ↦ w.siblings i j p a.0 b.0 a.1 b.1 in_a in_b
                (ap (λ (x : Node). x.name) old ∙ same ∙ ap (λ (x : Node). x.name) (sym old2))
          ]
        ]

    same_dir : (j : ℕ) → is_dir_at j (changed_at k f s.nodes) ≡ is_dir_at j s.nodes
    same_dir j = is_dir_at-changed_at j s.nodes (λ n e. (sound n e).dir (w.sound k n e))

    pub WellFormed-changed : WellFormed (with_changed k f s)
    WellFormed-changed = record {
      few = w.few;
      rising =
          λ i j d lt in_range. let old : j
          < length s.nodes = omega (arith, length-changed_at s.nodes) in
          omega (
            arith,
            number-get_or-changed_at s.nodes i d,
            number-get_or-changed_at s.nodes j d,
            w.rising i j d lt old,
          );
      below =
          λ i d in_range. let old : i < length s.nodes = omega (arith, length-changed_at s.nodes) in
          omega (arith, number-get_or-changed_at s.nodes i d, w.below i d old);
      sound = λ j n e. let b = was j s.nodes n e in elim b.2 [
        | inl changed ↦
            (let found : node_at k s.nodes
            ≡ Some b.0 = subst (λ q. node_at q s.nodes ≡ Some b.0) changed.0 b.1 in
            subst IsSound changed.1 ((sound b.0 found).sound (w.sound k b.0 found)))
        | inr same ↦ subst IsSound same (w.sound j b.0 b.1)
      ];
      root = same_dir 0 ∙ w.root;
      only_root =
          λ j n e no_parent. let b = was j s.nodes n e in
          w.only_root j b.0 b.1 (was_in j b.0 n b.2 ∙ no_parent);
      parent_below =
          λ j p n e in_p. let b = was j s.nodes n e in
          w.parent_below j p b.0 b.1 (was_in j b.0 n b.2 ∙ in_p);
      parent_dir =
          λ j p n e in_p. let b = was j s.nodes n e in
          same_dir p ∙ w.parent_dir j p b.0 b.1 (was_in j b.0 n b.2 ∙ in_p);
      siblings = one_name;
    }

-- the same of a node that is written over, at its place
pub WellFormed-set_apart : (k : ℕ) (f : Node → Node) (s : Server) (i : ℕ) (n y : Node)
    → position (has_number k) s.nodes ≡ Some i → n ≡ get_or s.nodes i n → y ≡ f n → KeepsParent f
    → KeepsSound f n → IsApart k f s → WellFormed s → WellFormed (with_nodes s (set s.nodes i y))
WellFormed-set_apart k f s i n y place read new keeps sound apart w =
    let found : node_at k s.nodes ≡ Some n = node_at-position k s.nodes i n place read in
    rw (set-changed_at k f s.nodes i n y place read new)
    (WellFormed-changed k f keeps s w
    (λ m e. let same : n ≡ m = cc in subst (KeepsSound f) same sound) apart)

-- a node that keeps its name stays apart from its siblings
apart-kept : (k : ℕ) (f : Node → Node) (s : Server) → ((n : Node) → (f n).name ≡ n.name)
    → WellFormed s → IsApart k f s
apart-kept k f s keeps w n found j p m e in_n in_m same =
    w.siblings j k p m n e found in_m in_n (sym same ∙ keeps n)

pub WellFormed-set : (k : ℕ) (f : Node → Node) (s : Server) (i : ℕ) (n y : Node)
    → position (has_number k) s.nodes ≡ Some i → n ≡ get_or s.nodes i n → y ≡ f n → KeepsPlace f
    → KeepsSound f n → WellFormed s → WellFormed (with_nodes s (set s.nodes i y))
WellFormed-set k f s i n y place read new keeps sound w =
    WellFormed-set_apart k f s i n y place read new keeps.in_dir sound
    (apart-kept k f s keeps.name w) w

-- and of a node that is written over as it is
pub WellFormed-set_same : (k : ℕ) (s : Server) (i : ℕ) (n y : Node)
    → position (has_number k) s.nodes ≡ Some i → n ≡ get_or s.nodes i n → y ≡ n → WellFormed s
    → WellFormed (with_nodes s (set s.nodes i y))
WellFormed-set_same k s i n y place read same w =
    WellFormed-set k (λ n. n) s i n y place read same
    (record { in_dir = record { number = λ n. refl; parent = λ n. refl }; name = λ n. refl })
    (record { sound = λ s. s; dir = λ s. refl }) w

pub keeps-marked : (user : List ℕ) (now : ℕ) → KeepsPlace (marked user now)
keeps-marked user now = record {
  in_dir = record { number = λ n. refl; parent = λ n. refl };
  name = λ n. refl;
}

pub sound-marked : (user : List ℕ) (now : ℕ) (n : Node) → IsTellable (marked user now n)
    → KeepsSound (marked user now) n
sound-marked user now n told = record {
  sound =
      λ s. record {
        small = s.small;
        empty_dir = s.empty_dir;
        valid_name = s.valid_name;
        root_name = s.root_name;
        tellable = told;
      };
  dir = λ s. refl;
}

pub keeps-touched : (now : ℕ) → KeepsPlace (touched now)
keeps-touched now = record {
  in_dir = record { number = λ n. refl; parent = λ n. refl };
  name = λ n. refl;
}

pub sound-touched : (now : ℕ) (n : Node) → IsTellable (touched now n) → KeepsSound (touched now) n
sound-touched now n told = record {
  sound =
      λ s. record {
        small = s.small;
        empty_dir = s.empty_dir;
        valid_name = s.valid_name;
        root_name = s.root_name;
        tellable = told;
      };
  dir = λ s. refl;
}

pub keeps-with_fields : (from : Node) → KeepsPlace (with_fields from)
keeps-with_fields from = record {
  in_dir = record { number = λ n. refl; parent = λ n. refl };
  name = λ n. refl;
}

pub sound-with_fields : (from n : Node) → IsTellable (with_fields from n)
    → KeepsSound (with_fields from) n
sound-with_fields from n told = record {
  sound =
      λ s. record {
        small = s.small;
        empty_dir = s.empty_dir;
        valid_name = s.valid_name;
        root_name = s.root_name;
        tellable = told;
      };
  dir = λ s. refl;
}

pub keeps-with_owner : (permissions : Permissions) (uid gid : List ℕ)
    → KeepsPlace (with_owner permissions uid gid)
keeps-with_owner permissions uid gid = record {
  in_dir = record { number = λ n. refl; parent = λ n. refl };
  name = λ n. refl;
}

pub sound-with_owner : (permissions : Permissions) (uid gid : List ℕ) (n : Node) → IsTrue (is_dir n)
    → IsTellable (with_owner permissions uid gid n) → KeepsSound (with_owner permissions uid gid) n
sound-with_owner permissions uid gid n is_directory told = record {
  sound =
      λ s. record {
        small = s.small;
        empty_dir = λ _. s.empty_dir is_directory;
        valid_name = s.valid_name;
        root_name = s.root_name;
        tellable = told;
      };
  dir = λ s. sym is_directory;
}

pub keeps-with_bytes : (f : List ℕ → List ℕ) → KeepsPlace (with_bytes f)
keeps-with_bytes f = record {
  in_dir = record { number = λ n. refl; parent = λ n. refl };
  name = λ n. refl;
}

pub sound-with_bytes : (f : List ℕ → List ℕ) (n : Node)
    → (length n.bytes ≤ file_max → length (f n.bytes) ≤ file_max)
    → (IsTrue (is_dir n) → n.bytes ≡ [] → f n.bytes ≡ []) → KeepsSound (with_bytes f) n
sound-with_bytes f n small empty = record {
  sound =
      λ s. record {
        small = small s.small;
        empty_dir = λ d. empty d (s.empty_dir d);
        valid_name = s.valid_name;
        root_name = s.root_name;
        tellable = s.tellable;
      };
  dir = λ s. refl;
}

pub sound-cut_to : (size : ℕ) (n : Node) → KeepsSound (with_bytes (cut_to size)) n
sound-cut_to size n =
    sound-with_bytes (cut_to size) n (length-cut_to size n.bytes file_max)
    (λ d none. ap (cut_to size) none ∙ take-nil size)

-- a file that is there stays sound after a write that fits
pub sound-overwritten : (offset : ℕ) (bytes : List ℕ) (s : Server) (k i : ℕ) (n : Node)
    → position (has_number k) s.nodes ≡ Some i → n ≡ get_or s.nodes i n
    → IsFalse (is_dir_at k s.nodes) → offset + length bytes ≤ file_max
    → KeepsSound (with_bytes (overwritten offset bytes)) n
sound-overwritten offset bytes s k i n place read file fits =
    let found : node_at k s.nodes ≡ Some n = node_at-position k s.nodes i n place read in
    let not_dir : is_dir n ≡ false = sym (ap (λ o. option_map_or is_dir o false) found) ∙ file in
    sound-with_bytes (overwritten offset bytes) n
    (length-overwritten offset bytes n.bytes file_max fits) (λ d none. absurd (cc))

-- the root that is written over is a directory
pub root_is_dir : (s : Server) (i : ℕ) (n : Node) → WellFormed s
    → position (has_number 0) s.nodes ≡ Some i → n ≡ get_or s.nodes i n → IsTrue (is_dir n)
root_is_dir s i n w place read =
    sym (ap (λ o. option_map_or is_dir o false) (node_at-position 0 s.nodes i n place read))
    ∙ w.root

-- what a call answers says whether it was done
pub done_or_kept : {T E : Type 0} (r : Result T E) {A B : Type 0} → OnOk r A → OnErr r B → A ⊎ B
done_or_kept (Ok x) done kept = inl done
done_or_kept (Err e) done kept = inr kept

pub both_done : {T E : Type 0} (r : Result T E) (A B : Type 0) → OnOk r A → OnOk r B
    → OnOk r (A × B)
both_done (Ok x) A B one other = (one, other)
both_done (Err e) A B one other = tt

-- the same of two facts of what was done
pub both_or_kept : {T E : Type 0} (r : Result T E) {A B C : Type 0} → OnOk r A → OnOk r B
    → OnErr r C → (A × B) ⊎ C
both_or_kept (Ok x) one other kept = inl (one, other)
both_or_kept (Err e) one other kept = inr kept
