-- What holds of a wstat that no test refuses.
use Rattle.std.proofs.Common.{inl, inr, ◌⊎◌}
use Rattle.p9_base.proofs.GroupNames.{member-valid, leads-valid}
use Rattle.p9_base.specs.User.{is_user}
use Rattle.p9_base.specs.Group.{are_groups, is_member, leads}
use Rattle.p9_space.specs.Rights.{Who}
use Rattle.std.proofs.Common.{◌≡◌, ◌≢◌, ℕ, ◌≤◌, Bool, true, false, List, Option, Some}
use Rattle.std.proofs.Common.{None, is_some, option_and_then, refl, sym, ◌∙◌, subst, arith}
use Rattle.std.specs.Prelude.{◌&&◌, ◌||◌, is_none, nat_lt, not, if◌then◌else◌}
use Rattle.std.specs.Option.{option_map_or, option_or}
use Rattle.std.specs.Str.{bytes_eq}
use Rattle.std.proofs.lemmas.Bool.Decides.{nat_tests}
use Rattle.p9_base.specs.declared.fault.Fault.TheVariants.{FixedField, PermissionDenied}
use Rattle.p9_base.specs.declared.mode.Mode.{Mode}
use Rattle.p9_base.specs.declared.node_ref.NodeRef.{NodeRef}
use Rattle.p9_base.specs.Mode.{is_dir as is_dir_mode, mode_of}
use Rattle.p9_base.specs.Name.{is_name}
use Rattle.p9_base.specs.NodeRef.{beside}
use Rattle.p9_tree.specs.Change.{CanChange, CanChangeNode}
use Rattle.p9_tree.specs.Node.{Node, is_dir}
use Rattle.p9_tree.specs.Server.{Server}
use Rattle.p9_tree.specs.Forest.{IsForest, child_in, node_of, server_at}
use Rattle.p9_tree.proofs.Lookups.{number-node_at}
use Rattle.p9_space.specs.Rights.{may, to_write}
use Rattle.p9_step.specs.Rights.{may_write_parent}
use Rattle.p9_step.specs.Wstat.{Touched, gid_fault, has_sibling, is_mode_for}
use Rattle.p9_step.specs.Wstat.{length_fault, may_give, mode_fault, name_fault, node_change}
use Rattle.p9_step.specs.Wstat.{ruling_fault}
use Rattle.p9_step.specs.Wstat.{wstat_fault}
use Rattle.p9_tree.specs.Bytes.{file_max}
use Rattle.p9_step.proofs.Ends.{node_of-inner}

-- where there is no fault in a chain, there is none in its parts
option_or-none : {X : Type 0} (a b : Option X) → option_or a b ≡ None → (a ≡ None) × (b ≡ None)
option_or-none None b e = (refl, e)
option_or-none (Some x) b e = let no : Some x ≡ None = e in absurd (cc)

-- the same of a chain of tests
pub no_if : {X : Type 0} (fault : X) (test : Bool) → (if test then None else Some fault) ≡ None
    → test ≡ true
no_if fault true e = refl
no_if fault false e = let no : Some fault ≡ None = e in absurd (cc)

no_four : {X : Type 0} (f1 f2 f3 f4 : X) (a b c d : Bool)
    → (if a then Some f1 else if not b then Some f2 else if not c then Some f3 else if d
    then Some f4 else None) ≡ None → (a ≡ false) × (b ≡ true) × (d ≡ false)
no_four f1 f2 f3 f4 true b c d e = let no : Some f1 ≡ None = e in absurd (cc)
no_four f1 f2 f3 f4 false false c d e = let no : Some f2 ≡ None = e in absurd (cc)
no_four f1 f2 f3 f4 false true false d e = let no : Some f3 ≡ None = e in absurd (cc)
no_four f1 f2 f3 f4 false true true true e = let no : Some f4 ≡ None = e in absurd (cc)
no_four f1 f2 f3 f4 false true true false e = (refl, refl, refl)

no_three : {X : Type 0} (f1 f2 f3 : X) (a b c : Bool)
    → (if a then Some f1 else if not b then Some f2 else if c then Some f3 else None) ≡ None
    → (a ≡ false) × (c ≡ false)
no_three f1 f2 f3 true b c e = let no : Some f1 ≡ None = e in absurd (cc)
no_three f1 f2 f3 false false c e = let no : Some f2 ≡ None = e in absurd (cc)
no_three f1 f2 f3 false true true e = let no : Some f3 ≡ None = e in absurd (cc)
no_three f1 f2 f3 false true false e = (refl, refl)

same_kind : (dir mode : Bool) → (if dir then mode else not mode) ≡ true → mode ≡ dir
same_kind true mode e = e
same_kind false false e = refl
same_kind false true e = let no : false ≡ true = e in absurd (cc)

is_there : {X : Type 0} (o : Option X) → is_none o ≡ false → is_some o ≡ true
is_there None e = let no : true ≡ false = e in absurd (cc)
is_there (Some x) e = refl

seconds_of : (a b c d : Bool) → (a && b || c && d) ≡ true → (b ≡ true) ⊎ (d ≡ true)
seconds_of a true c d e = inl refl
seconds_of a false c true e = inr refl
seconds_of true false true false e = inr e
seconds_of true false false false e = inr e
seconds_of false false true false e = inr e
seconds_of false false false false e = inr e

not_above : (size : ℕ) → nat_lt file_max size ≡ false → size ≤ file_max
not_above size e = grind (arith, nat_tests)

-- a mode that no test refuses is of the node's kind
pub kind_kept : (n : Node) (mode : Option ℕ) → option_and_then (mode_fault n) mode ≡ None
    → (m : Mode) → option_and_then mode_of mode ≡ Some m → is_dir_mode m ≡ is_dir n
kind_kept n None free m is = let no : None ≡ Some m = is in absurd (cc)
kind_kept n (Some bits) free m is =
    let fits : option_map_or (is_mode_for n) (mode_of bits) false ≡ true =
    no_if FixedField _ free in
    let its : is_mode_for n m ≡ true = rw is at fits in
    same_kind (is_dir n) (is_dir_mode m) its

-- no entry has a name that no test refuses
no_sibling : (forest : List Server) (at : NodeRef) (n m : Node) (name : List ℕ) (dir : ℕ)
    → has_sibling forest at n name ≡ false → n.parent ≡ Some dir
    → child_in (beside at dir) name forest ≡ Some m → ⊥
no_sibling forest at n m name dir alone in_dir found =
    let here : is_some (child_in (beside at dir) name forest) ≡ false = rw in_dir at alone in
    let no : true ≡ false = rw found at here in
    absurd (cc)

-- a group that a user may give a file to has a valid name
group-given : (who : Who) (n : Node) (gid : List ℕ) → are_groups who.groups ≡ true
    → is_user who.user ≡ true → may_give who n gid ≡ true → is_user gid ≡ true
group-given who n gid named valid gives =
    elim (seconds_of (bytes_eq n.uid who.user) (is_member who.groups gid who.user)
    (leads who.groups n.gid who.user) (leads who.groups gid who.user) gives) [
      | inl member ↦ member-valid who.groups gid who.user named valid member
      | inr led ↦ leads-valid who.groups gid who.user named valid led
    ]

-- so nobody gives a file to another text
pub not-given : (who : Who) (n : Node) (gid : List ℕ) → are_groups who.groups ≡ true
    → is_user who.user ≡ true → (is_user gid ≡ true → ⊥) → false ≡ may_give who n gid
not-given who n gid named valid not_user = go (may_give who n gid) refl
  where
    go : (b : Bool) → may_give who n gid ≡ b → false ≡ may_give who n gid
    go true e = absurd (not_user (group-given who n gid named valid e))
    go false e = sym e

module _ (who : Who) (forest : List Server) (at : NodeRef) (n : Node) (t : Touched) where
  -- what holds of a wstat that no test refuses
  pub record Permits : Type 0 where
    pub mode : option_and_then (mode_fault n) t.mode ≡ None
    pub name : option_and_then (name_fault who forest at n) t.name ≡ None
    pub length : option_and_then (length_fault who n) t.length ≡ None
    pub ruled : option_and_then (ruling_fault who n) t.mode ≡ None
    pub gid : option_and_then (gid_fault who n) t.gid ≡ None

  -- it holds where no test refuses
  pub nothing_refuses : wstat_fault who forest at n t ≡ None → Permits
  nothing_refuses none =
      let first = option_or-none (option_and_then (mode_fault n) t.mode) _ none in
      let second =
      option_or-none (option_and_then (name_fault who forest at n) t.name) _ first.1 in
      let third = option_or-none (option_and_then (length_fault who n) t.length) _ second.1 in
      let fourth = option_or-none (option_and_then (ruling_fault who n) t.mode) _ third.1 in
      let fifth = option_or-none (option_and_then (ruling_fault who n) t.mtime) _ fourth.1 in
      record {
        mode = first.0;
        name = second.0;
        length = third.0;
        ruled = fourth.0;
        gid = fifth.1;
      }

  module _ (permits : Permits) where
    name_free : (name : List ℕ) → t.name ≡ Some name
        → (is_none n.parent ≡ false) × (is_name name ≡ true)
        × (has_sibling forest at n name ≡ false)
    name_free name is =
        let free : name_fault who forest at n name ≡ None = rw is at permits.name in
        no_four _ _ _ _ (is_none n.parent) (is_name name) (may_write_parent who forest at n)
        (has_sibling forest at n name) free

    length_free : (size : ℕ) → t.length ≡ Some size
        → (is_dir n ≡ false) × (nat_lt file_max size ≡ false)
    length_free size is =
        let free : length_fault who n size ≡ None = rw is at permits.length in
        no_three _ _ _ (is_dir n) (may who n to_write) (nat_lt file_max size) free

    -- a name is then valid
    pub valid_name : (name : List ℕ) → t.name ≡ Some name → is_name name ≡ true
    valid_name name is = (name_free name is).1

    -- and so is a group's
    pub valid_group : are_groups who.groups ≡ true → is_user who.user ≡ true → (gid : List ℕ)
        → t.gid ≡ Some gid → is_user gid ≡ true
    valid_group named valid gid is =
        let free : gid_fault who n gid ≡ None = rw is at permits.gid in
        group-given who n gid named valid (no_if PermissionDenied _ free)

    -- so the node may be changed
    pub can_change : (now : ℕ) → IsForest forest → node_of at forest ≡ Some n
        → CanChange (server_at at.server forest) at.number (node_change who.user now t)
    can_change now sound found = λ m there.
        let same : n ≡ m = let e : Some n ≡ Some m = sym found ∙ there in cc in
        subst (λ k. CanChangeNode (server_at at.server forest) k (node_change who.user now t))
        same (record {
          same_kind = kind_kept n t.mode permits.mode;
          not_root = λ name is. not_zero name is;
          free =
              λ name is dir in_dir o other. absurd
              (no_sibling forest at n o name dir (name_free name is).2 in_dir other);
          file = λ size is. (length_free size is).0;
          small = λ size is. not_above size (length_free size is).1;
        })
      where
        not_zero : (name : List ℕ) → t.name ≡ Some name → n.number ≢ 0
        not_zero name is =
            let inner =
            node_of-inner forest at n sound found (is_there n.parent (name_free name is).0) in
            let number : n.number ≡ at.number =
            number-node_at at.number (server_at at.server forest).nodes n found in
            λ zero. inner (sym number ∙ zero)
