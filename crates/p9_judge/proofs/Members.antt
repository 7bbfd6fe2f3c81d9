-- The members of places: what is wrong with them, and who may pass them.
use Rattle.std.proofs.Common.{◌≡◌, ℕ, Bool, true, false, ◌&&◌, ◌||◌, List, [], ◌∷◌, Option, Some}
use Rattle.std.proofs.Common.{None}
use Rattle.std.proofs.Common.{refl, sym, ap, ◌∙◌, subst, option_and_then}
use Rattle.std.specs.Prelude.{find, if◌then◌else◌, IsTrue}
use Rattle.std.specs.List.{AllByRecursion, list_any}
use Rattle.std.specs.Option.{option_map, option_or}
use Rattle.std.proofs.lemmas.Bool.{or_left, or_right}
use Rattle.p9_base.specs.declared.node_ref.NodeRef.{NodeRef}
use Rattle.p9_base.specs.NodeRef.{same_node}
use Rattle.p9_tree.specs.Node.{Node, is_dir}
use Rattle.p9_tree.specs.Server.{Server}
use Rattle.p9_tree.specs.Forest.{node_of}
use Rattle.p9_tree.specs.Inside.{is_hidden, is_inside}
use Rattle.p9_table.specs.declared.row.Member.{Member}
use Rattle.p9_space.specs.Table.{MountRow, members_of}
use Rattle.p9_cert.specs.Gap.{first_of, is_removable}
use Rattle.p9_cert.specs.Listed.{is_open, is_owned, is_passable}
use Rattle.p9_cert.specs.Policy.{Policy}
use Rattle.p9_cert.specs.Safe.{IsSafeMember, Set}
use Rattle.p9_policy.proofs.Basics.{each_weaker, not_some, same_ref, same_self, some_same}
use Rattle.p9_cert.proofs.Firsts.{first_none, no_map}
use Rattle.p9_cert.proofs.Gaps.{guarded_from, hidden-none, removable_none}
use Rattle.p9_policy.proofs.Parents.{inside-absent}
use Rattle.p9_judge.specs.declared.breach.BreachKind.{BreachKind}
use Rattle.p9_judge.specs.declared.breach.BreachKind.TheVariants.{Inside, Open, Owned, Removable}
use Rattle.p9_judge.specs.Breach.{breach_kind, breaching, first_passer, hidden_kind, is_listed}
use Rattle.p9_judge.specs.Breach.{may_be_passed_by, passer_of, place_breach}
use Rattle.p9_judge.proofs.Lists.{any_found, found_among, found_passes, some_found}

-- Faults.

-- one test under another
under : {X : Type 0} (b : Bool) (o : Option X) → (if b then o else None) ≡ None → b ≡ true
    → o ≡ None
under true o e t = e
under false o e t = let no : false ≡ true = t in absurd (cc)

lift : {X : Type 0} (b : Bool) (o : Option X) → (b ≡ true → o ≡ None)
    → (if b then o else None) ≡ None
lift true o h = h refl
lift false o h = refl

-- a member that is gone has no fault
pub kind-absent : (policy : Policy) (f : List Server) (at : NodeRef) → node_of at f ≡ None
    → breach_kind policy f at ≡ None
kind-absent policy f at e =
    rw (inside-absent policy.hidden f at e, e) (go (is_hidden at policy.hidden))
  where
    go : (b : Bool) → ◌≡◌ {A = Option BreachKind} (if b then None else None) None
    go true = refl
    go false = refl

module _ (policy : Policy) (f : List Server) where
  -- a member without a fault is safe, where the certificate has it if listed users may pass it
  pub member_safe : (certified : Set) (at : NodeRef) → breach_kind policy f at ≡ None
      → ((n : Node) → node_of at f ≡ Some n → IsTrue (is_passable policy.users policy.groups n)
      → IsTrue (certified at))
      → IsSafeMember policy f certified at
  member_safe certified at e covered = go (is_inside at policy.hidden f) refl e
    where
      kind : Option BreachKind
      kind = option_and_then (hidden_kind policy f at) (node_of at f)

      none : (if is_hidden at policy.hidden
          then option_and_then (hidden_kind policy f at) (node_of at f) else None) ≡ None
          → is_hidden at policy.hidden ≡ true → (n : Node) → node_of at f ≡ Some n
          → (is_open policy.users policy.groups n ≡ false)
          × (is_owned policy.users policy.groups n ≡ false)
          × (is_removable policy f at n ≡ false)
      none t hid n w =
          hidden-none Open Owned Removable (is_open policy.users policy.groups n)
          (is_owned policy.users policy.groups n) (is_removable policy f at n)
          (let h = under (is_hidden at policy.hidden)
          (option_and_then (hidden_kind policy f at) (node_of at f)) t hid in
          sym (ap (option_and_then (hidden_kind policy f at)) w) ∙ h)

      go : (b : Bool) → is_inside at policy.hidden f ≡ b
          → (if b then Some Inside
          else if is_hidden at policy.hidden
          then option_and_then (hidden_kind policy f at) (node_of at f) else None) ≡ None
          → IsSafeMember policy f certified at
      go true i t = let no : Some Inside ≡ None = t in absurd (cc)
      go false i t = record {
        outside = i;
        shut = λ hid n w. let p = none t hid n w in record { unused = p.0; unruled = p.1 };
        guarded = λ hid n w. let p = none t hid n w in guarded_from policy f at n p.2;
        covered = covered;
      }

  -- a larger certificate serves as well
  pub safer : (less more : Set) → ((at : NodeRef) → IsTrue (less at) → IsTrue (more at))
      → (at : NodeRef) → IsSafeMember policy f less at → IsSafeMember policy f more at
  safer less more h at m = record {
    outside = m.outside;
    shut = m.shut;
    guarded = m.guarded;
    covered = λ n w pass. h at (m.covered n w pass);
  }

  -- a safe member has no fault
  pub safe-kind : (certified : Set) (at : NodeRef) → IsSafeMember policy f certified at
      → breach_kind policy f at ≡ None
  safe-kind certified at h =
      ap (λ b. if b then Some Inside
      else if is_hidden at policy.hidden
      then option_and_then (hidden_kind policy f at) (node_of at f) else None) h.outside
      ∙ lift (is_hidden at policy.hidden)
      (option_and_then (hidden_kind policy f at) (node_of at f))
      (λ hid. go hid (node_of at f) refl)
    where
      go : is_hidden at policy.hidden ≡ true → (o : Option Node) → node_of at f ≡ o
          → option_and_then (hidden_kind policy f at) o ≡ None
      go hid None w = refl
      go hid (Some n) w =
          let shut = h.shut hid n w in
          let a : is_open policy.users policy.groups n ≡ false = shut.unused in
          let b : is_owned policy.users policy.groups n ≡ false = shut.unruled in
          let c : is_removable policy f at n ≡ false =
          removable_none policy f at n (h.guarded hid n w) in
          rw (a, b, c) refl

  -- Passing.

  -- a directory that a listed user may pass is passable, and the other way round
  pub passer-passable : (n : Node) (user : List ℕ) → first_passer policy n ≡ Some user
      → is_passable policy.users policy.groups n ≡ true
  unfolding is_passable
  passer-passable n user e = go (is_dir n) refl e
    where
      go : (b : Bool) → is_dir n ≡ b
          → (if b then find (may_be_passed_by policy n) policy.users else None) ≡ Some user
          → (b && list_any (may_be_passed_by policy n) policy.users) ≡ true
      go true d t = some_found (may_be_passed_by policy n) policy.users user t
      go false d t = not_some user t

  pub passable-passer : (n : Node) → is_passable policy.users policy.groups n ≡ true
      → (user : List ℕ) × (first_passer policy n ≡ Some user)
  unfolding is_passable
  passable-passer n t = go (is_dir n) t
    where
      go : (b : Bool) → (b && list_any (may_be_passed_by policy n) policy.users) ≡ true
          → (user : List ℕ)
          × ((if b then find (may_be_passed_by policy n) policy.users else None) ≡ Some user)
      go true t = any_found (may_be_passed_by policy n) policy.users t
      go false t = let no : false ≡ true = t in absurd (cc)

  -- who passes is listed, and passes a directory
  pub passer-parts : (n : Node) (user : List ℕ) → first_passer policy n ≡ Some user
      → (is_dir n ≡ true) × (is_listed policy user ≡ true)
      × (may_be_passed_by policy n user ≡ true)
  passer-parts n user e = go (is_dir n) e
    where
      go : (b : Bool)
          → (if b then find (may_be_passed_by policy n) policy.users else None) ≡ Some user
          → (b ≡ true) × (is_listed policy user ≡ true)
          × (may_be_passed_by policy n user ≡ true)
      go true t =
          let listed = found_among (may_be_passed_by policy n) policy.users user t in
          let passes = found_passes (may_be_passed_by policy n) policy.users user t in
          (refl, listed, passes)
      go false t = not_some user t

  -- a member that is passed exists
  pub passer-node : (at : NodeRef) (user : List ℕ) → passer_of policy f at ≡ Some user
      → (n : Node) × (node_of at f ≡ Some n) × (first_passer policy n ≡ Some user)
  passer-node at user e = go (node_of at f) refl e
    where
      go : (o : Option Node) → node_of at f ≡ o
          → option_and_then (first_passer policy) o ≡ Some user
          → (n : Node) × (node_of at f ≡ Some n) × (first_passer policy n ≡ Some user)
      go None w t = not_some user t
      go (Some n) w t = (n, w, t)

-- Among the members.

pub member_found : (P : NodeRef → Type 0) (ms : List Member) → AllByRecursion (λ m. P m.node) ms
    → (r : NodeRef) → list_any (λ m. same_node m.node r) ms ≡ true → P r
member_found P [] all r t = let no : false ≡ true = t in absurd (cc)
member_found P (m ∷ ms) all r t = go (same_node m.node r) refl t (member_found P ms all.1 r)
  where
    go : (b : Bool) → same_node m.node r ≡ b
        → (b || list_any (λ m. same_node m.node r) ms) ≡ true
        → (list_any (λ m. same_node m.node r) ms ≡ true → P r) → P r
    go true s t later = subst P (same_ref m.node r s) all.0
    go false s t later = later t

module _ (policy : Policy) (f : List Server) where
  -- the first fault of members is that of one of them
  pub fault_found : (ms : List Member) (member : NodeRef) (kind : BreachKind)
      → first_of (breaching policy f) ms ≡ Some (member, kind)
      → (list_any (λ m. same_node m.node member) ms ≡ true)
      × (breach_kind policy f member ≡ Some kind)
  fault_found [] member kind e = not_some (member, kind) e
  fault_found (m ∷ ms) member kind e =
      go (breach_kind policy f m.node) refl e (fault_found ms member kind)
    where
      here : (k : BreachKind) → breach_kind policy f m.node ≡ Some k
          → ◌≡◌ {A = Option (NodeRef × BreachKind)} (Some (m.node, k)) (Some (member, kind))
          → ((same_node m.node member || list_any (λ m. same_node m.node member) ms) ≡ true)
          × (breach_kind policy f member ≡ Some kind)
      here k w t =
          let first : NodeRef × BreachKind = (m.node, k) in
          let second : NodeRef × BreachKind = (member, kind) in
          let pair : first ≡ second = some_same first second t in
          let one : m.node ≡ member = ap (λ (p : NodeRef × BreachKind). p.0) pair in
          let two : k ≡ kind = ap (λ (p : NodeRef × BreachKind). p.1) pair in (
            or_left (same_node m.node member) (list_any (λ m. same_node m.node member) ms)
                (subst (λ r. same_node m.node r ≡ true) one (same_self m.node)),
            ap (breach_kind policy f) (sym one) ∙ w ∙ ap Some two,
          )

      go : (o : Option BreachKind) → breach_kind policy f m.node ≡ o
          → option_or (option_map (λ kind. (m.node, kind)) o) (first_of (breaching policy f) ms)
          ≡ Some (member, kind)
          → (first_of (breaching policy f) ms ≡ Some (member, kind)
          → (list_any (λ m. same_node m.node member) ms ≡ true)
          × (breach_kind policy f member ≡ Some kind))
          → ((same_node m.node member || list_any (λ m. same_node m.node member) ms) ≡ true)
          × (breach_kind policy f member ≡ Some kind)
      go (Some k) w t later = here k w t
      go None w t later =
          let p = later t in (
            or_right (same_node m.node member) (list_any (λ m. same_node m.node member) ms) p.0,
            p.1,
          )

  -- a place without a fault has members without one
  pub no_fault : (table : List MountRow) (place : NodeRef)
      → place_breach policy f table place ≡ None
      → AllByRecursion (λ m. breach_kind policy f m.node ≡ None) (members_of place table)
  no_fault table place e =
      each_weaker (λ m. breaching policy f m ≡ None) (λ m. breach_kind policy f m.node ≡ None)
      (λ (m : Member) t. no_map (λ kind. (m.node, kind)) (breach_kind policy f m.node) t)
      (members_of place table) (first_none (breaching policy f) (members_of place table) e)
