-- The places where a listed user comes, and the files there.
use Rattle.std.proofs.Common.{◌≡◌, ◌∙◌, ℕ, ◌-◌, ◌<◌, Bool, true, false, ◌&&◌, List, [], ◌∷◌, Option}
use Rattle.std.proofs.Common.{Some, None, refl, ap, subst, arith, length}
use Rattle.std.specs.Prelude.{if◌then◌else◌}
use Rattle.std.specs.List.{AllByRecursion}
use Rattle.std.specs.Option.{option_map, option_map_or, option_or}
use Rattle.std.specs.Str.{bytes_eq}
use Rattle.std.proofs.lemmas.Bool.{and_from, and_parts, or_left}
use Rattle.p9_base.specs.NodeRef.{beside}
use Rattle.p9_base.specs.User.{is_listed_user}
use Rattle.p9_base.specs.declared.node_ref.NodeRef.{NodeRef}
use Rattle.p9_tree.specs.Forest.{child_in, node_of, server_at}
use Rattle.p9_tree.specs.Node.{Node, is_child, is_dir, is_in}
use Rattle.p9_tree.proofs.Lookups.{passes-found}
use Rattle.p9_inside.proofs.Facts.{not_some, some_same}
use Rattle.p9_inside.proofs.Looks.{Ordered, found_node, in-parent}
use Rattle.p9_space.specs.Place.{first_node, root_place}
use Rattle.p9_space.specs.Rights.{Who, may, rules, to_execute}
use Rattle.p9_space.specs.Table.{IsTable, members_of}
use Rattle.p9_space.specs.Trail.{here}
use Rattle.p9_space.specs.Walk.{child_among, is_searched, may_search}
use Rattle.p9_table.specs.declared.row.Member.{Member}
use Rattle.p9_table.proofs.Tables.{members_of-some}
use Rattle.p9_fids.specs.Fid.{Fid}
use Rattle.p9_step.specs.State.{Setting, fid_file, fid_ref, who_of}
use Rattle.p9_cert.specs.Listed.{is_passable, may_pass}
use Rattle.p9_cert.specs.Rows.{is_row}
use Rattle.p9_cert.specs.Safe.{IsSafeMember}
use Rattle.p9_fixed.specs.Fixed.{IsFixedNode}
use Rattle.p9_guard_laws.proofs.Basics.{each_two, some_may}
use Rattle.p9_guard_laws.proofs.Walks.{each_at}
use Rattle.p9_fixed_laws.specs.States.{HasFixedMembers, IsFixedFid, IsFixedInput, IsFixedMember}
use Rattle.p9_fixed_laws.specs.States.{Sealed, policy_in}
use Rattle.p9_fixed_laws.proofs.Nodes.{IsStill, Scene, still}
use Rattle.p9_fixed_laws.proofs.Unread.{node_there}

-- what is closed and fixed
module _ (sealed : Sealed) (setting : Setting) (input : IsFixedInput sealed setting) where
  both_hold : (place : NodeRef)
      → AllByRecursion
      (λ m. IsSafeMember (policy_in sealed setting) sealed.forest (is_row sealed.rows) m.node)
      (members_of place setting.table)
      → AllByRecursion
      (λ m. (n : Node) → node_of m.node sealed.forest ≡ Some n
      → IsFixedNode (policy_in sealed setting) sealed.forest m.node n)
      (members_of place setting.table)
      → HasFixedMembers sealed setting place
  both_hold place closed fixed =
      each_two
      (λ m. IsSafeMember (policy_in sealed setting) sealed.forest (is_row sealed.rows) m.node)
      (λ m. (n : Node) → node_of m.node sealed.forest ≡ Some n
      → IsFixedNode (policy_in sealed setting) sealed.forest m.node n)
      (λ m. IsFixedMember sealed setting m.node)
      (λ (m : Member) safe its. record { fixed = its; covered = safe.covered })
      (members_of place setting.table) closed fixed

  -- the root place
  pub root_fixed : HasFixedMembers sealed setting root_place
  root_fixed = both_hold root_place input.closed.root input.fixed.root

  -- a child of a row
  pub child_fixed : (at : NodeRef) (k : ℕ) (n : Node) → is_row sealed.rows at ≡ true
      → node_of (beside at k) sealed.forest ≡ Some n → n.parent ≡ Some at.number
      → HasFixedMembers sealed setting (beside at k)
  child_fixed at k n row there parent =
      both_hold (beside at k) (input.closed.children at k n row there parent)
      (input.fixed.children at k n row there parent)

module _ (scene : Scene) (input : IsFixedInput scene.sealed scene.setting) where
  abbrev pub FixedPlace : NodeRef → Type 0
  FixedPlace = HasFixedMembers scene.sealed scene.setting

  -- where a trail of such places ends
  pub here_fixed : (trail : List NodeRef) → AllByRecursion FixedPlace trail
      → FixedPlace (here trail)
  here_fixed trail all =
      each_at FixedPlace trail (length trail - 1) root_place all
      (root_fixed scene.sealed scene.setting input)

  -- the file of a fid
  pub file_still : (v : Fid) (n : Node) → IsTable scene.setting.table
      → IsFixedFid scene.sealed scene.setting v
      → fid_file scene.setting.table scene.forest v ≡ Some n
      → IsStill scene (fid_ref scene.setting.table v) n
  file_still v n table fixed found =
      still scene (fid_ref scene.setting.table v) n
      (first (here v.trail) (members_of (here v.trail) scene.setting.table)
      (here_fixed v.trail fixed.places)
      (members_of-some (here v.trail) scene.setting.table table)) found
    where
      first : (place : NodeRef) (ms : List Member)
          → AllByRecursion (λ m. IsFixedMember scene.sealed scene.setting m.node) ms
          → 0 < length ms → IsFixedMember scene.sealed scene.setting (first_node place ms)
      first place [] all some = absurd (omega arith)
      first place (m ∷ ms) all some = all.0

  module _ (ordered : Ordered scene.forest) (user : List ℕ)
      (listed : is_listed_user scene.setting.users user ≡ true) where
    abbrev walker : Option Who
    walker = Some (who_of scene.setting user)

    -- a directory that a listed user may search is a row
    searched : (m : Member) → IsFixedMember scene.sealed scene.setting m.node
        → is_searched scene.forest walker m ≡ true → is_row scene.sealed.rows m.node ≡ true
    unfolding is_passable
    searched m fixed s = go (node_of m.node scene.forest) refl s
      where
        go : (o : Option Node) → node_of m.node scene.forest ≡ o
            → option_map_or (λ n. is_dir n && may_search walker n) o false ≡ true
            → is_row scene.sealed.rows m.node ≡ true
        go None e t = let no : false ≡ true = t in absurd (cc)
        go (Some x) e t =
            let who = who_of scene.setting user in
            let parts = and_parts (is_dir x) (may who x to_execute) t in
            (still scene m.node x fixed e).covered
            (and_from (is_dir x) _ parts.0
            (some_may (λ u. may_pass x (who_of scene.setting u)) scene.setting.users user listed
            (or_left (may who x to_execute) (rules who x) parts.1)))

    -- the place of a child that is found there
    child_place : (m : Member) (name : List ℕ) (x : Node)
        → is_row scene.sealed.rows m.node ≡ true → child_in m.node name scene.forest ≡ Some x
        → FixedPlace (beside m.node x.number)
    child_place m name x row found =
        let there =
        found_node scene.forest ordered m.node.server (is_child m.node.number name) x found in
        let passes =
        passes-found (is_child m.node.number name) (server_at m.node.server scene.forest).nodes x
        found in
        let within =
        in-parent m.node.number x
        (and_parts (is_in m.node.number x) (bytes_eq x.name name) passes).0 in
        let was =
        node_there scene.forest scene.sealed.forest scene.same (beside m.node x.number) x there in
        child_fixed scene.sealed scene.setting input m.node x.number was.0 row was.1
        (ap (λ (n : Node). n.parent) was.2 ∙ within)

    -- where a name leads from such members
    pub child_among_fixed : (name : List ℕ) (ms : List Member)
        → AllByRecursion (λ m. IsFixedMember scene.sealed scene.setting m.node) ms
        → (r : NodeRef) → child_among scene.forest walker name ms ≡ Some r → FixedPlace r
    child_among_fixed name [] all r e = not_some r e
    child_among_fixed name (m ∷ ms) all r e =
        go (is_searched scene.forest walker m) refl (child_in m.node name scene.forest) refl
        (child_among_fixed name ms all.1 r) e
      where
        go : (b : Bool) → is_searched scene.forest walker m ≡ b
            → (o : Option Node) → child_in m.node name scene.forest ≡ o
            → (child_among scene.forest walker name ms ≡ Some r → FixedPlace r)
            → option_or
            (if b then option_map (λ n. record { server = m.node.server; number = n.number }) o
            else None)
            (child_among scene.forest walker name ms) ≡ Some r
            → FixedPlace r
        go false s o c later t = later t
        go true s None c later t = later t
        go true s (Some x) c later t =
            subst FixedPlace (some_same (beside m.node x.number) r t)
            (child_place m name x (searched m all.0 s) c)
