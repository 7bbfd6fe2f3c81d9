-- A certificate that is closed over a forest is closed over it without what is inside.
use Rattle.std.proofs.Common.{◌≡◌, ◌<◌, ◌≤◌, List, [], ◌∷◌, Some, None, refl, sym, ap}
use Rattle.std.proofs.Common.{◌∙◌, subst}
use Rattle.std.specs.Prelude.{nat_lt}
use Rattle.std.specs.List.{list_all}
use Rattle.std.proofs.lemmas.List.Elements.{All-weaker}
use Rattle.p9_base.specs.declared.node_ref.NodeRef.{NodeRef}
use Rattle.p9_base.specs.NodeRef.{servers_max}
use Rattle.p9_tree.specs.Node.{Node}
use Rattle.p9_tree.specs.Server.{Server}
use Rattle.p9_tree.specs.Forest.{IsForest, next_of, node_of}
use Rattle.p9_tree.specs.Inside.{outer}
use Rattle.p9_inside.proofs.Forests.{keeps_dir_test, keeps_next}
use Rattle.p9_space.specs.Given.{is_given, is_table_given}
use Rattle.p9_space.specs.Place.{root_place}
use Rattle.p9_space.specs.Table.{MountRow, members_of}
use Rattle.p9_table.specs.declared.row.Member.{Member}
use Rattle.p9_world.specs.World.{IsWorld, World}
use Rattle.p9_cert.specs.Closed.{IsClosed}
use Rattle.p9_cert.specs.Gap.{first_gap}
use Rattle.p9_cert.specs.Policy.{Policy, policy_of}
use Rattle.p9_cert.specs.Rows.{is_row}
use Rattle.p9_cert.specs.Safe.{IsSafe, IsSafeMember, Set}
use Rattle.p9_cert.proofs.Gaps.{no_gap_is_closed}
use Rattle.p9_guard.specs.Sentence.{IsWellFormed}
use Rattle.p9_guard_laws.proofs.Basics.{each_weaker}
use Rattle.p9_input_laws.specs.NeverThere.{outer_world}
use Rattle.p9_input_laws.proofs.OuterForests.{forest-outer, length-outer, none-inside, was-there}

-- The same numbers were given.

given-outer : (hidden : List NodeRef) (forest : List Server) (at : NodeRef)
    → is_given (outer hidden forest) at ≡ is_given forest at
given-outer hidden forest at = ap (nat_lt at.number) (keeps_next hidden forest at.server)

members-given : (hidden : List NodeRef) (forest : List Server) (members : List Member)
    → list_all (λ m. is_given (outer hidden forest) m.node) members
    ≡ list_all (λ m. is_given forest m.node) members
members-given hidden forest [] = refl
members-given hidden forest (m ∷ members) =
    rw (given-outer hidden forest m.node, members-given hidden forest members) refl

table-given : (hidden : List NodeRef) (forest : List Server) (table : List MountRow)
    → is_table_given (outer hidden forest) table ≡ is_table_given forest table
table-given hidden forest [] = refl
table-given hidden forest (row ∷ table) =
    rw (
      given-outer hidden forest row.0,
      members-given hidden forest row.1,
      table-given hidden forest table,
    ) refl

-- What is safe is safe.

module _ (policy : Policy) (forest : List Server) (w : IsForest forest) (certified : Set) where
  abbrev left : List Server
  left = outer policy.hidden forest

  -- a node that is left was there
  before : (at : NodeRef) (n : Node) → node_of at left ≡ Some n → node_of at forest ≡ Some n
  before at n e = (was-there policy.hidden forest w at n e).1

  member-outer : (at : NodeRef) → IsSafeMember policy forest certified at
      → IsSafeMember policy left certified at
  member-outer at safe = record {
    outside = none-inside policy.hidden forest w at;
    shut = λ hid n e. safe.shut hid n (before at n e);
    guarded = λ hid n e p d in_p dir.
        safe.guarded hid n (before at n e) p d in_p (before _ d dir);
    covered = λ n e pass. safe.covered n (before at n e) pass;
  }

  module _ (table : List MountRow) where
    place-outer : (place : NodeRef) → IsSafe policy forest table certified place
        → IsSafe policy left table certified place
    place-outer place =
        each_weaker (λ (m : Member). IsSafeMember policy forest certified m.node)
        (λ (m : Member). IsSafeMember policy left certified m.node)
        (λ (m : Member) safe. member-outer m.node safe) (members_of place table)

    pub closed-outer : IsClosed policy forest table certified → IsClosed policy left table certified
    closed-outer closed = record {
      given = table-given policy.hidden forest table ∙ closed.given;
      rows = λ at row.
          let shown = closed.rows at row in
          record {
            dir = keeps_dir_test policy.hidden forest at shown.outside ∙ shown.dir;
            not_hidden = shown.not_hidden;
            outside = none-inside policy.hidden forest w at;
          };
      root = place-outer root_place closed.root;
      children = λ at k n row e in_at.
          place-outer _ (closed.children at k n row (before _ n e) in_at);
    }

-- Worlds.

pub no-gap-outer : (world : World) (table : List MountRow) (certificate : List NodeRef)
    → IsForest world.forest
    → first_gap (policy_of world) world.forest table certificate ≡ None
    → first_gap (policy_of (outer_world world)) (outer_world world).forest table certificate ≡ None
no-gap-outer world table certificate w none =
    (no_gap_is_closed (policy_of world) (outer_world world).forest table certificate
    (forest-outer world.hidden world.forest w)).1
    (closed-outer (policy_of world) world.forest w (is_row certificate) table
    ((no_gap_is_closed (policy_of world) world.forest table certificate w).0 none))

world-outer : (world : World) → IsWorld world → IsWorld (outer_world world)
world-outer world ok =
    let same = length-outer world.hidden world.forest in
    record {
      named = ok.named ∙ sym same;
      few = subst (λ n. n ≤ servers_max) (sym same) ok.few;
      distinct = ok.distinct;
      below =
          All-weaker (λ (at : NodeRef). at.number < next_of at.server world.forest)
          (λ (at : NodeRef). at.number < next_of at.server (outer world.hidden world.forest))
          (λ (at : NodeRef) low.
          subst (λ n. at.number < n) (sym (keeps_next world.hidden world.forest at.server)) low)
          world.hidden ok.below;
    }

pub well-outer : (world : World) (table : List MountRow) → IsWellFormed world table
    → IsWellFormed (outer_world world) table
well-outer world table ok = record {
  named = world-outer world ok.named;
  forest = forest-outer world.hidden world.forest ok.forest;
  setting = ok.setting;
}
