-- What the search for a breach keeps: places in the order of their discovery, and the directories
-- that were passed.
use Rattle.std.specs.Prelude.{◌≡◌, ℕ, ◌<◌, List, [], ◌∷◌, Option, Some, None, IsSome, IsTrue, map}
use Rattle.std.specs.Prelude.{slice_get}
use Rattle.std.specs.Prelude.{if◌then◌else◌}
use Rattle.std.specs.Option.{option_map_or}
use Rattle.p9_base.specs.declared.node_ref.NodeRef.{NodeRef}
use Rattle.p9_base.specs.NodeRef.{beside}
use Rattle.p9_tree.specs.Node.{Node}
use Rattle.p9_tree.specs.Server.{Server}
use Rattle.p9_tree.specs.Forest.{children_of, node_of}
use Rattle.p9_space.specs.Place.{root_place}
use Rattle.p9_space.specs.Table.{MountRow}
use Rattle.p9_cert.specs.Closed.{IsClosed, IsShown}
use Rattle.p9_cert.specs.Policy.{Policy}
use Rattle.p9_cert.specs.Rows.{is_row}
use Rattle.p9_cert.specs.Safe.{IsSafe, Set}
use Rattle.p9_judge.specs.declared.breach.Step.{Step}
use Rattle.p9_judge.specs.declared.search.Origin.{Origin}
use Rattle.p9_judge.specs.declared.search.Place.{Place}
use Rattle.p9_judge.specs.Breach.{IsPassed, passer_of}

-- Places by their positions.

-- the place of the position has the key
abbrev pub IsAt : List Place → ℕ → NodeRef → Type 0
IsAt places i key = (p : Place) × (slice_get places i ≡ Some p) × (p.key ≡ key)

-- some place has it
abbrev pub IsAmong : List Place → NodeRef → Type 0
IsAmong places key = (i : ℕ) × IsAt places i key

module _ (policy : Policy) (forest : List Server) where
  -- each place was discovered from an earlier one, through a member that somebody may pass
  abbrev pub ArePassed : List Place → Type 0
  ArePassed places = (i : ℕ) (p : Place) (origin : Origin) → slice_get places i ≡ Some p
      → p.origin ≡ Some origin
      → (origin.from < i) × IsSome (passer_of policy forest origin.member)

  -- the step through the member to the child of the name, with the first user who may make it
  pub record IsStepFrom (origin : Origin) (step : Step) : Type 0 where
    pub name : step.name ≡ origin.name
    pub member : step.member ≡ origin.member
    pub user : passer_of policy forest origin.member ≡ Some step.user

  -- the steps by which places were discovered, from that of the first position to that of the last
  abbrev pub IsWay : List Place → (first : ℕ) → List Step → (last : ℕ) → Type 0
  IsWay places first [] last = first ≡ last
  IsWay places first (step ∷ steps) last =
      (next : ℕ) × (p : Place) × (origin : Origin) × (slice_get places next ≡ Some p)
      × (p.origin ≡ Some origin) × (origin.from ≡ first) × IsStepFrom origin step
      × IsWay places next steps last

  -- these are the steps to a place, from one that was discovered from nowhere
  abbrev pub IsWayTo : List Place → List Step → ℕ → Type 0
  IsWayTo places steps last =
      (first : ℕ) × (p : Place) × (slice_get places first ≡ Some p) × (p.origin ≡ None)
      × IsWay places first steps last

-- Discovering.

-- the place of a directory's child, discovered from the place of the position
abbrev pub child_place : ℕ → NodeRef → Node → Place
child_place from dir child = record {
  key = beside dir child.number;
  origin = Some (record { from = from; member = dir; name = child.name });
}

-- those of all children of a directory
abbrev pub child_places : List Server → ℕ → NodeRef → List Place
child_places forest from dir = map (child_place from dir) (children_of dir forest)

module _ (policy : Policy) (forest : List Server) where
  -- what a member adds to the places: its children, where it is passed for the first time
  abbrev pub discovered : ℕ → List NodeRef → NodeRef → List Place
  discovered from passed member =
      option_map_or
      (λ _. if is_row passed member then [] else child_places forest from member)
      (passer_of policy forest member) []

  module _ (table : List MountRow) where
    -- the root place, or one that was discovered by a step from an earlier place, through a member
    -- that was passed, by the first user who may
    abbrev pub IsReached : List Place → List NodeRef → ℕ → NodeRef → Option Origin → Type 0
    IsReached places passed i key None = key ≡ root_place
    IsReached places passed i key (Some origin) =
        (from : NodeRef) × (child : Node) × (origin.from < i) × IsAt places origin.from from
        × ((step : Step) × IsStepFrom policy forest origin step
        × IsPassed policy forest table from step child)
        × (key ≡ beside origin.member child.number)
        × IsTrue (is_row passed origin.member)

    -- the root place is there, and the children of all that was passed; what is there had to be:
    -- each place is safe and each passed directory is in every closed certificate
    pub record IsSearch (places : List Place) (passed : List NodeRef) : Type 0 where
      pub root : IsAmong places root_place
      pub reached : (i : ℕ) (p : Place) → slice_get places i ≡ Some p
          → IsReached places passed i p.key p.origin
      pub shown : (at : NodeRef) → IsTrue (is_row passed at) → IsShown policy forest at
      pub children : (at : NodeRef) (k : ℕ) (n : Node) → IsTrue (is_row passed at)
          → node_of (beside at k) forest ≡ Some n → n.parent ≡ Some at.number
          → IsAmong places (beside at k)
      pub safe : (other : Set) → IsClosed policy forest table other
          → (i : ℕ) (p : Place) → slice_get places i ≡ Some p
          → IsSafe policy forest table other p.key
      pub needed : (other : Set) → IsClosed policy forest table other
          → (at : NodeRef) → IsTrue (is_row passed at) → IsTrue (other at)

    -- the places before the position are safe for what was passed
    abbrev pub AreTested : ℕ → List Place → List NodeRef → Type 0
    AreTested count places passed = (i : ℕ) (p : Place) → i < count → slice_get places i ≡ Some p
        → IsSafe policy forest table (is_row passed) p.key

-- no place and no passed directory is lost
pub record IsGrown (places more : List Place) (passed further : List NodeRef) : Type 0 where
  pub kept : (i : ℕ) (p : Place) → slice_get places i ≡ Some p → slice_get more i ≡ Some p
  pub still : (at : NodeRef) → IsTrue (is_row passed at) → IsTrue (is_row further at)
