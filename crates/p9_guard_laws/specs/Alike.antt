-- Two states that differ only inside hidden directories.
use Rattle.std.specs.Prelude.{◌≡◌, List}
use Rattle.std.specs.List.{AllByRecursion}
use Rattle.p9_base.specs.declared.node_ref.NodeRef.{NodeRef}
use Rattle.p9_tree.specs.Server.{Server}
use Rattle.p9_tree.specs.Forest.{IsForest}
use Rattle.p9_tree.specs.Inside.{outer}
use Rattle.p9_inside.specs.TwoForests.{IsInBoth}
use Rattle.p9_space.specs.Table.{MountRow}
use Rattle.p9_step.specs.State.{SessionRow, State}

-- each member of the table is a node in both, or in neither. A member may be inside: whether it
-- exists shows where a union is walked
abbrev pub AreMembersInBoth : List Server → List Server → List MountRow → Type 0
AreMembersInBoth f g table =
    AllByRecursion (λ row. AllByRecursion (λ m. IsInBoth f g m.node) row.1) table

-- each place of a fid is a node in both, or in neither: whether it exists shows in each reply to
-- a request of that fid
abbrev pub ArePlacesInBoth : List Server → List Server → List SessionRow → Type 0
ArePlacesInBoth f g sessions =
    AllByRecursion (λ row.
    AllByRecursion (λ fid. AllByRecursion (IsInBoth f g) fid.1.trail) row.1.fids) sessions

-- The same mount table, users, groups and sessions; the same nodes that are inside no hidden
-- directory, with all their fields, and the same next numbers. Nodes inside may differ in how many
-- they are, and in all their fields. What this leaves out: a state in which a member of the table,
-- or a place of a fid, exists only there is not alike, so nothing is promised beside it
pub record AreAlike (hidden : List NodeRef) (a b : State) : Type 0 where
  pub sound : IsForest b.forest
  pub setting : b.setting ≡ a.setting
  pub sessions : b.sessions ≡ a.sessions
  pub others : outer hidden b.forest ≡ outer hidden a.forest
  pub members : AreMembersInBoth a.forest b.forest a.setting.table
  pub places : ArePlacesInBoth a.forest b.forest a.sessions
