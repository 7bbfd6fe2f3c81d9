-- The name space that a namespace file makes.
use Rattle.std.specs.Prelude.{ℕ, List, [], ◌∷◌}
use Rattle.p9_base.specs.declared.node_ref.NodeRef.{NodeRef}
use Rattle.p9_space.specs.Place.{root_place}
use Rattle.p9_space.specs.Table.{MountRow}
use Rattle.p9_nsline.specs.declared.fault.OpFault.{OpFault}

-- a line and the fault of its operation
abbrev pub Report : Type 0
Report = ℕ × OpFault

-- the mount table, the trail of the current directory, and the reports so far
pub record Space : Type 0 where
  pub table : List MountRow
  pub current : List NodeRef
  pub reports : List Report

-- a file begins at the root place, with nothing reported
abbrev pub beginning : List MountRow → Space
beginning table = record { table = table; current = root_place ∷ []; reports = [] }
