-- The name space of an input: its world, and the mount table that its namespace file makes.
use Rattle.std.specs.Prelude.{ℕ, List, [], Option, Some, None, Result, Ok, unwrap_or}
use Rattle.p9_base.specs.declared.node_ref.NodeRef.{NodeRef}
use Rattle.p9_base.specs.Results.{and_then}
use Rattle.p9_cert.specs.Gap.{first_gap}
use Rattle.p9_cert.specs.Policy.{policy_of}
use Rattle.p9_cert.specs.declared.gap.Gap.{Gap}
use Rattle.p9_space.specs.Table.{MountRow}
use Rattle.p9_world.specs.World.{World}
use Rattle.p9_world.specs.Read.{world_of}
use Rattle.p9_nsline.specs.Line.{BadLineOf}
use Rattle.p9_nsfile.specs.Run.{run_of}
use Rattle.p9_nsline.specs.Environment.{Environment}
use Rattle.p9_nsline.specs.Space.{Report}
use Rattle.p9_prepared.specs.Refusal.{or_refused}
use Rattle.p9_prepared.specs.Small.{small_world}
use Rattle.p9_prepared.specs.declared.refusal.Refusal.{Refusal}
use Rattle.p9_prepared.specs.declared.refusal.Refusal.TheVariants.{BadWorld, BadOperation}

-- a world, the mount table over it, and what failed in its making
pub record NameSpace : Type 0 where
  pub world : World
  pub table : List MountRow
  pub reports : List Report

-- what a namespace file is run in
abbrev pub environment_of : World → Environment
environment_of world = record { forest = world.forest; vars = world.vars; servers = world.servers }

-- the world of a section; where it isn't there the sample world
abbrev pub world_in : Option (List ℕ) → Result World Refusal
world_in None = Ok small_world
world_in (Some text) = or_refused (λ bad. BadWorld bad.0 bad.1) (world_of text)

-- a line of bad form is refused
abbrev pub or_bad_operation : {X : Type 0} → Result X BadLineOf → Result X Refusal
or_bad_operation ran = or_refused (λ bad. BadOperation bad.0 bad.1) ran

-- a world with the table and the reports of a run over it
abbrev pub name_space : World → List MountRow × List Report → NameSpace
name_space world ran = record { world = world; table = ran.0; reports = ran.1 }

-- the text of a namespace section is run over an empty table
abbrev pub space_over : List ℕ → World → Result NameSpace Refusal
space_over text world =
    and_then (or_bad_operation (run_of (environment_of world) text []))
    (λ ran. Ok (name_space world ran))

-- the name space of the sections of a world and of a namespace file, or the first reason against it
abbrev pub space_in : (world ns : Option (List ℕ)) → Result NameSpace Refusal
space_in world ns = and_then (world_in world) (space_over (unwrap_or ns []))

-- the first reason why a certificate of these rows is not closed over the name space
abbrev pub gap_over : NameSpace → List NodeRef → Option Gap
gap_over space rows = first_gap (policy_of space.world) space.world.forest space.table rows
