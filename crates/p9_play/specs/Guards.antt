-- What serves a name space: an exporter, or a guard over one.
use Rattle.std.specs.Prelude.{List, Result, Ok, Err}
use Rattle.std.specs.Option.{option_map_or}
use Rattle.p9_base.specs.declared.node_ref.NodeRef.{NodeRef}
use Rattle.p9_step.specs.State.{State}
use Rattle.p9_guard.specs.Guard.{Guarded, new_guard}
use Rattle.p9_guard.specs.Served.{served}
use Rattle.p9_prepared.specs.NameSpace.{NameSpace, gap_over}
use Rattle.p9_prepared.specs.Prepared.{Prepared}
use Rattle.p9_prepared.specs.declared.refusal.Refusal.{Refusal}
use Rattle.p9_prepared.specs.declared.refusal.Refusal.TheVariants.{NoCertificate, Unverified}

-- the exporter of a name space to the world's users, without sessions
abbrev pub exported : NameSpace → State
exported space = served space.world space.table

-- the guard over a name space by a certificate of these rows, without sessions
abbrev pub guard_over : NameSpace → List NodeRef → Guarded
guard_over space rows = new_guard space.world space.table rows

-- the guard over a name space by a certificate without a gap
abbrev pub guarded : NameSpace → List NodeRef → Result Guarded Refusal
guarded space rows =
    option_map_or (λ gap. Err (Unverified gap)) (gap_over space rows) (Ok (guard_over space rows))

-- the guard over the name space of an input by its certificate, which it is to have
abbrev pub guard_in : Prepared → Result Guarded Refusal
guard_in prepared = option_map_or (guarded prepared.space) prepared.rows (Err NoCertificate)
