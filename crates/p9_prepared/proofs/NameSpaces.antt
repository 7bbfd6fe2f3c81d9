-- The name space of an input.
use Rattle.std.proofs.Common.{◌≡◌, ℕ, Bor, Err, None, Some, IfOk, List, Ok, Option, Result, []}
use Rattle.std.proofs.Common.{refl}
use Rattle.std.proofs.Common.{subst, sym}
use Rattle.std.specs.Prelude.{unwrap_or, option_copied}
use Rattle.p9_nsfile.specs.Run.{run_of}
use Rattle.p9_space.specs.Table.{MountRow}
use Rattle.p9_world.specs.World.{World}
use Rattle.p9_prepared.specs.NameSpace.{NameSpace, environment_of, or_bad_operation, space_in}
use Rattle.p9_prepared.specs.NameSpace.{space_over, world_in}
use Rattle.p9_prepared.specs.Refusal.{IsStop}
use Rattle.p9_prepared.specs.declared.refusal.Refusal.{Refusal}
use Rattle.p9_base.specs.declared.stop.Stop.{Stop}
use Rattle.p9_base.specs.declared.stop.Stop.TheVariants.{Refused, NoMemory}

-- a section, or the text of none
pub section : (text : Option (Bor (List ℕ))) (none : Bor (List ℕ))
    → (unwrap_or text none).now ≡ unwrap_or (option_copied text) none.now
section None none = refl
section (Some text) none = refl

-- what stops the run of a namespace file over an empty table stops the making of the name space
pub over-stop : (text : List ℕ) (world : World) (table : List MountRow) (stop : Stop Refusal)
    → table ≡ [] → IsStop (or_bad_operation (run_of (environment_of world) text table)) stop
    → IsStop (space_over text world) stop
over-stop text world table NoMemory empty stopped = tt
over-stop text world table (Refused refusal) empty stopped =
    let ran : or_bad_operation (run_of (environment_of world) text []) ≡ Err refusal =
    subst (λ rows. or_bad_operation (run_of (environment_of world) text rows) ≡ Err refusal)
    empty stopped in
    rw ran refl

-- the namespace file is run over the world of its section
module _ (world ns : Option (List ℕ)) (text : List ℕ) (w : World) (made : world_in world ≡ Ok w)
    (given : text ≡ unwrap_or ns []) where
  over_it : space_in world ns ≡ space_over text w
  over_it = rw (made, given) refl

  pub read-ok : (result : Result NameSpace (Stop Refusal))
      → IfOk result (λ space. space_over text w ≡ Ok space)
      → IfOk result (λ space. space_in world ns ≡ Ok space)
  read-ok result =
      subst (λ asked. IfOk result (λ space. asked ≡ Ok space)) (sym over_it)
