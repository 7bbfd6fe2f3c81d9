use Rattle.std.proofs.Common.{◌≡◌, arith, length, refl}
use Rattle.p9_prepared.proofs.NameSpaces.{over-stop}
use Rattle.p9_prepared.proofs.name_space.NameSpace.over.Goals as goal

pub returns-in-Err-clause-stop : goal.returns-in-Err-clause-stop
returns-in-Err-clause-stop g c =
    over-stop c.args.text.now c.args.world _ c.in-Err.stop c.new-table.ensures c.in-Err.ensures.stop

pub invariant_of-result : goal.invariant_of-result
invariant_of-result g c =
    let named : length c.args.world.servers ≡ length c.args.world.forest =
    c.well_formed-2.ensures.named in
    c.in-Ok.ensures.given (rw (← named) c.requires) (omega (arith, named))
    (rw c.new-table.ensures refl)
