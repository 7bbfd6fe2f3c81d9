use Rattle.std.proofs.Common.{refl, subst}
use Rattle.p9_play.proofs.Guarding.{not-played}
use Rattle.p9_prepared.specs.Prepared.{Prepared, gap_in}
use Rattle.p9_prepared.specs.Refusal.{IsUnverified}
use Rattle.p9_play.proofs.script.play_script.Goals as goal

pub returns-in-Err-clause-stop : goal.returns-in-Err-clause-stop
returns-in-Err-clause-stop g c =
    not-played (gap_in c.args.prepared) c.args.out.now.items c.args.out.now.items c.in-Err.stop
    (subst (λ (prepared : Prepared). IsUnverified (gap_in prepared) c.in-Err.stop)
    c.prepared.view_is (rw c.in-Some.is c.in-Err.ensures.stop))
    refl
