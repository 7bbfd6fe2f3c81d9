use Rattle.std.proofs.Common.{Ok, Err, sym, subst}
use Rattle.p9_nsline.specs.Answer.{Gives}
use Rattle.p9_nsline.proofs.Finding.{found_on_server-is}
use Rattle.p9_nsline.proofs.find.find_on_server.Goals as goal

pub returns-in-Ok : goal.returns-in-Ok
returns-in-Ok g c =
    subst (λ answer. Gives answer c.walk_rooted.result)
    (sym (found_on_server-is c.args.environment.now c.args.space.now c.args.path.now
    c.split_name.result.0.now c.split_name.result.1.now (Ok c.in-Ok.root)
    c.split_name.ensures.name c.split_name.ensures.rest c.in-Ok.ensures))
    c.walk_rooted.ensures

pub returns-in-Err : goal.returns-in-Err
returns-in-Err g c =
    found_on_server-is c.args.environment.now c.args.space.now c.args.path.now c.split_name.result.0.now
    c.split_name.result.1.now (Err c.in-Err.fault) c.split_name.ensures.name
    c.split_name.ensures.rest c.in-Err.ensures
