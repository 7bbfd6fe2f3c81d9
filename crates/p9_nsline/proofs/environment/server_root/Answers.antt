use Rattle.std.proofs.Common.{None, Some}
use Rattle.p9_nsline.proofs.Finding.{server_root-some, min-take}
use Rattle.p9_nsline.proofs.environment.server_root.Goals as goal

pub returns-in-Some : goal.returns-in-Some
returns-in-Some g c =
    server_root-some c.args.servers.now _ c.args.name.now (Some c.in-Some.number)
    (min-take c.args.servers.now c.min.result c.min.ensures) c.in-Some.ensures.number

pub returns-in-None : goal.returns-in-None
returns-in-None g c =
    server_root-some c.args.servers.now _ c.args.name.now None
    (min-take c.args.servers.now c.min.result c.min.ensures) c.in-None.ensures.number
