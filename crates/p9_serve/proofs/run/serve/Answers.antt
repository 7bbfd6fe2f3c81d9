use Rattle.std.proofs.KnownBytes.{Appends-nil}
use Rattle.p9_serve.proofs.run.serve.Goals as goal

pub returns-in_err-bind-clause-front : goal.returns-in_err-bind-clause-front
returns-in_err-bind-clause-front g c =
    (c.args.stay.address, (0, Appends-nil (g.W.Write.contents c.args.out.now)))

pub returns-in_err-local_addr-clause-front : goal.returns-in_err-local_addr-clause-front
returns-in_err-local_addr-clause-front g c =
    (c.args.stay.address, (0, Appends-nil (g.W.Write.contents c.args.out.now)))
