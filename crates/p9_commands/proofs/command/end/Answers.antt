use Rattle.std.proofs.Common.{IfOk, Result}
use Rattle.p9_commands.proofs.Ends.{after-prepared, work-ends}
use Rattle.p9_commands.specs.Command.{CommandEnds, admitted, needs_of, printed}
use Rattle.p9_prepared.specs.Prepared.{Prepared, Rejected}
use Rattle.p9_commands.proofs.command.end.Goals as goal

pub returns-in-Some : goal.returns-in-Some
returns-in-Some g c =
    let p = printed c.args.out.now c.work.new.out c.args.err.now c.work.new.err in
    after-prepared
    (λ (asked : Result Prepared Rejected).
    IfOk c.work.result (λ status. CommandEnds c.args.command asked status p))
    (admitted c.args.command) c.args.err.now.items c.prepare_and_report.new.err.items
    c.needs.result (needs_of c.args.command) c.needs.ensures c.args.input.now
    c.in_ok-prepared.field-0 c.in-Some.prepared c.in-Some.is
    c.in_ok-prepared.ensures
    (λ reported. work-ends c.args.command p c.in-Some.prepared c.prepare_and_report.new.err.items
    reported c.work.result c.work.ensures)
