use Rattle.std.proofs.Common.{map}
use Rattle.p9_nsline.specs.Line.{line_view}
use Rattle.p9_nsline.specs.Environment.{environment_view}
use Rattle.p9_nsfile.proofs.GivenRuns.{KeepsGiven-lines}
use Rattle.p9_nsfile.proofs.run.run_file.Goals as goal

pub returns-clause-given : goal.returns-clause-given
returns-clause-given g c =
    let environment =
    environment_view c.args.forest.now c.args.vars.now
    c.args.servers.now in
    KeepsGiven-lines environment c.new-environment.result (map line_view c.deref.result.now)
    c.args.table.now c.into_parts-made.result.0 c.in_ok-space.space c.run_lines.new.space
    c.well_formed-2.ensures c.new-environment.ensures c.in_ok-space.ensures c.in_ok-run_lines.ensures
    c.into_parts-made.ensures.table
