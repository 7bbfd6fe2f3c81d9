use Rattle.p9_commands.proofs.Ends.{unplayed}
use Rattle.p9_commands.specs.Command.{printed}
use Rattle.p9_prepared.specs.Prepared.{gap_in}
use Rattle.p9_commands.proofs.command.play.Goals as goal

pub returns-in_ok-print_stop-in-Err : goal.returns-in_ok-print_stop-in-Err
returns-in_ok-print_stop-in-Err g c =
    unplayed c.args.prepared (gap_in c.args.prepared)
    (printed c.args.out.now c.play_script.new.out c.args.err.now c.print_stop.new.err) c.in-Err.stop
    c.in-Err.ensures.stop c.in_ok-print_stop-in-Err.ensures
