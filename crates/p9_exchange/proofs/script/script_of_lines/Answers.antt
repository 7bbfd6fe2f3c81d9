use Rattle.std.proofs.Common.{sym}
use Rattle.p9_exchange.specs.Script.{script_of_lines}
use Rattle.p9_exchange.proofs.Sections.{front-is, back-is}
use Rattle.p9_exchange.proofs.script.script_of_lines.Goals as goal

pub returns : goal.returns
unfolding script_of_lines
returns g c =
    let front = front-is c.args.lines.now _ c.split_behind.ensures.front in
    let back = back-is c.args.lines.now _ c.split_behind.ensures.back in
    rw (sym front, sym back, sym c.in_ok-text.ensures) c.written_behind.ensures
