use Rattle.std.proofs.Common.{sym}
use Rattle.p9_exchange.proofs.Sections.{no-replies, with-replies}
use Rattle.p9_exchange.proofs.exchange.exchange_in.Goals as goal

pub returns-then-n-lines : goal.returns-then-n-lines
returns-then-n-lines g c =
    no-replies c.args.lines.now c.lines_before-n.result c.lines_before-n.ensures.before
    c.if-n-lines.true

pub returns : goal.returns
returns g c =
    rw (sym (with-replies c.args.lines.now _ _ _ c.lines_before-n.result
    c.lines_before-n.ensures.before c.if-n-lines.false c.split_at.ensures.front
    c.split_behind.ensures.back c.split_behind-2.ensures.back))
    c.exchange_of_lines.ensures
