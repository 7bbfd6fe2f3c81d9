use Rattle.std.proofs.Common.{◌≡◌, drop, map}
use Rattle.std.specs.List.{enumerate_from}
use Rattle.std.specs.String.{string_bytes}
use Rattle.p9_base.specs.Results.{try_fold}
use Rattle.p9_exchange.specs.Script.{with_line, writer_view}
use Rattle.p9_exchange.proofs.script.written_behind.Given as goal

-- what the lines that are left make of the text so far is what all lines make
abbrev pub invariant-loop-position : goal.invariant-loop-position
invariant-loop-position g l =
    let numbered = enumerate_from 1 (map (λ line. line.now) l.lines) in
    try_fold with_line (writer_view l.writer) (drop l.position numbered)
    ≡ try_fold with_line (record { turn = 0; text = string_bytes l.fn.text }) numbered
