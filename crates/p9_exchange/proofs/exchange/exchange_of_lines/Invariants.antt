use Rattle.std.proofs.Common.{◌≡◌, ◌≤◌, drop, map, length}
use Rattle.std.specs.List.{enumerate_from}
use Rattle.p9_base.specs.Results.{try_fold}
use Rattle.p9_exchange.specs.Exchange.{talked}
use Rattle.p9_exchange.specs.Talk.{talk_view, nothing_said}
use Rattle.p9_exchange.proofs.exchange.exchange_of_lines.Given as goal

-- what the lines that are left make of the exchange so far is what all lines make
abbrev pub invariant-loop-position : goal.invariant-loop-position
invariant-loop-position g l =
    let numbered = enumerate_from 1 (map (λ line. line.now) l.script) in
    let step = talked (map (λ reply. reply.now) l.replies) in
    (try_fold step (talk_view l.talk) (drop l.position numbered)
    ≡ try_fold step nothing_said numbered)
    × (l.talk.printed ≤ length l.replies)
