use Rattle.std.proofs.Common.{◌≡◌, ◌≤◌, List}
use Rattle.std.specs.Prelude.{count_by}
use Rattle.p9_conn.specs.declared.conn.Turn.{Turn}
use Rattle.p9_clients.specs.Serving.{Turned, is_closed, is_moved}
use Rattle.p9_clients.proofs.clients.Clients.turns.Given as goal

-- the keys so far had their turns, and the tally counts them
abbrev pub invariant-loop-key : goal.invariant-loop-key
invariant-loop-key g l =
    (turns : List Turn)
    × Turned g.S.Read.remaining g.S.Write.contents l.fn.clock l.key l.fn.self l.self turns
    × (l.tally.moved ≡ count_by is_moved turns) × (l.tally.closed ≡ count_by is_closed turns)
    × (l.tally.moved ≤ l.key) × (l.tally.closed ≤ l.key)
