use Rattle.std.proofs.Common.{◌≡◌, ℕ, ◌<◌, true, not, get_or, map, []}
use Rattle.std.specs.Str.{bytes_eq}
use Rattle.p9_exchange.proofs.input.lines_before.Given as goal

-- none of the lines so far is the head
abbrev pub invariant-loop-i : goal.invariant-loop-i
invariant-loop-i l =
    (k : ℕ) → k < l.i
    → not (bytes_eq l.head (get_or (map (λ line. line.now) l.lines) k [])) ≡ true
