use Rattle.std.proofs.Common.{◌≡◌, ◌++◌, drop, map}
use Rattle.std.specs.List.{flat_map}
use Rattle.std.specs.String.{string_bytes}
use Rattle.p9_exchange.specs.Script.{ended}
use Rattle.p9_exchange.proofs.script.copied.Given as goal

-- the text so far, with the lines that are left after it, has all lines
abbrev pub invariant-loop-line : goal.invariant-loop-line
invariant-loop-line g l =
    string_bytes l.text
    ++ flat_map ended (drop l.line-index (map (λ line. line.now) l.lines))
    ≡ flat_map ended (map (λ line. line.now) l.lines)
