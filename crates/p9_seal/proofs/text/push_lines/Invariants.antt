use Rattle.std.proofs.Common.{◌≡◌, ◌++◌, drop, map}
use Rattle.std.specs.List.{flat_map}
use Rattle.std.specs.String.{string_bytes}
use Rattle.p9_prepared.specs.Bundle.{ended}
use Rattle.p9_seal.proofs.text.push_lines.Given as goal

-- the text so far, with the lines that are left after it, is the one before with all lines
abbrev pub invariant-loop-line : goal.invariant-loop-line
invariant-loop-line g l =
    string_bytes l.text ++ flat_map ended (drop l.line-index (map (λ line. line.now) l.lines))
    ≡ string_bytes l.initial.text ++ flat_map ended (map (λ line. line.now) l.lines)
