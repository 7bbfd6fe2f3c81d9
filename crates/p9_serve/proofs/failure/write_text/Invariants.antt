use Rattle.std.proofs.Common.{◌≤◌, length, take}
use Rattle.std.specs.Io.KnownBytes.{Appends}
use Rattle.p9_serve.proofs.failure.write_text.Given as goal

-- the bytes of the text that were written
abbrev pub invariant-loop : goal.invariant-loop
invariant-loop g l =
    (l.count ≤ length l.text)
    × Appends (g.W.Write.contents l.fn.out) (g.W.Write.contents l.out) (take l.count l.text)
