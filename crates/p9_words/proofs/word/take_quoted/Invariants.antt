use Rattle.std.proofs.Common.{◌≡◌, false, [], drop}
use Rattle.p9_words.specs.Reading.{unquoted_from}
use Rattle.p9_words.proofs.word.take_quoted.Given as goal

abbrev pub invariant-loop-i : goal.invariant-loop-i
invariant-loop-i g l =
    unquoted_from l.quote l.bytes.items (drop l.i l.text) ≡ unquoted_from false [] l.text
