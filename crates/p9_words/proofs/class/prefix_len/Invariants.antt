use Rattle.std.proofs.Common.{◌≡◌, ℕ, ◌<◌, true, get_or}
use Rattle.p9_words.specs.Class.{is_in}
use Rattle.p9_words.proofs.class.prefix_len.Given as goal

abbrev pub invariant-loop-i : goal.invariant-loop-i
invariant-loop-i l = (k : ℕ) → k < l.i → is_in l.class (get_or l.text k 0) ≡ true
