use Rattle.std.proofs.Common.{sym, ◌∙◌, arith}
use Rattle.std.proofs.lemmas.List.Sums.{prefix_len_is}
use Rattle.p9_words.specs.Class.{is_in}
use Rattle.p9_words.proofs.class.prefix_len.Goals as goal

pub returns-then-not-contains-clause-front : goal.returns-then-not-contains-clause-front
returns-then-not-contains-clause-front c =
    sym
    (prefix_len_is (is_in c.args.class) c.args.text.now c.loop-i.i 0 (omega arith)
    c.loop-i.invariant (λ _. sym c.contains.ensures ∙ c.if-not-contains.true))

pub returns-clause-front : goal.returns-clause-front
returns-clause-front c =
    sym
    (prefix_len_is (is_in c.args.class) c.args.text.now _ 0 (omega arith)
    (λ k lt. c.loop-i.invariant k (omega arith)) (λ lt. absurd (omega arith)))
