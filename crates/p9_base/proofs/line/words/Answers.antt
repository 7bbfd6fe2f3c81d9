use Rattle.std.proofs.Common.{rules, tests, arith, ◌≡◌, ℕ, ◌<◌, true, List, ◌∷◌, [], nat_lt, length}
use Rattle.std.proofs.Common.{ap, ◌∙◌}
use Rattle.std.specs.Char.{char_set_contains}
use Rattle.std.proofs.lemmas.Iterator.Consumers.{map_from_collect, YieldsList-from_filter}
use Rattle.std.proofs.lemmas.Iterator.Consumers.{YieldsList-at}
use Rattle.p9_base.specs.Line.{is_blank}
use Rattle.p9_base.proofs.Splits.{YieldsList-from_split_by}
use Rattle.p9_base.proofs.line.words.Goals as goal

-- a blank is ASCII
is_blank-ascii : (c : ℕ) → is_blank c ≡ true → c < 128
is_blank-ascii c blank = grind arith

-- a blank is one of these two
char_set_contains-blanks : (c : ℕ) → char_set_contains (32 ∷ 9 ∷ []) c ≡ is_blank c
char_set_contains-blanks c = grind arith

pub returns : goal.returns
returns g c =
    map_from_collect _ c.collect.ensures.ran
    (YieldsList-from_filter _ (λ word. nat_lt 0 (length word))
    (YieldsList-at c.filter.ensures.source
    (YieldsList-from_split_by is_blank is_blank-ascii
    (λ (set : List ℕ) test. (d : ℕ) → char_set_contains set d ≡ test d)
    c.args.line.now c.split.ensures.text c.split.ensures.has_more
    (λ d. ap (λ set. char_set_contains set d) c.split.ensures.pattern
    ∙ char_set_contains-blanks d)))
    c.filter.ensures.closure (λ x b q k. search (rules, tests)))
