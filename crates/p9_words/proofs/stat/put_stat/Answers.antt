use Rattle.std.proofs.Common.{◌++◌, ap, sym, ◌∙◌}
use Rattle.p9_words.specs.Stat.{parts_view}
use Rattle.p9_words.proofs.Stats.{four, sized-parts}
use Rattle.p9_words.proofs.stat.put_stat.Goals as goal

pub returns : goal.returns
returns g c =
    four _ _ _ _ _ _ _ _ _ c.in_ok-put_number.ensures c.in_ok-put_number-2.ensures
    c.in_ok-put_numbers.ensures c.in_ok-put_texts.ensures
    ∙ ap (λ s. c.args.out.now.items ++ s)
    (sym (sized-parts (parts_view c.args.parts.now) c.args.size c.requires.size))
