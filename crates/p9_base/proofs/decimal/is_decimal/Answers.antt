use Rattle.std.proofs.Common.{◌≡◌, rules, tests}
use Rattle.std.specs.Char.{is_ascii_digit}
use Rattle.std.specs.List.{list_all}
use Rattle.std.proofs.lemmas.Iterator.Adapters.{YieldsList-from_bytes}
use Rattle.std.proofs.lemmas.Iterator.Search.{all_from_yields_List}
use Rattle.p9_base.proofs.decimal.is_decimal.Goals as goal

pub returns-then-not-is_empty : goal.returns-then-not-is_empty
returns-then-not-is_empty c =
    let digits : c.all.result ≡ list_all is_ascii_digit c.args.word.now =
    all_from_yields_List is_ascii_digit _ _ c.all.result c.all.ensures.ran
    (YieldsList-from_bytes c.args.word.now c.bytes.ensures.rest)
    (λ x b q k. search (rules, tests)) in
    rw (← c.is_empty.ensures, c.if-not-is_empty.true) digits
