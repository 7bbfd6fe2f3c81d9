use Rattle.std.proofs.Common.{◌≡◌, ◌≤◌, ◌<◌, ◌-◌, ◌++◌, length, sym, ap, ◌∙◌, arith, take, if◌then◌else◌}
use Rattle.std.specs.Prelude.{encode_utf8, encode_utf8_all}
use Rattle.std.specs.Str.{chars}
use Rattle.std.proofs.lemmas.Bool.{le-leb, lt-leb}
use Rattle.std.proofs.lemmas.Iterator.{YieldsList-from_chars}
use Rattle.std.proofs.lemmas.Iterator.Consumers.{count_from_yields_List}
use Rattle.p9_map.proofs.label.cut.Goals as goal

pub returns-then-count-most : goal.returns-then-count-most
returns-then-count-most g c =
    let text = c.args.text.now in
    let most = c.args.most in
    let count : c.count.result ≡ length (chars text) =
    count_from_yields_List c.chars.result c.count.result c.count.ensures.ran
    (YieldsList-from_chars text c.utf8.text c.chars.ensures.rest) in
    let few : length (chars text) ≤ most = omega (arith, count, c.if-count-most.true) in
    c.in_ok-from_str.ensures.ok
    ∙ ap (λ b. if b then text else encode_utf8_all (take (most - 1) (chars text)) ++ encode_utf8 0x2026)
    (sym (le-leb (length (chars text)) most few))

pub returns : goal.returns
returns g c =
    let text = c.args.text.now in
    let most = c.args.most in
    let count : c.count.result ≡ length (chars text) =
    count_from_yields_List c.chars.result c.count.result c.count.ensures.ran
    (YieldsList-from_chars text c.utf8.text c.chars.ensures.rest) in
    let many : most < length (chars text) = omega (arith, count, c.if-count-most.false) in
    c.in_ok-push.ensures.bytes ∙ ap (λ f. f ++ encode_utf8 0x2026) c.in_ok-front.ensures
    ∙ ap (λ k. encode_utf8_all (take k (chars text)) ++ encode_utf8 0x2026) c.saturating_sub.ensures
    ∙ ap (λ b. if b then text else encode_utf8_all (take (most - 1) (chars text)) ++ encode_utf8 0x2026)
    (sym (lt-leb (length (chars text)) most many))
