use Rattle.std.proofs.Common.{sym, ◌∙◌}
use Rattle.std.specs.String.{string_bytes}
use Rattle.p9_explain.proofs.Parts.{gap-told}
use Rattle.p9_explain.proofs.certificate.gap_words.Goals as goal

pub returns : goal.returns
returns g c =
    gap-told c.as_str.result.now c.as_str-2.result.now (string_bytes c.in_ok-first.first)
    (string_bytes c.in_ok-text.text) (string_bytes c.push_free.new.text) c.in_ok-first.ensures
    (c.as_str-2.ensures.value ∙ sym c.as_str.ensures.value) c.in_ok-text.ensures.ok
    c.in_ok-push_free.ensures
