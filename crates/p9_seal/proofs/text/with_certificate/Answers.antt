use Rattle.std.proofs.Common.{ℕ, Bor, List, ◌++◌, map, ap, ◌∙◌}
use Rattle.std.specs.String.{string_bytes}
use Rattle.p9_prepared.specs.Bundle.{ended}
use Rattle.p9_seal.specs.Text.{lines_after, lines_before}
use Rattle.p9_seal.proofs.Copies.{sealed-by}
use Rattle.p9_seal.proofs.text.with_certificate.Goals as goal

pub returns : goal.returns
returns g c =
    let whole =
    ap (map (λ (line : Bor (List ℕ)). line.now)) c.as_slice-lines.ensures.value
    ∙ c.in_ok-lines.ensures in
    sealed-by c.args.input.now c.args.certificate.now (string_bytes c.new-text.result)
    (string_bytes c.push_lines.new.text) (string_bytes c.push_line.new.text)
    (string_bytes c.push_str.new.self) (string_bytes c.push_lines-2.new.text) _ _ c.new-text.ensures.bytes
    c.in_ok-push_lines.ensures
    (c.in_ok-push_line.ensures
    ∙ ap (λ line. string_bytes c.push_lines.new.text ++ ended line) c.head.ensures)
    c.in_ok-push_str.ensures.bytes
    c.in_ok-push_lines-2.ensures (c.lines_before.ensures ∙ ap lines_before whole)
    (c.lines_after.ensures ∙ ap lines_after whole)
