use Rattle.std.proofs.Common.{ap, ◌∙◌}
use Rattle.std.specs.String.{string_bytes}
use Rattle.p9_shown.specs.Text.{shown_text}
use Rattle.p9_explain.proofs.Parts.{start-some}
use Rattle.p9_explain.proofs.breach.start_words.Goals as goal

pub returns-in_ok-format-in-len1-up : goal.returns-in_ok-format-in-len1-up
returns-in_ok-format-in-len1-up g c =
    start-some c.args.world.now c.args.steps.now c.step-item.result
    (string_bytes c.in_ok-first-in-len1-up.first) (string_bytes c.in_ok-root-in-len1-up.root)
    (string_bytes c.in_ok-format-in-len1-up.field-0) c.in-len1-up.len_at_least c.step-item.is
    (c.in_ok-first-in-len1-up.ensures ∙ ap shown_text c.as_str.ensures.text)
    c.in_ok-root-in-len1-up.ensures c.in_ok-format-in-len1-up.ensures.ok
