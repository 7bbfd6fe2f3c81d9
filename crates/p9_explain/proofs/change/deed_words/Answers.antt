use Rattle.std.proofs.Common.{◌∙◌, ap}
use Rattle.std.specs.String.{string_bytes}
use Rattle.p9_shown.specs.Text.{shown_text}
use Rattle.p9_explain.proofs.Changes.{deed-told}
use Rattle.p9_explain.proofs.change.deed_words.Goals as goal

pub returns : goal.returns
returns g c =
    deed-told c.args.world.now c.args.change.now c.args.user.now
    (string_bytes c.in_ok-format.field-0) (string_bytes c.in_ok-name.name)
    c.verb-verb.result.now (string_bytes c.in_ok-path.path)
    (string_bytes c.in_ok-right.right) c.as_str-2.result.now c.verb-verb.ensures
    (c.in_ok-name.ensures ∙ ap shown_text c.as_str.ensures.text) c.in_ok-path.ensures
    c.in_ok-right.ensures c.in_ok-format.ensures.ok
