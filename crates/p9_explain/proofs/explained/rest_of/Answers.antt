use Rattle.std.proofs.Common.{ap, ◌++◌, ◌∙◌}
use Rattle.std.specs.String.{string_bytes}
use Rattle.p9_explain.proofs.Verdicts.{rest-told}
use Rattle.p9_explain.proofs.explained.rest_of.Goals as goal

pub returns : goal.returns
returns g c =
    rest-told c.args.prepared (string_bytes c.new-text.result) c.as_str.result.now
    (string_bytes c.push_free.new.text) (string_bytes c.in_ok-further.further)
    (string_bytes c.push.new.text) c.new-text.ensures.bytes c.in_ok-push_free.ensures
    (c.in_ok-push.ensures ∙ ap (λ f. string_bytes c.push_free.new.text ++ f) c.as_str-2.ensures.value)
    c.in_ok-further.ensures
