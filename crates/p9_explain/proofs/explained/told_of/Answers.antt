use Rattle.std.proofs.Common.{ap, ◌++◌, ◌∙◌}
use Rattle.std.specs.String.{string_bytes}
use Rattle.p9_explain.proofs.explained.told_of.Goals as goal

pub returns : goal.returns
returns g c = record {
  verdict = string_bytes c.in_ok-told.told.text;
  rest = string_bytes c.in_ok-rest.rest;
  told = c.in_ok-told.ensures;
  rest_told = c.in_ok-rest.ensures;
  is =
      c.in_ok-push_str.ensures.bytes
      ∙ ap (λ r. string_bytes c.in_ok-told.told.text ++ r) c.as_str.ensures.value;
}
