use Rattle.std.proofs.Common.{ap, nat_eq, not, ◌∙◌}
use Rattle.std.specs.List.{list_any}
use Rattle.p9_restricted.proofs.names.is_visible.Goals as goal

pub returns : goal.returns
returns c =
    rw c.as_str.ensures.valid
    (c.has_other.ensures
    ∙ ap (list_any (λ b. not (nat_eq b 32)))
    (c.as_bytes.ensures.value ∙ c.as_str.ensures.text))
