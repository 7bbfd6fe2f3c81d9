use Rattle.std.proofs.Common.{map, ap, ◌∙◌}
use Rattle.p9_prepared.proofs.Paths.{map-reverse}
use Rattle.p9_prepared.proofs.path.names_to.Goals as goal

pub returns : goal.returns
returns g c =
    ap (map (λ n. n.now)) c.reverse.ensures.items
    ∙ map-reverse (λ n. n.now) c.in_ok-names.names.items ∙ c.in_ok-names.ensures
