use Rattle.std.proofs.Common.{◌∙◌, sym, ap, map, subst}
use Rattle.p9_view.specs.Tour.{IsPathTo}
use Rattle.p9_prepared.proofs.Paths.{map-reverse}
use Rattle.p9_view.proofs.tour.Tour.names_to.Goals as goal

pub returns : goal.returns
returns g c =
    subst (λ names. IsPathTo c.args.self.now c.args.index names)
    (sym (ap (map (λ n. n.now)) c.reverse.ensures.items
    ∙ map-reverse (λ n. n.now) c.in_ok-names.names.items))
    c.in_ok-names.ensures
