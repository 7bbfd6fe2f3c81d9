use Rattle.std.proofs.Common.{length, sym, subst}
use Rattle.p9_view.specs.Tour.{CanFollow, IsTour}
use Rattle.p9_view.proofs.Tours.{tour-pushed}
use Rattle.p9_view.proofs.tour.Tour.push.Goals as goal

pub invariant_of-self-2 : goal.invariant_of-self-2
invariant_of-self-2 g c =
    subst (λ es. IsTour es) (sym c.in_ok-push.ensures.items)
    (tour-pushed c.self.inside.entries.items c.args.entry c.self.invariant
    (subst (λ es. CanFollow (length es) c.args.entry) (sym c.self.view_is) c.requires))
