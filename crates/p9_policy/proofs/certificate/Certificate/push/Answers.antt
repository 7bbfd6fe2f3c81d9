use Rattle.std.proofs.Common.{◌≡◌, true, subst, sym, arith}
use Rattle.p9_policy.specs.Rows.{IsCertificate, may_follow}
use Rattle.p9_policy.proofs.Searched.{certificate-push}
use Rattle.p9_policy.proofs.certificate.Certificate.push.Goals as goal

pub invariant_of-self-2 : goal.invariant_of-self-2
invariant_of-self-2 g c =
    subst IsCertificate (sym c.in_ok-push.ensures.items)
    (certificate-push c.self.inside.rows.items c.args.row c.self.invariant
    (subst (λ rows. may_follow rows c.args.row ≡ true) (sym c.self.view_is) c.requires.greater)
    (omega arith, c.requires.number))
