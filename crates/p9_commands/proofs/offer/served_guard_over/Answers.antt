use Rattle.std.proofs.Common.{ap, ◌++◌, ◌∙◌}
use Rattle.p9_commands.specs.Offer.{offer_of}
use Rattle.p9_commands.proofs.Offers.{offer-moved}
use Rattle.p9_commands.proofs.offer.served_guard_over.Goals as goal

pub returns-clause-ok : goal.returns-clause-ok
returns-clause-ok g c =
    offer-moved (offer_of c.args.input.now) c.new-reported.result.items c.offer.new.err.items
    c.args.err.now.items c.extend_from_slice.new.self.items c.in_ok-guard.guard
    c.new-reported.ensures.items
    (c.in_ok-extend_from_slice.ensures.items
    ∙ ap (λ text. c.args.err.now.items ++ text) c.as_slice.ensures.value) c.in_ok-guard.ensures
