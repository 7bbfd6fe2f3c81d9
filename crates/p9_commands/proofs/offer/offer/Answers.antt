use Rattle.std.proofs.Common.{None, Result, Some, refl}
use Rattle.p9_commands.proofs.Ends.{after-prepared}
use Rattle.p9_commands.proofs.Offers.{guard-offered, none-offered}
use Rattle.p9_commands.specs.Offer.{Offer, Serves, offer_in}
use Rattle.p9_prepared.specs.Prepared.{Rejected}
use Rattle.p9_prepared.specs.declared.prepared.Needs.TheVariants.{Certificate}
use Rattle.p9_commands.proofs.offer.offer.Goals as goal

pub returns-in-Ok : goal.returns-in-Ok
returns-in-Ok g c =
    let before = c.args.err.now.items in
    let between = c.prepare_and_report.new.err.items in
    after-prepared
    (λ (asked : Result Offer Rejected). Serves asked before between (Some c.in-Ok.guard)) offer_in
    before between Certificate Certificate refl c.args.input.now c.in_ok-prepared.field-0
    c.in-Some.prepared c.in-Some.is c.in_ok-prepared.ensures
    (λ told. guard-offered before between between c.in-Some.prepared told c.in-Ok.guard
    c.in-Ok.ensures.ok)

pub returns-in_ok-print_stop-in-Err : goal.returns-in_ok-print_stop-in-Err
returns-in_ok-print_stop-in-Err g c =
    let before = c.args.err.now.items in
    let between = c.prepare_and_report.new.err.items in
    after-prepared
    (λ (asked : Result Offer Rejected). Serves asked before c.print_stop.new.err.items None) offer_in
    before between Certificate Certificate refl c.args.input.now c.in_ok-prepared.field-0
    c.in-Some.prepared c.in-Some.is c.in_ok-prepared.ensures
    (λ told. none-offered before between c.print_stop.new.err.items c.in-Some.prepared told
    c.in-Err.stop c.in-Err.ensures.stop c.in_ok-print_stop-in-Err.ensures)
