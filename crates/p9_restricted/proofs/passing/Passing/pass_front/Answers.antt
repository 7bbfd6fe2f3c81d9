use Rattle.std.proofs.Common.{ap, sym, ◌∙◌, refl}
use Rattle.p9_restricted.specs.Masked.{Gate}
use Rattle.p9_restricted.proofs.Onward.{passes_left}
use Rattle.p9_restricted.proofs.passing.Passing.pass_front.Goals as goal

pub returns-in-Before-clause-passed : goal.returns-in-Before-clause-passed
returns-in-Before-clause-passed g c =
    let users = ap (λ (gate : Gate). gate.users) c.self.view_is in
    let place = ap (λ (gate : Gate). gate.place) c.self.view_is in
    passes_left c.args.self.now _ c.args.bytes.now c.in-Before.left c.min-count.result
    (sym place ∙ c.in-Before.is) users refl c.min-count.ensures
