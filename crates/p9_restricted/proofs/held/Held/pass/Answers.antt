use Rattle.std.proofs.Common.{ap, arith}
use Rattle.p9_restricted.specs.Stream.{Holding}
use Rattle.p9_restricted.proofs.Holdings.{passes_held}
use Rattle.p9_restricted.proofs.held.Held.pass.Goals as goal

pub returns-clause-passed : goal.returns-clause-passed
returns-clause-passed g c =
    let h = c.self.inside in
    passes_held c.args.passing.now c.pass.new.self h.bytes c.pass.new.bytes c.args.self.now.undecided
    h.passed h.end c.pass.result (omega arith) (omega arith)
    (ap (λ (o : Holding). o.undecided) c.self.view_is) c.pass.ensures.passed
