use Rattle.p9_prepared.proofs.Parts.{all-parts}
use Rattle.p9_prepared.proofs.bundle.Reader.bundle.Goals as goal

pub returns-in-Some : goal.returns-in-Some
returns-in-Some c input number texts read =
    rw c.with_part.ensures
    (all-parts input texts c.args.self.bundle c.in-Some.section c.in-Some.part
    (rw c.in-Some.is at read.3))
