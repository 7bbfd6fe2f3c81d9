use Rattle.p9_prepared.proofs.Statements.{parts-say}
use Rattle.p9_prepared.proofs.input.sections.Goals as goal

pub returns-in-Ok-clause-ok : goal.returns-in-Ok-clause-ok
returns-in-Ok-clause-ok g c =
    let read = c.in-Ok.ensures.ok in
    (read.0, read.1, parts-say c.args.text.now c.in-Ok.bundle read.0 read.2)
