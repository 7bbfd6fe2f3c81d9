use Rattle.std.proofs.Common.{subst}
use Rattle.p9_nsline.specs.Answer.{GivesLines}
use Rattle.p9_nsline.proofs.Including.{file_lines-bad, file_lines-text}
use Rattle.p9_nsline.proofs.include.file_lines.Goals as goal

pub returns-in-Ok : goal.returns-in-Ok
returns-in-Ok g c =
    subst (λ answer. GivesLines answer c.text_lines.result)
    (file_lines-text c.args.node.now c.is_dir.result c.bytes.result.now c.is_dir.ensures
    c.if-is_dir.false c.bytes.ensures c.in-Ok.text.now c.in-Ok.ensures.cases.0
    c.in-Ok.ensures.cases.1)
    c.text_lines.ensures

pub returns-in-Err : goal.returns-in-Err
returns-in-Err g c =
    file_lines-bad c.args.node.now c.is_dir.result c.bytes.result.now c.is_dir.ensures
    c.if-is_dir.false c.bytes.ensures c.in-Err.ensures.cases.0
