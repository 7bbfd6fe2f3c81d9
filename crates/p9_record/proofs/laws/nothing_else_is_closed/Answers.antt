use Rattle.p9_record.proofs.Checksums.{closed_edit-sound}
use Rattle.p9_record.proofs.laws.nothing_else_is_closed.Goals as goal

pub returns : goal.returns
returns c = λ bytes edit rest fits e. closed_edit-sound bytes (edit, rest) fits e
