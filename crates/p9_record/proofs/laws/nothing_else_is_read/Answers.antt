use Rattle.p9_record.proofs.ReadBack.{forest_edit-sound}
use Rattle.p9_record.proofs.laws.nothing_else_is_read.Goals as goal

pub returns : goal.returns
returns c = λ bytes edit rest fits e. forest_edit-sound bytes (edit, rest) fits e
