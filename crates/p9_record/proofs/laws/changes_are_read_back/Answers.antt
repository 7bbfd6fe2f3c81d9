use Rattle.p9_record.proofs.ReadBack.{forest_edit-complete}
use Rattle.p9_record.proofs.laws.changes_are_read_back.Goals as goal

pub returns : goal.returns
returns c = forest_edit-complete
