use Rattle.p9_record.proofs.Checksums.{closed_edit-complete}
use Rattle.p9_record.proofs.laws.closed_changes_are_read_back.Goals as goal

pub returns : goal.returns
returns c = closed_edit-complete
