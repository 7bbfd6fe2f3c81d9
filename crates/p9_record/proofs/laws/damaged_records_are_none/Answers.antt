use Rattle.p9_record.proofs.Checksums.{closed-cut, closed-other}
use Rattle.p9_record.proofs.laws.damaged_records_are_none.Goals as goal

pub returns : goal.returns
returns c = record { cut = closed-cut; other = closed-other }
