use Rattle.std.specs.Prelude.{[]}
use Rattle.p9_kept.proofs.Edits.{whole-more, stood-more}
use Rattle.p9_kept.proofs.laws.records_follow.Goals as goal

pub returns : goal.returns
returns c = record { whole = whole-more; stood = stood-more [] }
