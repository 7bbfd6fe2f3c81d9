use Rattle.p9_user_laws.proofs.Runs.{fids-belong}
use Rattle.p9_user_laws.proofs.laws.fids_belong_to_who_attached.Goals as goal

pub returns : goal.returns
returns c = fids-belong
