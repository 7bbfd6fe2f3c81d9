use Rattle.p9_manual_laws.proofs.Created.{created_is_found}
use Rattle.p9_manual_laws.proofs.a_created_file_is_found.Goals as goal

pub returns : goal.returns
returns c = created_is_found
