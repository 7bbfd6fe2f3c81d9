use Rattle.p9_prepared.proofs.Smalls.{is_name-a, is_name-b, is_name-f}
use Rattle.p9_prepared.proofs.small.small.Goals as goal

pub add-requires-clause-name : goal.add-requires-clause-name
add-requires-clause-name g c = is_name-a

pub add-requires-2-clause-name : goal.add-requires-2-clause-name
add-requires-2-clause-name g c = is_name-b

pub add-requires-3-clause-name : goal.add-requires-3-clause-name
add-requires-3-clause-name g c = is_name-f
