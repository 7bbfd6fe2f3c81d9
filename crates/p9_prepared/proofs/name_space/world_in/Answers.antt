use Rattle.p9_prepared.proofs.Worlds.{world_of-some}
use Rattle.p9_prepared.proofs.name_space.world_in.Goals as goal

pub returns-in-Ok-clause-some : goal.returns-in-Ok-clause-some
returns-in-Ok-clause-some g c = world_of-some c.in-Some.text.now c.in-Ok.world c.in-Ok.ensures.ok
