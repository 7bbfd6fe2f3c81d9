use Rattle.std.proofs.Common.{refl}
use Rattle.p9_tree.specs.Inside.{inner, outer}
use Rattle.p9_inside.proofs.worlds.small_worlds.Goals as goal

pub returns-clause-vault : goal.returns-clause-vault
unfolding inner
returns-clause-vault c = refl

pub returns-clause-vault_others : goal.returns-clause-vault_others
unfolding outer
returns-clause-vault_others c = refl

pub returns-clause-covered_vault : goal.returns-clause-covered_vault
unfolding inner
returns-clause-covered_vault c = refl

pub returns-clause-removed : goal.returns-clause-removed
unfolding inner
returns-clause-removed c = refl

pub returns-clause-bound_inside : goal.returns-clause-bound_inside
unfolding inner
returns-clause-bound_inside c = refl

pub returns-clause-deep : goal.returns-clause-deep
unfolding inner
returns-clause-deep c = refl
