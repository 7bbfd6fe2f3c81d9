use Rattle.p9_inside.proofs.SparedForests.{mark_spares, touch_spares, owner_spares, write_spares}
use Rattle.p9_inside.proofs.SparedForests.{cut_spares, wstat_spares}
use Rattle.p9_inside.proofs.changes.named_changes_spare_insides.Goals as goal

pub returns-clause-mark : goal.returns-clause-mark
returns-clause-mark c = mark_spares

pub returns-clause-touch : goal.returns-clause-touch
returns-clause-touch c = touch_spares

pub returns-clause-owner : goal.returns-clause-owner
returns-clause-owner c = owner_spares

pub returns-clause-write : goal.returns-clause-write
returns-clause-write c = write_spares

pub returns-clause-cut : goal.returns-clause-cut
returns-clause-cut c = cut_spares

pub returns-clause-wstat : goal.returns-clause-wstat
returns-clause-wstat c = wstat_spares
