use Rattle.std.proofs.Common.{refl}
use Rattle.p9_space.specs.Rights.{who_view}
use Rattle.p9_step.proofs.Permits.{not-given}
use Rattle.p9_requests.proofs.Wstats.{group-refused}
use Rattle.p9_requests.proofs.wstat.wanted_gid.Goals as goal

pub returns-in_default-new : goal.returns-in_default-new
returns-in_default-new g c =
    group-refused (who_view c.args.who) c.args.file.now c.args.gid c.in-Some.gid c.in-Some.is
    (not-given (who_view c.args.who) c.args.file.now c.in-Some.gid.now
    c.well_formed-in_default-new.ensures c.as_str-valid.ensures.valid
    (c.in_default-new.ensures.none.0 refl))
