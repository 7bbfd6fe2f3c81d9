use Rattle.std.specs.Prelude.{codes}
use Rattle.p9_world.specs.Unfit.{unfit_user}
use Rattle.p9_world.proofs.Fits.{IsOk-fit, sys-fit}
use Rattle.p9_world.proofs.plain_user.PlainUser.sys.Goals as goal

pub unwrap-requires : goal.unwrap-requires
unwrap-requires c =
    IsOk-fit c.new.result (codes "sys") (unfit_user (codes "sys")) sys-fit c.new.ensures
