use Rattle.std.proofs.Common.{take}
use Rattle.std.specs.Prelude.{IsTrue}
use Rattle.std.specs.List.{list_all}
use Rattle.p9_base.specs.User.{is_user}
use Rattle.p9_export.proofs.export.prove_users_valid.Given as goal

abbrev pub invariant-loop-user : goal.invariant-loop-user
invariant-loop-user l = IsTrue (list_all is_user (take l.user-index l.users))
