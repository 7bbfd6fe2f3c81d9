use Rattle.std.proofs.Common.{[], refl, arith}
use Rattle.p9_prepared.proofs.Parts.{rest-whole}
use Rattle.p9_prepared.proofs.bundle.Reader.new.Goals as goal

pub returns-clause-unread : goal.returns-clause-unread
returns-clause-unread c = (
  ([], refl, omega arith),
  refl,
  rest-whole c.args.input.now,
  record { world = tt; ns = tt; cert = tt; script = tt },
)
