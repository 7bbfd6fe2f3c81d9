-- There is room for each reply.
use Rattle.std.proofs.Common.{◌≤◌, ◌+◌, ◌-◌, ℕ, Option, Some, None}
use Rattle.std.proofs.Common.{arith}
use Rattle.std.specs.Prelude.{unwrap_or}
use Rattle.std.specs.Option.{option_map_or}
use Rattle.p9_wire.specs.Spelling.{read_header}
use Rattle.p9_step.specs.Laws.{refusal_max, reply_max}
use Rattle.p9_step.specs.Sound.{IsMsize}
use Rattle.p9_step.specs.State.{Session, io_header, iounit_of}

-- what a read may carry has room behind its header
pub data-room : (session : Session) → IsMsize session.msize
    → read_header + iounit_of session ≤ reply_max session
data-room session is = go session.msize is
  where
    go : (msize : Option ℕ) → IsMsize msize
        → read_header + option_map_or (λ m. m - io_header) msize 0 ≤ unwrap_or msize refusal_max
    go None is = omega arith
    go (Some m) is = let low = is.0 in omega arith
