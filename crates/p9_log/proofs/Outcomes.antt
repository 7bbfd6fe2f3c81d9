-- What a crash at this moment leaves of a file at rest.
use Rattle.std.proofs.Common.{ℕ, ◌+◌, List, ap}
use Rattle.p9_log.specs.declared.crash.Crash.{Crash}
use Rattle.p9_log.specs.declared.crash.Crash.TheVariants.{Killed, Stopped}
use Rattle.p9_log.specs.Blocks.{content_in}
use Rattle.p9_log.specs.Device.{Only}
use Rattle.p9_log.specs.Log.{LeaveAsSeen}
use Rattle.p9_log.specs.Rest.{Begin, IsAtRest}
use Rattle.p9_log.proofs.Splits.{front-stopped}

pub as_seen : (file : List ℕ) (kept end : ℕ) (outcomes : Crash → List ℕ → Type 0) → IsAtRest file kept end
    → Begin (kept + 1) file (outcomes Stopped) → Only file (outcomes Killed) → LeaveAsSeen file outcomes
as_seen file kept end outcomes r begin only Killed c now = ap (content_in Killed) (only c now)
as_seen file kept end outcomes r begin only Stopped c now = front-stopped file kept end r.split c (begin c now)
