use Rattle.std.proofs.Common.{◌≡◌, ◌-◌, ◌≤◌, ◌++◌, length, take}
use Rattle.p9_log.specs.declared.crash.Crash.{Crash}
use Rattle.p9_log.specs.Device.{IsSame}
use Rattle.p9_disk.specs.Crashes.{Goes}
use Rattle.p9_disk.specs.Events.{drafted, faults, is_unsure, seen}
use Rattle.p9_disk.proofs.writing.add_all.Given as goal

-- a front of the bytes is added
abbrev pub invariant-loop-done : goal.invariant-loop-done
invariant-loop-done l = (l.done ≤ length l.bytes) × (drafted l.calls.events ≡ drafted l.fn.calls.events ++ take l.done l.bytes) × (seen l.calls.events ≡ seen l.fn.calls.events)
    × ((how : Crash) → Goes how IsSame l.fn.calls.events l.calls.events) × (faults l.calls.events ≡ faults l.fn.calls.events) × (is_unsure l.calls.events ≡ is_unsure l.fn.calls.events)

abbrev pub decreases-loop-done : goal.decreases-loop-done
decreases-loop-done l = length l.bytes - l.done
