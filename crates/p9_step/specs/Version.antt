-- A version, which begins the session anew: version(5).
use Rattle.std.specs.Prelude.{ℕ, ◌||◌, Bool, min, nat_eq, nat_le, List, [], Some, Ok, codes}
use Rattle.std.specs.Prelude.{if◌then◌else◌}
use Rattle.std.specs.List.{starts_with}
use Rattle.std.specs.Str.{bytes_eq}
use Rattle.p9_base.specs.declared.fault.Fault.TheVariants.{SmallMsize}
use Rattle.p9_base.specs.Results.{need}
use Rattle.p9_tree.specs.Server.{Server}
use Rattle.p9_wire.specs.Frame.{msize_max}
use Rattle.p9_wire.specs.Message.{Rversion}
use Rattle.p9_step.specs.State.{Setting, Session}
use Rattle.p9_step.specs.Answer.{Answer}
use Rattle.p9_step.specs.End.{on_ends}

-- the least msize
abbrev pub msize_min : ℕ
msize_min = 512

-- 9P2000, or a dialect of it, which is answered with it
abbrev pub is_known : List ℕ → Bool
is_known version = bytes_eq version (codes "9P2000") || starts_with nat_eq version (codes "9P2000.")

-- all fids end, and frames have at most so many bytes from now on
abbrev pub begun : Setting → List Server → Session → (clock msize : ℕ) → Answer
begun setting forest session clock msize = Ok (record {
  changes = on_ends setting.table clock forest session.fids;
  session = record { msize = Some msize; fids = [] };
  reply = Rversion msize (codes "9P2000");
})

-- a version that isn't spoken here changes nothing
abbrev pub not_spoken : Session → ℕ → Answer
not_spoken session msize =
    Ok (record { changes = []; session = session; reply = Rversion msize (codes "unknown") })

-- the tests in their order
abbrev pub version_answer : Setting → List Server → Session → (clock msize : ℕ) (version : List ℕ)
    → Answer
version_answer setting forest session clock msize version =
    need (nat_le msize_min msize) SmallMsize (
    if is_known version then begun setting forest session clock (min msize msize_max)
    else not_spoken session (min msize msize_max))
