-- What holds of the fids of every session.
use Rattle.std.specs.Prelude.{ℕ, ◌<◌, ◌≤◌, List, length}
use Rattle.std.specs.List.{AllByRecursion}
use Rattle.std.specs.Map.{keys_of}
use Rattle.p9_base.specs.Rising.{IsRising}
use Rattle.p9_fids.specs.Fid.{FidRow, fids_max, nofid}

-- the fids of a session: their numbers rise strictly, none is the number that is no fid, and they
-- are not too many
pub record IsFids (fids : List FidRow) : Type 0 where
  pub rising : IsRising fids
  pub below : AllByRecursion (λ fid. fid < nofid) (keys_of fids)
  pub few : length fids ≤ fids_max

-- a number that is no more than that of each fid
abbrev pub IsLeast : List FidRow → ℕ → Type 0
IsLeast fids fid = AllByRecursion (λ other. fid ≤ other) (keys_of fids)
