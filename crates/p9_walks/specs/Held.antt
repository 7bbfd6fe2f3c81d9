-- What a session and a walk keep beside the definition's: where the rows of places are in the mount
-- table.
use Rattle.std.specs.Prelude.{ℕ, List, [], Option}
use Rattle.std.specs.List.{AllByRecursion}
use Rattle.p9_space.specs.Channel.{Fits}
use Rattle.p9_space.specs.Table.{MountRow}
use Rattle.p9_fids.specs.Held.{AllFit, HeldFids, map_values}
use Rattle.p9_step.specs.State.{Session, SessionRow, fresh}
use Rattle.p9_step.specs.Walk.{Walked}

-- a session, and beside the number of each fid the rows of its places
pub record HeldSession : Type 0 where
  pub session : Session
  pub rows : List (ℕ × List (Option ℕ))

-- the session alone
abbrev pub session_in : HeldSession → Session
session_in held = held.session

-- a session whose version isn't set
abbrev pub fresh_held : HeldSession
fresh_held = record { session = fresh; rows = [] }

-- its fids
abbrev pub fids_in : HeldSession → HeldFids
fids_in held = record { fids = held.session.fids; rows = held.rows }

-- the rows are those of the places in the table
abbrev pub SessionFits : List MountRow → HeldSession → Type 0
SessionFits table held = AllFit table (fids_in held)

-- the same of each session
abbrev pub SessionsFit : List MountRow → List (ℕ × HeldSession) → Type 0
SessionsFit table rows = AllByRecursion (λ row. SessionFits table row.1) rows

-- the sessions alone
abbrev pub sessions_in : List (ℕ × HeldSession) → List SessionRow
sessions_in rows = map_values session_in rows

-- how far names lead, and the rows of the places there
pub record HeldWalk : Type 0 where
  pub walked : Walked
  pub rows : List (Option ℕ)

-- the rows are those of the places in the table
abbrev pub WalkFits : List MountRow → HeldWalk → Type 0
WalkFits table held = Fits table (record { trail = held.walked.trail; rows = held.rows })
