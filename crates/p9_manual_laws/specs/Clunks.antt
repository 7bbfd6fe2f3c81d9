-- What clunk(5) says of a fid.
use Rattle.std.specs.Prelude.{◌≡◌, ℕ, Some, None}
use Rattle.p9_wire.specs.Message.{Rclunk, Tclunk}
use Rattle.p9_fids.specs.Fid.{Fid, fid_at, put_fault}
use Rattle.p9_step.specs.Sound.{IsState}
use Rattle.p9_step.specs.State.{Session, State, session_at}
use Rattle.p9_manual_laws.specs.Asked.{Has, asked}

-- the number is no fid's of the session, and may be that of a new one
pub record IsFree (state : State) (name fid : ℕ) : Type 0 where
  pub session : Session
  pub is_open : session_at name state.sessions ≡ Some session
  pub gone : fid_at fid session.fids ≡ None
  pub free : put_fault fid session.fids ≡ None

-- a clunk frees its fid for a new one
abbrev pub ClunkFreesFid : Type 0
ClunkFreesFid =
    (state : State) (name : ℕ) (session : Session) (fid clock : ℕ) (v : Fid) → IsState state
    → Has state name session fid v
    → let after = asked state name clock (Tclunk fid) in
    (after.reply ≡ Some Rclunk) × IsFree after.state name fid
