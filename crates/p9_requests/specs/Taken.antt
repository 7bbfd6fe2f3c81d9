-- Whether an open finds its file taken. All sessions are looked at for that before the session of
-- the open is changed.
use Rattle.std.specs.Prelude.{ℕ, Bool, false, List}
use Rattle.std.specs.Option.{option_map_or}
use Rattle.p9_tree.specs.Server.{Server}
use Rattle.p9_wire.specs.Message.{TMessage, Topen}
use Rattle.p9_fids.specs.Fid.{fid_at}
use Rattle.p9_step.specs.Open.{is_taken}
use Rattle.p9_step.specs.State.{Session, SessionRow, Setting, fid_file, fid_ref}

-- the file of the fid is taken: it is exclusive, and a fid of some session has it open
abbrev pub has_taken_file : Setting → List Server → List SessionRow → Session → (fid : ℕ) → Bool
has_taken_file setting forest sessions session fid =
    option_map_or (λ v.
    option_map_or (is_taken setting.table sessions (fid_ref setting.table v))
    (fid_file setting.table forest v) false)
    (fid_at fid session.fids) false

-- the request asks to open a file that is taken
abbrev pub wants_taken_file : Setting → List Server → List SessionRow → Session → TMessage → Bool
wants_taken_file setting forest sessions session (Topen fid mode) =
    has_taken_file setting forest sessions session fid
wants_taken_file setting forest sessions session other = false
