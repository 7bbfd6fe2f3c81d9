-- The request of a frame.
use Rattle.std.specs.Prelude.{ℕ, ◌||◌, Bool, true, false, nat_le, List, Result, Ok, Err, drop, not}
use Rattle.std.specs.Prelude.{is_some, length, if◌then◌else◌}
use Rattle.std.specs.Option.{option_map_or}
use Rattle.byteorder.specs.Endian.{little_number}
use Rattle.p9_base.specs.declared.fault.Fault.{Fault}
use Rattle.p9_base.specs.declared.fault.Fault.TheVariants.{Malformed, VersionNotSet}
use Rattle.p9_wire.specs.Message.{TMessage, Tversion}
use Rattle.p9_wire.specs.Reading.{t_message_of}
use Rattle.p9_step.specs.State.{Session}

-- the sixth and seventh byte, also where the frame is no message
abbrev pub tag_of : List ℕ → ℕ
tag_of frame = little_number 2 (drop 5 frame)

-- the request is a version
abbrev pub is_version : TMessage → Bool
is_version (Tversion msize version) = true
is_version other = false

-- a frame is no longer than the session's msize
abbrev pub fits_msize : Session → List ℕ → Bool
fits_msize session frame = option_map_or (λ msize. nat_le (length frame) msize) session.msize true

-- the request of a frame: a frame that is too long, or that no request spells, is malformed; before
-- a version only a version is a request
abbrev pub request_of : Session → List ℕ → Result TMessage Fault
request_of session frame =
    if not (fits_msize session frame) then Err Malformed
    else option_map_or
    (λ m. if is_version m.1 || is_some session.msize then Ok m.1 else Err VersionNotSet)
    (t_message_of frame) (Err Malformed)
