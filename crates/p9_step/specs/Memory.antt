-- A failed allocation: which requests may be answered by it, and how.
use Rattle.std.specs.Prelude.{ℕ, Bool, true, false, List, Ok, Err}
use Rattle.std.specs.Option.{option_map_or}
use Rattle.std.specs.Str.{bytes_eq}
use Rattle.p9_base.specs.declared.fault.Fault.{Fault}
use Rattle.p9_base.specs.declared.fault.Fault.TheVariants.{NotDirectory, NotFound, OutOfMemory}
use Rattle.p9_base.specs.declared.fault.Fault.TheVariants.{PathTooDeep, PermissionDenied, PhaseError}
use Rattle.p9_base.specs.Fault.{text_of}
use Rattle.p9_wire.specs.Message.{TMessage, Tattach, Twalk, Tcreate, Twrite, Twstat, Rerror}
use Rattle.p9_wire.specs.Reading.{t_message_of}
use Rattle.p9_wire.specs.Reply.{r_spelling}
use Rattle.p9_step.specs.Answer.{Answer}
use Rattle.p9_step.specs.Request.{tag_of}

-- nothing refuses
abbrev pub is_done : Answer → Bool
is_done (Ok outcome) = true
is_done (Err fault) = false

-- a fault that tells of a file: of one on the way of a walk, or of that where the walk ends
abbrev pub is_of_file : Fault → Bool
is_of_file PhaseError = true
is_of_file NotDirectory = true
is_of_file PermissionDenied = true
is_of_file NotFound = true
is_of_file PathTooDeep = true
is_of_file other = false

-- no test of an attach refuses that looks at no file
abbrev pub is_beyond_session : Answer → Bool
is_beyond_session (Ok outcome) = true
is_beyond_session (Err fault) = is_of_file fault

-- whether a request may be answered by a failed allocation, in the place of the answer that it has:
-- a walk, a create, a write or a wstat where no refusal is due, an attach where none is due that
-- looks at no file
abbrev pub may_run_out : TMessage → Answer → Bool
may_run_out (Tattach fid afid uname aname) answer = is_beyond_session answer
may_run_out (Twalk fid newfid names) answer = is_done answer
may_run_out (Tcreate fid name perm mode) answer = is_done answer
may_run_out (Twrite fid offset bytes) answer = is_done answer
may_run_out (Twstat fid stat) answer = is_done answer
may_run_out other answer = false

-- the same of a frame
abbrev pub frame_may_fail : (frame : List ℕ) → Answer → Bool
frame_may_fail frame answer = option_map_or (λ m. may_run_out m.1 answer) (t_message_of frame) false

-- the reply to a frame for which there is no memory
abbrev pub no_memory_reply : List ℕ → List ℕ
no_memory_reply frame = r_spelling (tag_of frame) (Rerror (text_of OutOfMemory))

-- whether a frame was answered so
abbrev pub is_no_memory_reply : (frame reply : List ℕ) → Bool
is_no_memory_reply frame reply = bytes_eq reply (no_memory_reply frame)
