-- A server of the exporter, at the other end of a stream.
use Rattle.std.specs.Prelude.{◌≡◌, ℕ, ◌+◌, ◌<◌, ◌≤◌, false, List, [], ◌∷◌, ◌++◌, Some}
use Rattle.p9_tree.specs.Node.{Node, is_dir}
use Rattle.p9_wire.specs.Frame.{msize_max}
use Rattle.p9_wire.specs.Message.{TMessage}
use Rattle.p9_wire.specs.Spelling.{t_spelling}
use Rattle.p9_fids.specs.declared.opened.Opened.{Opened}
use Rattle.p9_fids.specs.Fid.{Fid}
use Rattle.p9_step.specs.Event.{Message}
use Rattle.p9_step.specs.Read.{readable}
use Rattle.p9_step.specs.State.{Session, State, fid_file}
use Rattle.p9_step.specs.Step.{Stepped, step}
use Rattle.p9_manual_laws.specs.Asked.{Has}
use Rattle.p9_client.specs.Session.{next_tag}

-- the session of the name is open and has agreed on the msize, and its fid is open for reading a file
-- with these bytes
pub record HasFile (state : State) (name msize fid : ℕ) (bytes : List ℕ) : Type 0 where
  pub session : Session
  pub v : Fid
  pub opened : Opened
  pub node : Node
  pub has : Has state name session fid v
  pub agreed : session.msize ≡ Some msize
  pub is_open : readable v.opened ≡ Some opened
  pub there : fid_file state.setting.table state.forest v ≡ Some node
  pub plain : is_dir node ≡ false
  pub bytes_are : node.bytes ≡ bytes

-- an msize that a session may have: it has room for data, and is within what the exporter agrees on
pub record IsMsize (msize : ℕ) : Type 0 where
  pub some : 24 < msize
  pub within : msize ≤ msize_max

-- the step of a request of the session, with the tag, at a reading of the clock
abbrev pub request_step : State → (name tag clock : ℕ) → TMessage → Stepped
request_step state name tag clock request =
    step state (Message name (t_spelling tag request) clock) false

-- the replies to requests, one after another, each with the next tag and at the next of these readings
-- of the clock
abbrev pub replies_from : State → (name tag : ℕ) (clock : ℕ → ℕ) (at : ℕ) → List TMessage → List ℕ
replies_from state name tag clock at [] = []
replies_from state name tag clock at (request ∷ requests) =
    (request_step state name tag (clock at) request).reply
    ++ replies_from (request_step state name tag (clock at) request).state name (next_tag tag) clock
    (at + 1) requests
