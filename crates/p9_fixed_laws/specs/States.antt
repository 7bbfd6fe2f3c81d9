-- States of an export in which no listed user can change anything that he can come to.
use Rattle.std.specs.Prelude.{◌≡◌, ℕ, Bool, false, List, Some, IsTrue, IsFalse, not}
use Rattle.std.specs.List.{AllByRecursion}
use Rattle.std.specs.Option.{option_map_or}
use Rattle.p9_base.specs.User.{is_listed_user}
use Rattle.p9_base.specs.declared.node_ref.NodeRef.{NodeRef}
use Rattle.p9_tree.specs.Forest.{node_of}
use Rattle.p9_tree.specs.Node.{Node, is_dir}
use Rattle.p9_tree.specs.Server.{Server}
use Rattle.p9_tree.specs.Unread.{all_unread}
use Rattle.p9_space.specs.Table.{members_of}
use Rattle.p9_wire.specs.Message.{TMessage, Tread}
use Rattle.p9_wire.specs.Reading.{t_message_of}
use Rattle.p9_fids.specs.declared.opened.Opened.{Opened}
use Rattle.p9_fids.specs.Fid.{Fid, fid_at}
use Rattle.p9_fids.specs.Opened.{writes}
use Rattle.p9_step.specs.Event.{Close, Event, Message, Open}
use Rattle.p9_step.specs.Sound.{IsState}
use Rattle.p9_step.specs.State.{Session, Setting, State, fid_file, session_at}
use Rattle.p9_cert.specs.Listed.{is_passable}
use Rattle.p9_cert.specs.Policy.{Policy}
use Rattle.p9_cert.specs.Rows.{is_row}
use Rattle.p9_guard_laws.specs.Guarded.{IsCertified, premises_of}
use Rattle.p9_fixed.specs.Fixed.{IsFixed, IsFixedNode}

-- what an export begins with beside its setting: the forest, its hidden directories, and the rows
-- of its certificate
pub record Sealed : Type 0 where
  pub forest : List Server
  pub hidden : List NodeRef
  pub rows : List NodeRef

-- who is listed, the groups, and what is hidden
abbrev pub policy_in : Sealed → Setting → Policy
policy_in sealed setting = (premises_of sealed.hidden setting).policy

-- the certificate is closed, and no listed user can change anything that he can come to
pub record IsFixedInput (sealed : Sealed) (setting : Setting) : Type 0 where
  pub closed : IsCertified (premises_of sealed.hidden setting) sealed.forest (is_row sealed.rows)
  pub fixed : IsFixed (policy_in sealed setting) sealed.forest setting.table (is_row sealed.rows)

module _ (sealed : Sealed) (setting : Setting) where
  -- a member of a place, if it exists, is fixed, and if listed users may pass it, it is a row of the
  -- certificate
  pub record IsFixedMember (at : NodeRef) : Type 0 where
    pub fixed : (n : Node) → node_of at sealed.forest ≡ Some n
        → IsFixedNode (policy_in sealed setting) sealed.forest at n
    pub covered : (n : Node) → node_of at sealed.forest ≡ Some n
        → IsTrue (is_passable setting.users setting.groups n) → IsTrue (is_row sealed.rows at)

  -- the same of each member of a place
  abbrev pub HasFixedMembers : NodeRef → Type 0
  HasFixedMembers place =
      AllByRecursion (λ m. IsFixedMember m.node) (members_of place setting.table)

  -- a fid is a listed user's, the members of each of its places are fixed, and it is open neither to
  -- write nor with remove-on-close
  pub record IsFixedFid (v : Fid) : Type 0 where
    pub listed : IsTrue (is_listed_user setting.users v.user)
    pub places : AllByRecursion HasFixedMembers v.trail
    pub reads : (opened : Opened) → v.opened ≡ Some opened → IsFalse (writes opened.mode)
    pub stays : (opened : Opened) → v.opened ≡ Some opened → IsFalse opened.remove_on_close

  -- so is each fid of a session
  abbrev pub HasFixedFids : Session → Type 0
  HasFixedFids session = AllByRecursion (λ row. IsFixedFid row.1) session.fids

-- a state that the exporter can come to: its forest is the sealed one apart from times of last
-- access, and the fids of each session are as above
pub record IsFixedState (sealed : Sealed) (state : State) : Type 0 where
  pub sound : IsState state
  pub input : IsFixedInput sealed state.setting
  pub forest : all_unread state.forest ≡ all_unread sealed.forest
  pub fids : AllByRecursion (λ row. HasFixedFids sealed state.setting row.1) state.sessions

-- Messages.

-- the event is a frame of an open session, whose message passes the test
abbrev pub is_asked : (Setting → List Server → Session → TMessage → Bool) → State → Event → Bool
is_asked test state (Open name) = false
is_asked test state (Message name frame clock) =
    option_map_or (λ session.
    option_map_or (λ m. test state.setting state.forest session m.1) (t_message_of frame) false)
    (session_at name state.sessions) false
is_asked test state (Close name clock) = false

-- the fid of the number is there, and its file exists and passes the test
abbrev pub is_on : (Node → Bool) → Setting → List Server → Session → (fid : ℕ) → Bool
is_on test setting forest session fid =
    option_map_or (λ v. option_map_or test (fid_file setting.table forest v) false)
    (fid_at fid session.fids) false

-- a read of a file, not of a directory
abbrev pub reads_file : Setting → List Server → Session → TMessage → Bool
reads_file setting forest session (Tread fid offset count) =
    is_on (λ n. not (is_dir n)) setting forest session fid
reads_file setting forest session other = false
