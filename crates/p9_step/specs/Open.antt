-- The opening of a fid: open(5).
use Rattle.std.specs.Prelude.{ℕ, ◌&&◌, ◌||◌, Bool, false, not, nat_lt, List, [], ◌∷◌, Ok}
use Rattle.std.specs.Prelude.{is_none, if◌then◌else◌}
use Rattle.std.specs.List.{list_any}
use Rattle.std.specs.Map.{values_of}
use Rattle.p9_base.specs.declared.fault.Fault.TheVariants.{BadOpenMode, ExclusiveUse, FidOpen}
use Rattle.p9_base.specs.declared.fault.Fault.TheVariants.{IsDirectory, PermissionDenied}
use Rattle.p9_base.specs.declared.fault.Fault.TheVariants.{PhaseError, UnknownFid}
use Rattle.p9_base.specs.declared.mode.Kind.{Kind}
use Rattle.p9_base.specs.declared.mode.Kind.TheVariants.{Directory, File}
use Rattle.p9_base.specs.declared.node_ref.NodeRef.{NodeRef}
use Rattle.p9_base.specs.Results.{obtain, need}
use Rattle.p9_tree.specs.Node.{Node, is_dir}
use Rattle.p9_tree.specs.Server.{Server}
use Rattle.p9_space.specs.Rights.{Who, may}
use Rattle.p9_space.specs.Table.{MountRow}
use Rattle.p9_wire.specs.Message.{Ropen}
use Rattle.p9_fids.specs.Fid.{changed_fid, fid_at, open_count, opened_as}
use Rattle.p9_step.specs.declared.opening.Opening.{Opening}
use Rattle.p9_step.specs.State.{Setting, Session, SessionRow, fid_file, fid_ref, iounit_of, who_of}
use Rattle.p9_step.specs.Answer.{Answer}
use Rattle.p9_step.specs.ForestChange.{ForestChange, Cut, EditNode, Mark, edited}
use Rattle.p9_step.specs.Opening.{is_plain_read, newly_opened, opening_of, wanted_by}
use Rattle.p9_step.specs.Qid.{qid_of}
use Rattle.p9_step.specs.Rights.{may_write_parent}

-- a file with this flag; a directory never has it
abbrev pub is_append_only_kind : Kind → Bool
is_append_only_kind Directory = false
is_append_only_kind (File flags) = flags.append_only

-- each write goes to its end, and no opening truncates it
abbrev pub is_append_only : Node → Bool
is_append_only n = is_append_only_kind n.mode.kind

-- a file with this flag; a directory never has it
abbrev pub is_exclusive_kind : Kind → Bool
is_exclusive_kind Directory = false
is_exclusive_kind (File flags) = flags.exclusive

-- exclusive: one fid at a time may have it open
abbrev pub is_exclusive : Node → Bool
is_exclusive n = is_exclusive_kind n.mode.kind

-- a fid of some session has it open
abbrev pub is_in_use : List MountRow → NodeRef → List SessionRow → Bool
is_in_use table at sessions =
    list_any (λ session. nat_lt 0 (open_count table at session.fids)) (values_of sessions)

-- the file is taken: it is exclusive, and a fid of some session has it open
abbrev pub is_taken : List MountRow → List SessionRow → NodeRef → Node → Bool
is_taken table sessions at n = is_exclusive n && is_in_use table at sessions

-- each right that the mode asks for, and to remove on close, to change the file's directory
abbrev pub may_open : Who → List Server → NodeRef → Node → Opening → Bool
may_open who forest at n opening =
    may who n (wanted_by opening)
    && (not opening.remove_on_close || may_write_parent who forest at n)

-- the opening truncates the file; one that is append-only stays
abbrev pub is_cut : Node → Opening → Bool
is_cut n opening = opening.truncates && not (is_append_only n)

-- truncation cuts the file to nothing, and marks it
abbrev pub truncation : List ℕ → ℕ → NodeRef → Node → Opening → List ForestChange
truncation user clock at n opening =
    if is_cut n opening then EditNode at (Cut 0) ∷ EditNode at (Mark user clock) ∷ [] else []

-- the file after it
abbrev pub truncated : List ℕ → ℕ → Node → Opening → Node
truncated user clock n opening =
    if is_cut n opening then edited (Mark user clock) (edited (Cut 0) n) else n

-- the fid is open
abbrev pub opened_session : ℕ → Opening → Session → Session
opened_session fid opening session = record session {
  fids = changed_fid fid (opened_as (newly_opened opening)) session.fids;
}

-- the tests in their order
abbrev pub open_answer : Setting → List Server → List SessionRow → Session → (clock fid bits : ℕ)
    → Answer
open_answer setting forest sessions session clock fid bits =
    obtain (fid_at fid session.fids) UnknownFid (λ v.
    need (is_none v.opened) FidOpen (
    obtain (fid_file setting.table forest v) PhaseError (λ n.
    obtain (opening_of bits) BadOpenMode (λ opening.
    need (not (is_dir n) || is_plain_read opening) IsDirectory (
    let at = fid_ref setting.table v in
    need (may_open (who_of setting v.user) forest at n opening) PermissionDenied (
    need (not (is_taken setting.table sessions at n)) ExclusiveUse (
    Ok (record {
      changes = truncation v.user clock at n opening;
      session = opened_session fid opening session;
      reply = Ropen (qid_of at (truncated v.user clock n opening)) (iounit_of session);
    }))))))))
