-- The making of a file or directory: open(5).
use Rattle.std.specs.Prelude.{ℕ, ◌||◌, not, nat_lt, List, [], ◌∷◌, ◌++◌, Option, Some, Ok, find}
use Rattle.std.specs.Prelude.{is_none, length}
use Rattle.std.specs.List.{list_any}
use Rattle.p9_base.specs.declared.fault.Fault.TheVariants.{BadFileName, BadOpenMode}
use Rattle.p9_base.specs.declared.fault.Fault.TheVariants.{CreationForbidden, FidOpen, FileExists}
use Rattle.p9_base.specs.declared.fault.Fault.TheVariants.{IsDirectory, NotDirectory, PathTooDeep}
use Rattle.p9_base.specs.declared.fault.Fault.TheVariants.{PermissionDenied, PhaseError, QidsUsedUp}
use Rattle.p9_base.specs.declared.fault.Fault.TheVariants.{UnknownFid}
use Rattle.p9_base.specs.declared.mode.Mode.{Mode}
use Rattle.p9_base.specs.declared.node_ref.NodeRef.{NodeRef}
use Rattle.p9_base.specs.Mode.{is_dir as is_dir_mode, mode_of}
use Rattle.p9_base.specs.Name.{is_name}
use Rattle.p9_base.specs.Results.{obtain, need}
use Rattle.p9_base.specs.NodeRef.{beside}
use Rattle.p9_tree.specs.Node.{Node, is_dir}
use Rattle.p9_tree.specs.Server.{Server, next_max}
use Rattle.p9_tree.specs.Forest.{child_in, next_of, node_of}
use Rattle.p9_table.specs.declared.row.Member.{Member}
use Rattle.p9_space.specs.Rights.{may, to_write}
use Rattle.p9_space.specs.Table.{members_of}
use Rattle.p9_space.specs.Trail.{here, places_max}
use Rattle.p9_space.specs.Walk.{is_alive, is_alive_dir}
use Rattle.p9_wire.specs.Message.{Rcreate}
use Rattle.p9_fids.specs.Fid.{Fid, changed_fid, fid_at}
use Rattle.p9_step.specs.declared.opening.Opening.{Opening}
use Rattle.p9_step.specs.State.{Setting, Session, iounit_of, who_of}
use Rattle.p9_step.specs.Answer.{Answer}
use Rattle.p9_step.specs.ForestChange.{AddNode, EditNode, Mark}
use Rattle.p9_step.specs.Inherit.{inherited}
use Rattle.p9_step.specs.Opening.{is_plain_read, newly_opened, opening_of}
use Rattle.p9_step.specs.Qid.{qid_of}

-- the node that is made: the user's, of the group of its directory
abbrev pub created : (user : List ℕ) (clock number : ℕ) → Node → (name : List ℕ) → Mode → Node
created user clock number dir name asked = record {
  number = number;
  parent = Some dir.number;
  name = name;
  mode = inherited dir.mode.permissions asked;
  uid = user;
  gid = dir.gid;
  muid = user;
  version = 0;
  atime = clock;
  mtime = clock;
  bytes = [];
}

-- the first member that permits creation
abbrev pub permitting : List Member → Option Member
permitting ms = find (λ m. m.create) ms

-- the fid goes on to the end of a trail, where it is open
abbrev pub entered : ℕ → List NodeRef → Opening → Session → Session
entered fid trail opening session = record session {
  fids =
      changed_fid fid (λ v. record v { trail = trail; opened = Some (newly_opened opening) })
      session.fids;
}

-- the node is made in the directory, which is marked, and the fid goes on to it
abbrev pub creation : List Server → Session → (clock fid : ℕ) → Fid → NodeRef → Node
    → (name : List ℕ) → Mode → Opening → Answer
creation forest session clock fid v target dir name asked opening =
    let at = beside target (next_of target.server forest) in
    let n = created v.user clock at.number dir name asked in
    Ok (record {
      changes = AddNode target.server n ∷ EditNode target (Mark v.user clock) ∷ [];
      session = entered fid (v.trail ++ at ∷ []) opening session;
      reply = Rcreate (qid_of at n) (iounit_of session);
    })

-- the tests in their order: of the request, of the union where the fid is, and of the directory of
-- the first member that permits creation
abbrev pub create_answer : Setting → List Server → Session
    → (clock fid : ℕ) (name : List ℕ) (perm bits : ℕ) → Answer
create_answer setting forest session clock fid name perm bits =
    obtain (fid_at fid session.fids) UnknownFid (λ v.
    need (is_none v.opened) FidOpen (
    need (is_name name) BadFileName (
    obtain (opening_of bits) BadOpenMode (λ opening.
    obtain (mode_of perm) BadOpenMode (λ asked.
    need (not (is_dir_mode asked) || is_plain_read opening) IsDirectory (
    let members = members_of (here v.trail) setting.table in
    need (list_any (is_alive forest) members) PhaseError (
    need (list_any (is_alive_dir forest) members) NotDirectory (
    obtain (permitting members) CreationForbidden (λ member.
    let target = member.node in
    obtain (node_of target forest) PhaseError (λ dir.
    need (is_dir dir) NotDirectory (
    need (may (who_of setting v.user) dir to_write) PermissionDenied (
    need (is_none (child_in target name forest)) FileExists (
    need (nat_lt (next_of target.server forest) next_max) QidsUsedUp (
    need (nat_lt (length v.trail) places_max) PathTooDeep (
    creation forest session clock fid v target dir name asked opening)))))))))))))))
