-- The tests of a create in the parts in which they are done: of the request, of the union where the
-- fid is, and of the directory where the node is to be made.
use Rattle.std.specs.Prelude.{ℕ, ◌||◌, not, nat_lt, List, [], ◌∷◌, Result, Ok, is_none, length}
use Rattle.std.specs.List.{list_any}
use Rattle.p9_base.specs.declared.fault.Fault.{Fault}
use Rattle.p9_base.specs.declared.fault.Fault.TheVariants.{BadFileName, BadOpenMode}
use Rattle.p9_base.specs.declared.fault.Fault.TheVariants.{CreationForbidden, FidOpen, FileExists}
use Rattle.p9_base.specs.declared.fault.Fault.TheVariants.{IsDirectory, NotDirectory, PathTooDeep}
use Rattle.p9_base.specs.declared.fault.Fault.TheVariants.{PermissionDenied, PhaseError, QidsUsedUp}
use Rattle.p9_base.specs.declared.fault.Fault.TheVariants.{UnknownFid}
use Rattle.p9_base.specs.declared.node_ref.NodeRef.{NodeRef}
use Rattle.p9_base.specs.Mode.{is_dir as is_dir_mode, mode_of}
use Rattle.p9_base.specs.Name.{is_name}
use Rattle.p9_base.specs.NodeRef.{beside}
use Rattle.p9_base.specs.Results.{and_then, need, obtain}
use Rattle.p9_tree.specs.declared.new.New.{New}
use Rattle.p9_tree.specs.New.{new_node}
use Rattle.p9_tree.specs.Node.{Node, is_dir}
use Rattle.p9_tree.specs.Server.{Server, next_max}
use Rattle.p9_tree.specs.Forest.{child_in, next_of, node_of}
use Rattle.p9_table.specs.declared.row.Member.{Member}
use Rattle.p9_space.specs.Rights.{may, to_write}
use Rattle.p9_space.specs.Table.{members_of}
use Rattle.p9_space.specs.Trail.{here, places_max}
use Rattle.p9_space.specs.Walk.{is_alive, is_alive_dir}
use Rattle.p9_wire.specs.Message.{Rcreate}
use Rattle.p9_fids.specs.Fid.{Fid, fid_at}
use Rattle.p9_requests.specs.declared.create.Asked.{Asked}
use Rattle.p9_step.specs.declared.opening.Opening.{Opening}
use Rattle.p9_step.specs.State.{Setting, Session, iounit_of, who_of}
use Rattle.p9_step.specs.Answer.{Answer}
use Rattle.p9_step.specs.Create.{creation, entered, permitting}
use Rattle.p9_step.specs.ForestChange.{AddNode, EditNode, Mark}
use Rattle.p9_step.specs.Opening.{is_plain_read, opening_of}
use Rattle.p9_step.specs.Qid.{qid_of}

-- what the name and the bits mean
abbrev pub asked_of : (name : List ℕ) (perm bits : ℕ) → Result Asked Fault
asked_of name perm bits =
    need (is_name name) BadFileName (
    obtain (opening_of bits) BadOpenMode (λ opening.
    obtain (mode_of perm) BadOpenMode (λ mode.
    need (not (is_dir_mode mode) || is_plain_read opening) IsDirectory (
    Ok (record { name = name; mode = mode; opening = opening })))))

-- the first member that permits creation, where a member is a directory
abbrev pub target_among : List Server → List Member → Result NodeRef Fault
target_among forest members =
    need (list_any (is_alive forest) members) PhaseError (
    need (list_any (is_alive_dir forest) members) NotDirectory (
    obtain (permitting members) CreationForbidden (λ member. Ok member.node)))

-- where a node of the name comes to be, that the fid's user makes in the directory
abbrev pub place_in : Setting → List Server → Fid → (name : List ℕ) → NodeRef → Node
    → Result NodeRef Fault
place_in setting forest v name target dir =
    need (is_dir dir) NotDirectory (
    need (may (who_of setting v.user) dir to_write) PermissionDenied (
    need (is_none (child_in target name forest)) FileExists (
    need (nat_lt (next_of target.server forest) next_max) QidsUsedUp (
    need (nat_lt (length v.trail) places_max) PathTooDeep (
    Ok (beside target (next_of target.server forest)))))))

-- the node is made in this directory, if nothing there refuses it
abbrev pub created_in : Setting → List Server → Session → (clock fid : ℕ) → Fid → Asked → NodeRef
    → Answer
created_in setting forest session clock fid v asked target =
    obtain (node_of target forest) PhaseError (λ dir.
    and_then (place_in setting forest v asked.name target dir) (λ at.
    creation forest session clock fid v target dir asked.name asked.mode asked.opening))

-- the tests in their order
abbrev pub create_steps : Setting → List Server → Session
    → (clock fid : ℕ) (name : List ℕ) (perm bits : ℕ) → Answer
create_steps setting forest session clock fid name perm bits =
    obtain (fid_at fid session.fids) UnknownFid (λ v.
    need (is_none v.opened) FidOpen (
    and_then (asked_of name perm bits) (λ asked.
    and_then (target_among forest (members_of (here v.trail) setting.table)) (
    created_in setting forest session clock fid v asked))))

-- the node is made as planned, and the fid goes on to it along the trail
abbrev pub plan_answer : List Server → Session → (fid : ℕ) → NodeRef → New → List NodeRef → Opening
    → Answer
plan_answer forest session fid target new trail opening =
    let at = beside target (next_of target.server forest) in
    let n = new_node at.number target.number new in
    Ok (record {
      changes = AddNode target.server n ∷ EditNode target (Mark new.muid new.mtime) ∷ [];
      session = entered fid trail opening session;
      reply = Rcreate (qid_of at n) (iounit_of session);
    })
