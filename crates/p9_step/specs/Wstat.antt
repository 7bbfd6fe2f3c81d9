-- Changing what is told of a file: wstat in stat(5).
use Rattle.std.specs.Prelude.{ℕ, ◌-◌, ◌^◌, ◌==◌, ◌&&◌, ◌||◌, Bool, false, not, nat_lt, List, []}
use Rattle.std.specs.Prelude.{◌∷◌, Option, Some, None, Ok, is_none, is_some, option_and_then}
use Rattle.std.specs.Prelude.{if◌then◌else◌}
use Rattle.std.specs.Option.{option_map_or, option_or}
use Rattle.std.specs.Str.{bytes_eq}
use Rattle.p9_base.specs.Group.{is_member, leads}
use Rattle.p9_base.specs.declared.fault.Fault.{Fault}
use Rattle.p9_base.specs.declared.fault.Fault.TheVariants.{BadFileName, FileExists, FileTooLarge}
use Rattle.p9_base.specs.declared.fault.Fault.TheVariants.{FixedField, IsDirectory, IsRoot}
use Rattle.p9_base.specs.declared.fault.Fault.TheVariants.{PermissionDenied, PhaseError, UnknownFid}
use Rattle.p9_base.specs.declared.mode.Mode.{Mode}
use Rattle.p9_base.specs.declared.node_ref.NodeRef.{NodeRef}
use Rattle.p9_base.specs.declared.qid.Qid.{Qid}
use Rattle.p9_base.specs.Mode.{is_dir as is_dir_mode, mode_of}
use Rattle.p9_base.specs.Name.{is_name}
use Rattle.p9_base.specs.NodeRef.{beside}
use Rattle.p9_base.specs.Results.{obtain, need, unless}
use Rattle.p9_tree.specs.Node.{Node, is_dir}
use Rattle.p9_tree.specs.Server.{Server}
use Rattle.p9_tree.specs.Forest.{child_in}
use Rattle.p9_tree.specs.declared.change.Change.{Change}
use Rattle.p9_space.specs.Rights.{Who, may, rules, to_write}
use Rattle.p9_wire.specs.Stat.{StatFields}
use Rattle.p9_wire.specs.Message.{Rwstat}
use Rattle.p9_fids.specs.Fid.{fid_at}
use Rattle.p9_step.specs.State.{Setting, Session, fid_file, fid_ref, who_of}
use Rattle.p9_step.specs.Answer.{Answer}
use Rattle.p9_step.specs.ForestChange.{ForestChange, EditNode, Rewrite}
use Rattle.p9_step.specs.End.{parent_marked}
use Rattle.p9_step.specs.Qid.{stat_of}
use Rattle.p9_step.specs.Rights.{may_write_parent}
use Rattle.p9_tree.specs.Bytes.{file_max}

-- What is touched: all but a field that holds its greatest number, or is empty, or holds what
-- is there.

-- a number
abbrev pub is_number_touched : (greatest there wanted : ℕ) → Bool
is_number_touched greatest there wanted = not (wanted == greatest || wanted == there)

-- a text
abbrev pub is_text_touched : (there wanted : List ℕ) → Bool
is_text_touched there wanted = not (bytes_eq wanted [] || bytes_eq wanted there)

-- what is wanted, where it is touched
abbrev pub touched_number : (greatest there wanted : ℕ) → Option ℕ
touched_number greatest there wanted =
    if is_number_touched greatest there wanted then Some wanted else None

-- the same of a text
abbrev pub touched_text : (there wanted : List ℕ) → Option (List ℕ)
touched_text there wanted = if is_text_touched there wanted then Some wanted else None

-- a part of the qid, each by itself
abbrev pub touches_qid : (there wanted : Qid) → Bool
touches_qid there wanted =
    is_number_touched (2 ^ 8 - 1) there.kind wanted.kind
    || is_number_touched (2 ^ 32 - 1) there.version wanted.version
    || is_number_touched (2 ^ 64 - 1) there.path wanted.path

-- a field that no wstat changes
abbrev pub touches_fixed : (there wanted : StatFields) → Bool
touches_fixed there wanted =
    is_number_touched (2 ^ 16 - 1) there.kind wanted.kind
    || is_number_touched (2 ^ 32 - 1) there.dev wanted.dev
    || touches_qid there.qid wanted.qid
    || is_number_touched (2 ^ 32 - 1) there.atime wanted.atime
    || is_text_touched there.uid wanted.uid
    || is_text_touched there.muid wanted.muid

-- the other fields, where they are touched
pub record Touched : Type 0 where
  pub mode : Option ℕ
  pub name : Option (List ℕ)
  pub length : Option ℕ
  pub mtime : Option ℕ
  pub gid : Option (List ℕ)

-- the fields that are touched of what is wanted
abbrev pub touched_of : (there wanted : StatFields) → Touched
touched_of there wanted = record {
  mode = touched_number (2 ^ 32 - 1) there.mode wanted.mode;
  name = touched_text there.name wanted.name;
  length = touched_number (2 ^ 64 - 1) there.length wanted.length;
  mtime = touched_number (2 ^ 32 - 1) there.mtime wanted.mtime;
  gid = touched_text there.gid wanted.gid;
}

-- a field is touched
abbrev pub is_any : Touched → Bool
is_any t = is_some t.mode || is_some t.name || is_some t.length || is_some t.mtime || is_some t.gid

-- What forbids it, each test over the file as it is; a field is tested where it is touched.

-- a directory's mode for a directory, a file's for a file
abbrev pub is_mode_for : Node → Mode → Bool
is_mode_for n m = if is_dir n then is_dir_mode m else not (is_dir_mode m)

-- a mode means something, and is for the file's kind
abbrev pub mode_fault : Node → ℕ → Option Fault
mode_fault n bits =
    if option_map_or (is_mode_for n) (mode_of bits) false then None else Some FixedField

-- the directory of the file has an entry of the name
abbrev pub has_sibling : List Server → NodeRef → Node → List ℕ → Bool
has_sibling forest at n name =
    option_map_or (λ parent. is_some (child_in (beside at parent) name forest)) n.parent false

-- a name is not for a root, is valid, and new in a directory that the user may write
abbrev pub name_fault : Who → List Server → NodeRef → Node → List ℕ → Option Fault
name_fault who forest at n name =
    if is_none n.parent then Some IsRoot
    else if not (is_name name) then Some BadFileName
    else if not (may_write_parent who forest at n) then Some PermissionDenied
    else if has_sibling forest at n name then Some FileExists
    else None

-- a length is for a file that the user may write, and not above the greatest
abbrev pub length_fault : Who → Node → ℕ → Option Fault
length_fault who n size =
    if is_dir n then Some IsDirectory
    else if not (may who n to_write) then Some PermissionDenied
    else if nat_lt file_max size then Some FileTooLarge
    else None

-- mode and mtime are for who rules the file
abbrev pub ruling_fault : {X : Type 0} → Who → Node → X → Option Fault
ruling_fault who n touched = if rules who n then None else Some PermissionDenied

-- a file is given to a group by its owner, who is a member of it, or by the leader of both groups
abbrev pub may_give : Who → Node → List ℕ → Bool
may_give who n gid =
    bytes_eq n.uid who.user && is_member who.groups gid who.user
    || leads who.groups n.gid who.user && leads who.groups gid who.user

-- a group is one that the user may give the file to
abbrev pub gid_fault : Who → Node → List ℕ → Option Fault
gid_fault who n gid = if may_give who n gid then None else Some PermissionDenied

-- the first that forbids it
abbrev pub wstat_fault : Who → List Server → NodeRef → Node → Touched → Option Fault
wstat_fault who forest at n t =
    option_or (option_and_then (mode_fault n) t.mode) (
    option_or (option_and_then (name_fault who forest at n) t.name) (
    option_or (option_and_then (length_fault who n) t.length) (
    option_or (option_and_then (ruling_fault who n) t.mode) (
    option_or (option_and_then (ruling_fault who n) t.mtime) (
    option_and_then (gid_fault who n) t.gid)))))

-- What is changed, all at once.

-- the change of the node
abbrev pub node_change : List ℕ → ℕ → Touched → Change
node_change user clock t = record {
  name = t.name;
  mode = option_and_then mode_of t.mode;
  gid = t.gid;
  length = t.length;
  mtime = t.mtime;
  user = user;
  clock = clock;
}

-- if anything is touched, the directory that the file is in is marked
abbrev pub rewriting : List ℕ → ℕ → NodeRef → Node → Touched → List ForestChange
rewriting user clock at n t =
    if is_any t
    then EditNode at (Rewrite (node_change user clock t)) ∷ parent_marked user clock at n.parent
    else []

-- the tests in their order
abbrev pub wstat_answer : Setting → List Server → Session → (clock fid : ℕ) → StatFields → Answer
wstat_answer setting forest session clock fid wanted =
    obtain (fid_at fid session.fids) UnknownFid (λ v.
    obtain (fid_file setting.table forest v) PhaseError (λ n.
    let at = fid_ref setting.table v in
    let there = stat_of at n in
    let t = touched_of there wanted in
    need (not (touches_fixed there wanted)) FixedField (
    unless (wstat_fault (who_of setting v.user) forest at n t) (
    Ok (record { changes = rewriting v.user clock at n t; session = session; reply = Rwstat })))))
