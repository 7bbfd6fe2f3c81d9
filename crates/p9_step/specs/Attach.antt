-- An attach, which makes a fid for a directory of the name space: attach(5).
use Rattle.std.specs.Prelude.{ℕ, ◌==◌, ◌||◌, Bool, List, [], ◌∷◌, Option, None, Some, Result, Ok}
use Rattle.std.specs.Prelude.{find, is_some}
use Rattle.std.specs.Str.{bytes_eq}
use Rattle.p9_base.specs.declared.fault.Fault.{Fault}
use Rattle.p9_base.specs.declared.fault.Fault.TheVariants.{NoAuthentication, NotDirectory}
use Rattle.p9_base.specs.declared.fault.Fault.TheVariants.{PhaseError, UnknownAttachName}
use Rattle.p9_base.specs.declared.fault.Fault.TheVariants.{UnknownUser}
use Rattle.p9_base.specs.declared.node_ref.NodeRef.{NodeRef}
use Rattle.p9_base.specs.Results.{and_then, obtain, need, unless}
use Rattle.p9_clean.specs.Path.{cleaned_elements, is_rooted}
use Rattle.p9_tree.specs.Node.{is_dir}
use Rattle.p9_tree.specs.Server.{Server}
use Rattle.p9_space.specs.Place.{file_of, file_ref, root_place}
use Rattle.p9_space.specs.Trail.{here}
use Rattle.p9_space.specs.Walk.{walk}
use Rattle.p9_wire.specs.Message.{Rattach}
use Rattle.p9_fids.specs.Fid.{put_fault, with_fid, nofid}
use Rattle.p9_step.specs.State.{Setting, Session, who_of}
use Rattle.p9_step.specs.Answer.{Answer}
use Rattle.p9_step.specs.Qid.{qid_of}

-- the listed user of the name
abbrev pub listed_user : List ℕ → List (List ℕ) → Option (List ℕ)
listed_user uname users = find (λ user. bytes_eq user uname) users

-- an attach name is empty, or a path from the root of the name space
abbrev pub is_attach_name : List ℕ → Bool
is_attach_name aname = bytes_eq aname [] || is_rooted aname

-- the trail to the place that it names, by a user's walk along the cleaned path
abbrev pub attach_walk : Setting → List Server → (user aname : List ℕ)
    → Result (List NodeRef) Fault
attach_walk setting forest user aname =
    walk forest setting.table (Some (who_of setting user)) (root_place ∷ [])
    (cleaned_elements aname)

-- the session with the new fid, which is not open; its trail begins at the place
abbrev pub attached : ℕ → List ℕ → NodeRef → Session → Session
attached fid user place session = record session {
  fids = with_fid fid (record { user = user; trail = place ∷ []; opened = None }) session.fids;
}

-- the directory at the place becomes the root of what the fid can walk
abbrev pub attached_at : Setting → List Server → Session → ℕ → List ℕ → NodeRef → Answer
attached_at setting forest session fid user place =
    obtain (file_of place setting.table forest) PhaseError (λ file.
    need (is_dir file) NotDirectory (
    Ok (record {
      changes = [];
      session = attached fid user place session;
      reply = Rattach (qid_of (file_ref place setting.table) file);
    })))

-- the tests in their order, and the fid
abbrev pub attach_answer : Setting → List Server → Session → (fid afid : ℕ) (uname aname : List ℕ)
    → Answer
attach_answer setting forest session fid afid uname aname =
    unless (put_fault fid session.fids) (
    need (afid == nofid) NoAuthentication (
    obtain (listed_user uname setting.users) UnknownUser (λ user.
    need (is_attach_name aname) UnknownAttachName (
    need (is_some (file_of root_place setting.table forest)) PhaseError (
    and_then (attach_walk setting forest user aname) (λ trail.
    attached_at setting forest session fid user (here trail)))))))
