-- Memory that is reserved for a request before its answer is looked up. No forest is given to what
-- reserves it.
use Rattle.std.specs.Prelude.{◌≡◌, ◌==◌, ℕ, ◌+◌, ◌≤◌, Bool, true, false, List, Option, None, Some}
use Rattle.std.specs.Prelude.{Ok, Err, is_some, length, min}
use Rattle.p9_base.specs.declared.fault.Fault.TheVariants.{NoAuthentication, OutOfMemory}
use Rattle.p9_base.specs.declared.fault.Fault.TheVariants.{PhaseError, UnknownAttachName, UnknownUser}
use Rattle.p9_base.specs.Results.{and_then, need, obtain, unless}
use Rattle.p9_clean.specs.Path.{cleaned_elements}
use Rattle.p9_tree.specs.Server.{Server}
use Rattle.p9_space.specs.Place.{file_of, root_place}
use Rattle.p9_base.specs.declared.node_ref.NodeRef.{NodeRef}
use Rattle.p9_space.specs.Channel.{Fits}
use Rattle.p9_space.specs.Table.{MountRow}
use Rattle.p9_space.specs.Trail.{here, places_max}
use Rattle.p9_fids.specs.Fid.{Fid, fid_at, nofid, put_fault, with_fid}
use Rattle.p9_step.specs.State.{Session, Setting}
use Rattle.p9_step.specs.Answer.{Answer}
use Rattle.p9_step.specs.Attach.{attach_answer, attach_walk, attached_at, is_attach_name, listed_user}
use Rattle.p9_step.specs.Clunk.{without}
use Rattle.p9_step.specs.Walk.{newfid_fault}
use Rattle.p9_walks.specs.declared.walk.Room.{Room}
use Rattle.p9_walks.specs.declared.walk.Room.TheVariants.{Added, Channels}

-- the answer, by whether memory was reserved for it: what would be granted is 'out of memory'
-- without
abbrev pub with_memory : (is_reserved : Bool) → Answer → Answer
with_memory true answer = answer
with_memory false (Ok outcome) = Err OutOfMemory
with_memory false (Err fault) = Err fault

-- the session before its memory was reserved: without the fid of this number, if it was added
abbrev pub unreserved : {A : Type 0} → Option (Room A) → (fid : ℕ) → Session → Session
unreserved None fid session = session
unreserved (Some Added) fid session = without fid session
unreserved (Some (Channels channels)) fid session = session

-- a fid was added to keep a place: it is the user's, is not open, and has so many places
pub record KeepsPlace (fid : ℕ) (user : List ℕ) (places : ℕ) (before session : Session) : Type 0 where
  pub spare : List NodeRef
  pub added : session.fids
      ≡ with_fid fid (record { user = user; trail = spare; opened = None }) before.fids
  pub room : places ≤ length spare

-- the room is for the fid, and for so many places
abbrev pub HasRoom : {A : Type 0} → List MountRow → (fid newfid : ℕ) (user : List ℕ) (places : ℕ)
    → (before session : Session) → Room A → Type 0
HasRoom table fid newfid user places before session Added =
    ((newfid == fid) ≡ false) × KeepsPlace newfid user places before session
HasRoom table fid newfid user places before session (Channels channels) =
    ((newfid == fid) ≡ true) × (places ≤ length channels.trail) × Fits table channels

-- the most places that a walk comes to from these along so many names
abbrev pub most_places : (names : ℕ) → List NodeRef → ℕ
most_places names trail = min places_max (length trail + names)

-- no test of the session refuses the walk, and there is room for so many places, where the fid's
-- trail is known
pub record IsWalkRoom {A : Type 0} (table : List MountRow) (fid newfid : ℕ)
    (places : List NodeRef → ℕ) (before session : Session) (room : Room A) : Type 0 where
  pub v : Fid
  pub found : fid_at fid before.fids ≡ Some v
  pub closed : v.opened ≡ None
  pub free : newfid_fault fid newfid before.fids ≡ None
  pub has : HasRoom table fid newfid v.user (places v.trail) before session room

module _ (setting : Setting) (session : Session) (fid afid : ℕ) (uname aname : List ℕ) where
  -- the tests of an attach that look at no file, and the rest of its answer
  abbrev pub attach_tested : (List ℕ → Answer) → Answer
  attach_tested rest =
      unless (put_fault fid session.fids) (
      need (afid == nofid) NoAuthentication (
      obtain (listed_user uname setting.users) UnknownUser (λ user.
      need (is_attach_name aname) UnknownAttachName (rest user))))

-- the rest of the answer to an attach by the user, which looks at files
abbrev pub attach_rest : Setting → List Server → Session → (fid : ℕ) (aname user : List ℕ) → Answer
attach_rest setting forest session fid aname user =
    need (is_some (file_of root_place setting.table forest)) PhaseError (
    and_then (attach_walk setting forest user aname) (λ trail.
    attached_at setting forest session fid user (here trail)))

-- the answer to an attach, by whether memory was reserved for it: without, no file is looked at
abbrev pub attach_with_memory : (is_reserved : Bool) → Setting → List Server → Session
    → (fid afid : ℕ) (uname aname : List ℕ) → Answer
attach_with_memory true setting forest session fid afid uname aname =
    attach_answer setting forest session fid afid uname aname
attach_with_memory false setting forest session fid afid uname aname =
    attach_tested setting session fid afid uname aname (λ user. Err OutOfMemory)

-- no test that looks at no file refuses the attach, the names are those of its path, and its fid
-- keeps a place
pub record IsAttachRoom (setting : Setting) (fid afid : ℕ) (uname aname : List ℕ)
    (before session : Session) (names : List (List ℕ)) : Type 0 where
  pub user : List ℕ
  pub free : put_fault fid before.fids ≡ None
  pub plain : (afid == nofid) ≡ true
  pub listed : listed_user uname setting.users ≡ Some user
  pub named : is_attach_name aname ≡ true
  pub cleaned : names ≡ cleaned_elements aname
  pub keeps : KeepsPlace fid user 1 before session

-- the session before the place of a new fid was reserved
abbrev pub unkept : (is_reserved : Bool) → (fid : ℕ) → Session → Session
unkept true fid session = without fid session
unkept false fid session = session

-- the attach name leads the user to the place
pub record Leads (setting : Setting) (forest : List Server) (user aname : List ℕ) (place : NodeRef)
    : Type 0 where
  pub trail : List NodeRef
  pub walked : attach_walk setting forest user aname ≡ Ok trail
  pub last : place ≡ here trail
