-- What remove(5) says of a file.
use Rattle.std.specs.Prelude.{◌≡◌, ℕ, ◌<◌, ◌^◌, ◌⊎◌, ◌||◌, true, not, List, ◌∷◌, Option, Some}
use Rattle.std.specs.Prelude.{None, Ok, All}
use Rattle.std.specs.List.{AllByRecursion}
use Rattle.p9_base.specs.declared.fault.Fault.TheVariants.{PhaseError}
use Rattle.p9_base.specs.declared.mode.Mode.{Mode}
use Rattle.p9_base.specs.declared.node_ref.NodeRef.{NodeRef}
use Rattle.p9_base.specs.Fault.{text_of}
use Rattle.p9_base.specs.Mode.{is_dir, mode_of}
use Rattle.p9_base.specs.Name.{is_name}
use Rattle.p9_tree.specs.Forest.{node_of}
use Rattle.p9_space.specs.Place.{file_ref}
use Rattle.p9_space.specs.Rights.{Who}
use Rattle.p9_space.specs.Table.{members_of}
use Rattle.p9_space.specs.Trail.{here}
use Rattle.p9_space.specs.Walk.{walk}
use Rattle.p9_wire.specs.Message.{RMessage, Rclunk, Rerror, Rremove, TMessage, Tclunk, Tcreate, Topen}
use Rattle.p9_wire.specs.Message.{Tread, Tremove, Tstat, Twalk, Twrite, Twstat}
use Rattle.p9_fids.specs.declared.opened.Opened.{Opened}
use Rattle.p9_fids.specs.Fid.{Fid}
use Rattle.p9_step.specs.declared.opening.Opening.{Opening}
use Rattle.p9_step.specs.Event.{IsEvent}
use Rattle.p9_step.specs.Laws.{without_fid_of}
use Rattle.p9_step.specs.Opening.{is_plain_read, opening_of}
use Rattle.p9_step.specs.Read.{readable}
use Rattle.p9_step.specs.Sound.{IsState}
use Rattle.p9_step.specs.State.{Session, State, fid_ref}
use Rattle.p9_step.specs.Step.{Marked, run}
use Rattle.p9_step.specs.Walk.{newfid_fault}
use Rattle.p9_step.specs.Write.{is_writable}
use Rattle.p9_manual_laws.specs.Asked.{Has, asked}

-- the message asks for the file of the fid, which is open for it where it has to be
abbrev pub AsksFile : (fid : ℕ) → Fid → TMessage → Type 0
AsksFile fid v (Topen asked mode) = (asked ≡ fid) × (v.opened ≡ None)
AsksFile fid v (Tread asked offset count) =
    (asked ≡ fid) × ((opened : Opened) × (readable v.opened ≡ Some opened))
AsksFile fid v (Twrite asked offset bytes) = (asked ≡ fid) × (is_writable v ≡ true)
AsksFile fid v (Tstat asked) = asked ≡ fid
AsksFile fid v (Twstat asked stat) = asked ≡ fid
AsksFile fid v other = ⊥

-- a create that its directory alone can refuse: its name is one, its modes are, and a directory is
-- opened for reading alone
pub record IsCreation (name : List ℕ) (perm mode : ℕ) : Type 0 where
  pub opening : Opening
  pub asked : Mode
  pub named : is_name name ≡ true
  pub opens : opening_of mode ≡ Some opening
  pub means : mode_of perm ≡ Some asked
  pub plain : (not (is_dir asked) || is_plain_read opening) ≡ true

-- the message goes on from the place of the fid, by a name at least, or makes a file there
abbrev pub GoesOn : Session → (fid : ℕ) → Fid → TMessage → Type 0
GoesOn session fid v (Twalk asked newfid (name ∷ names)) =
    (asked ≡ fid) × (v.opened ≡ None) × (newfid_fault fid newfid session.fids ≡ None)
GoesOn session fid v (Tcreate asked name perm mode) =
    (asked ≡ fid) × (v.opened ≡ None) × IsCreation name perm mode
GoesOn session fid v other = ⊥

-- each member of the fid's place is this node, or doesn't exist
abbrev pub NoneElse : State → NodeRef → Fid → Type 0
NoneElse state at v =
    All (λ m. (m.node ≡ at) ⊎ (node_of m.node state.forest ≡ None))
    (members_of (here v.trail) state.setting.table)

-- a message is answered 'phase error', and changes nothing
abbrev pub IsPhaseError : State → (name clock : ℕ) → TMessage → Type 0
IsPhaseError state name clock m =
    asked state name clock m ≡ record { state = state; reply = Some (Rerror (text_of PhaseError)) }

-- a message ends the fid, with this reply, and changes nothing else
abbrev pub EndsFid : State → (name clock : ℕ) → Session → (fid : ℕ) → TMessage → RMessage → Type 0
EndsFid state name clock session fid m reply =
    asked state name clock m
    ≡ record { state = without_fid_of name session fid state; reply = Some reply }

-- Of a node that was removed: it doesn't exist, and no walk arrives at it.
-- Where a fid has it as its file, each message that asks for that is answered 'phase error'; so is
-- a remove, which ends the fid all the same; a clunk ends the fid, and does nothing else.
-- Where nothing else is mounted, a walk by a name and a create are answered 'phase error' too.
pub record IsGone (state : State) (at : NodeRef) : Type 0 where
  pub absent : node_of at state.forest ≡ None
  pub no_walk : (who : Option Who) (trail reached : List NodeRef) (file_name : List ℕ)
      (names : List (List ℕ))
      → walk state.forest state.setting.table who trail (file_name ∷ names) ≡ Ok reached
      → file_ref (here reached) state.setting.table ≡ at → ⊥
  pub stale : (name : ℕ) (session : Session) (fid clock : ℕ) (v : Fid) (m : TMessage)
      → Has state name session fid v → fid_ref state.setting.table v ≡ at → AsksFile fid v m
      → IsPhaseError state name clock m
  pub removed : (name : ℕ) (session : Session) (fid clock : ℕ) (v : Fid)
      → Has state name session fid v → fid_ref state.setting.table v ≡ at
      → EndsFid state name clock session fid (Tremove fid) (Rerror (text_of PhaseError))
  pub clunked : (name : ℕ) (session : Session) (fid clock : ℕ) (v : Fid)
      → Has state name session fid v → fid_ref state.setting.table v ≡ at
      → EndsFid state name clock session fid (Tclunk fid) Rclunk
  pub no_way : (name : ℕ) (session : Session) (fid clock : ℕ) (v : Fid) (m : TMessage)
      → Has state name session fid v → NoneElse state at v → GoesOn session fid v m
      → IsPhaseError state name clock m

-- a file that was removed is gone
abbrev pub RemovedIsGone : Type 0
RemovedIsGone =
    (state : State) (name : ℕ) (session : Session) (fid clock : ℕ) (v : Fid) → IsState state
    → Has state name session fid v
    → let after = asked state name clock (Tremove fid) in
    after.reply ≡ Some Rremove → IsGone after.state (fid_ref state.setting.table v)

-- and stays so, whatever happens later
abbrev pub RemovedStaysGone : Type 0
RemovedStaysGone =
    (state : State) (name : ℕ) (session : Session) (fid clock : ℕ) (v : Fid) (events : List Marked)
    → IsState state → Has state name session fid v → clock < 2 ^ 32
    → AllByRecursion (λ event. IsEvent event.0) events
    → let after = asked state name clock (Tremove fid) in
    after.reply ≡ Some Rremove
    → IsGone (run after.state events).state (fid_ref state.setting.table v)
