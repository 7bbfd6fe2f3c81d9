-- A file that was removed is gone.
use Rattle.std.proofs.Common.{◌≡◌, ℕ, zero, suc, Bool, true, false, List, [], ◌∷◌, Option, Some, None, Ok, Err}
use Rattle.std.proofs.Common.{Result, ◌⊎◌, inl, inr, refl, ap, sym, ◌∙◌, subst, arith, is_some, set}
use Rattle.std.proofs.lemmas.Bool.Decides.{nat_tests}
use Rattle.std.proofs.lemmas.List.Elements.{recursion_from_All}
use Rattle.std.specs.List.{AllByRecursion, list_any}
use Rattle.p9_base.specs.declared.fault.Fault.{Fault}
use Rattle.p9_base.specs.declared.fault.Fault.TheVariants.{PhaseError}
use Rattle.p9_base.specs.declared.node_ref.NodeRef.{NodeRef}
use Rattle.p9_base.specs.Fault.{text_of}
use Rattle.p9_base.specs.NodeRef.{beside}
use Rattle.p9_base.specs.Results.{obtain, need, unless}
use Rattle.p9_tree.specs.Forest.{IsForest, forest_changed_at, node_of, server_at}
use Rattle.p9_tree.specs.Node.{Node, has_number, marked}
use Rattle.p9_tree.specs.Server.{Server, WellFormed, node_at, with_changed, with_dropped}
use Rattle.p9_tree.proofs.Changed.{KeepsPlace, keeps-marked, node_at-changed_at}
use Rattle.p9_tree.proofs.Dropped.{node_at-dropped_at}
use Rattle.p9_table.specs.declared.row.Member.{Member}
use Rattle.p9_table.specs.declared.trail.Step.{Step}
use Rattle.p9_space.specs.Place.{file_of}
use Rattle.p9_space.specs.Rights.{Who}
use Rattle.p9_space.specs.Table.{MountRow, members_of}
use Rattle.p9_space.specs.Trail.{here, stepped}
use Rattle.p9_space.specs.Walk.{arrived, is_alive, step_among, step_of, walk}
use Rattle.p9_wire.specs.Message.{Rclunk, Rerror, Rremove, TMessage, Tattach, Tauth, Tclunk, Tcreate, Tflush}
use Rattle.p9_wire.specs.Message.{Topen, Tread, Tremove, Tstat, Tversion, Twalk, Twrite, Twstat}
use Rattle.p9_fids.specs.Fid.{Fid}
use Rattle.p9_step.specs.Answer.{Answer, Outcome, outcome_of}
use Rattle.p9_step.specs.ForestChange.{DropNode, all_applied, applied, edited}
use Rattle.p9_step.specs.Clunk.{without}
use Rattle.p9_step.specs.End.{parent_marked, removes_on_close}
use Rattle.p9_step.specs.Remove.{removal}
use Rattle.p9_step.specs.State.{Session, State, fid_file, fid_ref}
use Rattle.p9_step.specs.Step.{message_answer}
use Rattle.p9_step.proofs.Done.{OnDone}
use Rattle.p9_step.proofs.Evolves.{server_well}
use Rattle.p9_step.proofs.Members.{found-member}
use Rattle.p9_step.proofs.Found.{server_at-tree_changed_at}
use Rattle.p9_step.proofs.Passed.{RemovalDone, removal-done}
use Rattle.p9_manual_laws.specs.Asked.{Asked, Has, after_outcome, asked}
use Rattle.p9_manual_laws.specs.Removes.{AsksFile, EndsFid, GoesOn, IsGone, RemovedIsGone}
use Rattle.p9_manual_laws.proofs.Sessions.{changed-same}

-- a server is replaced, or was never there
server_set : (k : ℕ) (forest : List Server) (new : Server)
    → (server_at k (set forest k new) ≡ new)
    ⊎ (server_at k (set forest k new) ≡ server_at k forest)
server_set k [] new = inr refl
server_set zero (s ∷ ss) new = inl refl
server_set (suc k) (s ∷ ss) new = server_set k ss new

-- a node that isn't there is not there after a change beside it
absent_changed : (at : NodeRef) (number : ℕ) (f : Node → Node) (forest : List Server)
    → KeepsPlace f → node_of at forest ≡ None
    → node_of at (forest_changed_at (beside at number) f forest) ≡ None
absent_changed at number f forest keeps none =
    elim (server_set at.server forest (with_changed number f (server_at at.server forest))) [
      | inl new ↦ (
          let e =
          node_at-changed_at number f keeps.in_dir at.number (server_at at.server forest).nodes in
          rw new (grind (arith, nat_tests, e, none)))
      | inr same ↦ rw same none
    ]

absent_dropped : (at : NodeRef) (forest : List Server) (n : Node) → IsForest forest
    → node_of at forest ≡ Some n → node_of at (applied (DropNode at) forest) ≡ None
unfolding applied
absent_dropped at forest n sound there =
    let s : Server = server_at at.server forest in
    let member = (found-member (has_number at.number) s.nodes n there).0 in
    let well : WellFormed s = server_well forest at.server n sound member in
    let dropped = node_at-dropped_at at.number at.number s.nodes well.rising in
    let lost : node_at at.number (with_dropped at.number s).nodes ≡ None =
    grind (arith, nat_tests, dropped) in
    ap (λ (t : Server). node_at at.number t.nodes)
    (server_at-tree_changed_at at (with_dropped at.number) forest n there)
    ∙ lost

absent_marked : (at : NodeRef) (user : List ℕ) (now : ℕ) (parent : Option ℕ) (forest : List Server)
    → node_of at forest ≡ None → node_of at (all_applied (parent_marked user now at parent) forest)
    ≡ None
unfolding applied edited
absent_marked at user now None forest none = none
absent_marked at user now (Some number) forest none =
    absent_changed at number (marked user now) forest (keeps-marked user now) none

-- a refusal changes nothing
refused : (state : State) (name now : ℕ) (session : Session) (fid : ℕ) (v : Fid) (m : TMessage)
    (fault : Fault) → Has state name session fid v
    → message_answer state.setting state.forest state.sessions session now m ≡ Err fault
    → asked state name now m ≡ record { state = state; reply = Some (Rerror (text_of fault)) }
refused state name now session fid v m fault has is =
    rw (has.session_is, is)
    (ap (λ rows. record {
      state = record state { sessions = rows };
      reply = Some (Rerror (text_of fault));
    }) (changed-same state name session has.session_is))

-- where the file of a fid doesn't exist, a message that asks for it is refused
no_file : (state : State) (name now : ℕ) (session : Session) (fid : ℕ) (v : Fid) (m : TMessage)
    → Has state name session fid v → fid_file state.setting.table state.forest v ≡ None
    → AsksFile fid v m
    → message_answer state.setting state.forest state.sessions session now m ≡ Err PhaseError
unfolding obtain need
no_file state name now session fid v (Topen other bits) has none asks =
    rw (asks.0, has.fid_is, asks.1, none) refl
no_file state name now session fid v (Tread other offset count) has none asks =
    rw (asks.0, has.fid_is, asks.1.1, none) refl
no_file state name now session fid v (Twrite other offset bytes) has none asks =
    rw (asks.0, has.fid_is, asks.1, none) refl
no_file state name now session fid v (Tstat other) has none asks =
    rw (asks, has.fid_is, none) refl
no_file state name now session fid v (Twstat other stat) has none asks =
    rw (asks, has.fid_is, none) refl
no_file state name now session fid v (Tversion msize version) has none asks = absurd asks
no_file state name now session fid v (Tauth afid uname aname) has none asks = absurd asks
no_file state name now session fid v (Tattach new afid uname aname) has none asks = absurd asks
no_file state name now session fid v (Tflush oldtag) has none asks = absurd asks
no_file state name now session fid v (Twalk from newfid names) has none asks = absurd asks
no_file state name now session fid v (Tcreate from new perm mode) has none asks = absurd asks
no_file state name now session fid v (Tclunk from) has none asks = absurd asks
no_file state name now session fid v (Tremove from) has none asks = absurd asks

-- a walk arrives only where the file exists
module _ (forest : List Server) (table : List MountRow) (who : Option Who) where
  pub step_arrives : (trail : List NodeRef) (name : List ℕ) (step : Step)
      → step_of forest table who trail name ≡ Ok step
      → is_some (file_of (here (stepped trail step)) table forest) ≡ true
  step_arrives trail name step is =
      go (step_among forest who trail name (members_of (here trail) table)) refl
    where
      by_file : (taken : Step) (b : Bool)
          → is_some (file_of (here (stepped trail taken)) table forest) ≡ b
          → arrived forest table trail taken ≡ Ok step
          → is_some (file_of (here (stepped trail step)) table forest) ≡ true
      by_file taken true e ok =
          let same : ◌≡◌ {A = Result Step Fault} (Ok taken) (Ok step) = rw e at ok in
          let one : taken ≡ step = cc in
          subst (λ s. is_some (file_of (here (stepped trail s)) table forest) ≡ true) one e
      by_file taken false e ok = let no = rw e at ok in absurd (cc)

      go : (r : Result Step Fault)
          → step_among forest who trail name (members_of (here trail) table) ≡ r
          → is_some (file_of (here (stepped trail step)) table forest) ≡ true
      go (Err fault) e =
          let no : ◌≡◌ {A = Result Step Fault} (Err fault) (Ok step) = rw e at is in absurd (cc)
      go (Ok taken) e =
          by_file taken (is_some (file_of (here (stepped trail taken)) table forest)) refl
          (rw e at is)

  -- so does the rest of a walk
  still_there : (names : List (List ℕ)) (trail reached : List NodeRef)
      → is_some (file_of (here trail) table forest) ≡ true
      → walk forest table who trail names ≡ Ok reached
      → is_some (file_of (here reached) table forest) ≡ true
  still_there [] trail reached alive is =
      let same : trail ≡ reached = cc in
      subst (λ t. is_some (file_of (here t) table forest) ≡ true) same alive
  still_there (name ∷ names) trail reached alive is =
      go (step_of forest table who trail name) refl (λ next. still_there names next reached)
    where
      go : (r : Result Step Fault) → step_of forest table who trail name ≡ r
          → ((next : List NodeRef) → is_some (file_of (here next) table forest) ≡ true
          → walk forest table who next names ≡ Ok reached
          → is_some (file_of (here reached) table forest) ≡ true)
          → is_some (file_of (here reached) table forest) ≡ true
      go (Err fault) e later =
          let no : ◌≡◌ {A = Result (List NodeRef) Fault} (Err fault) (Ok reached) = rw e at is in
          absurd (cc)
      go (Ok step) e later =
          later (stepped trail step) (step_arrives trail name step e) (rw e at is)

  walk_arrives : (trail reached : List NodeRef) (name : List ℕ) (names : List (List ℕ))
      → walk forest table who trail (name ∷ names) ≡ Ok reached
      → is_some (file_of (here reached) table forest) ≡ true
  walk_arrives trail reached name names is = go (step_of forest table who trail name) refl
    where
      go : (r : Result Step Fault) → step_of forest table who trail name ≡ r
          → is_some (file_of (here reached) table forest) ≡ true
      go (Err fault) e =
          let no : ◌≡◌ {A = Result (List NodeRef) Fault} (Err fault) (Ok reached) = rw e at is in
          absurd (cc)
      go (Ok step) e =
          still_there names (stepped trail step) reached (step_arrives trail name step e)
          (rw e at is)

-- where nothing that is mounted exists, no member is alive
none_alive : (forest : List Server) (at : NodeRef) (ms : List Member) → node_of at forest ≡ None
    → AllByRecursion (λ m. (m.node ≡ at) ⊎ (node_of m.node forest ≡ None)) ms
    → list_any (is_alive forest) ms ≡ false
none_alive forest at [] none each = refl
none_alive forest at (m ∷ ms) none each =
    let dead : node_of m.node forest ≡ None = elim each.0 [
      | inl same ↦ ap (λ r. node_of r forest) same ∙ none
      | inr absent ↦ absent
    ] in
    rw dead (none_alive forest at ms none each.1)

-- so a walk by a name and a create are refused
nothing_mounted : (state : State) (name now : ℕ) (session : Session) (fid : ℕ) (v : Fid)
    (m : TMessage) → Has state name session fid v
    → list_any (is_alive state.forest) (members_of (here v.trail) state.setting.table) ≡ false
    → GoesOn session fid v m
    → message_answer state.setting state.forest state.sessions session now m ≡ Err PhaseError
unfolding obtain need unless
nothing_mounted state name now session fid v (Twalk from newfid (first ∷ names)) has none goes =
    rw (goes.0, has.fid_is, goes.1, goes.2, none) refl
nothing_mounted state name now session fid v (Tcreate from new perm mode) has none goes =
    let its = goes.2 in
    rw (goes.0, has.fid_is, goes.1, its.named, its.opens, its.means, its.plain, none) refl
nothing_mounted state name now session fid v (Twalk from newfid []) has none goes = absurd goes
nothing_mounted state name now session fid v (Tversion msize version) has none goes = absurd goes
nothing_mounted state name now session fid v (Tauth afid uname aname) has none goes = absurd goes
nothing_mounted state name now session fid v (Tattach new afid uname aname) has none goes =
    absurd goes
nothing_mounted state name now session fid v (Tflush oldtag) has none goes = absurd goes
nothing_mounted state name now session fid v (Topen from mode) has none goes = absurd goes
nothing_mounted state name now session fid v (Tread from offset count) has none goes = absurd goes
nothing_mounted state name now session fid v (Twrite from offset bytes) has none goes = absurd goes
nothing_mounted state name now session fid v (Tclunk from) has none goes = absurd goes
nothing_mounted state name now session fid v (Tremove from) has none goes = absurd goes
nothing_mounted state name now session fid v (Tstat from) has none goes = absurd goes
nothing_mounted state name now session fid v (Twstat from stat) has none goes = absurd goes

-- a remove of what isn't there is refused, and ends the fid
pub remove_ends : (state : State) (name now : ℕ) (session : Session) (fid : ℕ) (v : Fid)
    → Has state name session fid v → fid_file state.setting.table state.forest v ≡ None
    → EndsFid state name now session fid (Tremove fid) (Rerror (text_of PhaseError))
unfolding obtain need
remove_ends state name now session fid v has none = rw (has.session_is, has.fid_is, none) refl

-- a clunk ends the fid, also where it was to remove the file
clunk_ends : (state : State) (name now : ℕ) (session : Session) (fid : ℕ) (v : Fid)
    → Has state name session fid v → fid_file state.setting.table state.forest v ≡ None
    → EndsFid state name now session fid (Tclunk fid) Rclunk
unfolding obtain
clunk_ends state name now session fid v has none = go (removes_on_close v) refl
  where
    go : (b : Bool) → removes_on_close v ≡ b
        → EndsFid state name now session fid (Tclunk fid) Rclunk
    go true e = rw (has.session_is, has.fid_is, e, none) refl
    go false e = rw (has.session_is, has.fid_is, e) refl

-- what isn't there is gone
pub gone : (state : State) (at : NodeRef) → node_of at state.forest ≡ None → IsGone state at
gone state at none = record {
  absent = none;
  no_walk = λ who trail reached name names is same.
      let there : is_some (file_of (here reached) state.setting.table state.forest) ≡ true =
      walk_arrives state.forest state.setting.table who trail reached name names is in
      let no : false ≡ true = rw (same, none) at there in cc;
  stale = λ name session fid now v m has same asks.
      refused state name now session fid v m PhaseError has
      (no_file state name now session fid v m has (lost v same) asks);
  removed = λ name session fid now v has same.
      remove_ends state name now session fid v has (lost v same);
  clunked = λ name session fid now v has same.
      clunk_ends state name now session fid v has (lost v same);
  no_way = λ name session fid now v m has alone goes.
      refused state name now session fid v m PhaseError has
      (nothing_mounted state name now session fid v m has
      (none_alive state.forest at (members_of (here v.trail) state.setting.table) none
      (recursion_from_All (λ m. (m.node ≡ at) ⊎ (node_of m.node state.forest ≡ None))
      (members_of (here v.trail) state.setting.table) alone))
      goes);
}
  where
    lost : (v : Fid) → fid_ref state.setting.table v ≡ at
        → fid_file state.setting.table state.forest v ≡ None
    lost v same = ap (λ r. node_of r state.forest) same ∙ none

pub removed_is_gone : RemovedIsGone
unfolding obtain OnDone
removed_is_gone state name session fid now v sound has =
    let left : Session = without fid session in
    let o : Outcome = outcome_of left (removal state.setting state.forest left now v) in
    let is : asked state name now (Tremove fid) ≡ after_outcome state name o =
    rw (has.session_is, has.fid_is) refl in
    subst (λ (after : Asked). after.reply ≡ Some Rremove
    → IsGone after.state (fid_ref state.setting.table v)) (sym is) (λ accepted.
    let told : o.reply ≡ Rremove = cc in
    gone (after_outcome state name o).state (fid_ref state.setting.table v)
    (go left (removal state.setting state.forest left now v)
    (removal-done state.setting state.forest left now v) told))
  where
    go : (left : Session) (a : Answer)
        → OnDone (RemovalDone state.setting state.forest left now v) a
        → (outcome_of left a).reply ≡ Rremove
        → node_of (fid_ref state.setting.table v)
        (all_applied (outcome_of left a).changes state.forest) ≡ None
    go left (Err fault) done told = absurd (cc)
    go left (Ok p) done told =
        let at = fid_ref state.setting.table v in
        ap (λ (q : Outcome). node_of at (all_applied q.changes state.forest)) done.is
        ∙ absent_marked at v.user now done.n.parent (applied (DropNode at) state.forest)
        (absent_dropped at state.forest done.n sound.forest done.there)
