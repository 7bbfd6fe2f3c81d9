-- The answer to a create.
use Rattle.std.proofs.Common.{◌≡◌, ℕ, ◌<◌, Bool, true, false, List, [], ◌∷◌, ◌++◌, Option, Some}
use Rattle.std.proofs.Common.{None, Result, Ok, Err, length, refl, sym, ap, subst, ◌∙◌, arith}
use Rattle.std.specs.Prelude.{◌||◌, not, nat_lt, is_none, is_some}
use Rattle.std.specs.List.{list_any}
use Rattle.std.proofs.lemmas.Bool.Decides.{nat_tests}
use Rattle.p9_base.specs.declared.fault.Fault.{Fault}
use Rattle.p9_base.specs.declared.fault.Fault.TheVariants.{BadFileName, BadOpenMode}
use Rattle.p9_base.specs.declared.fault.Fault.TheVariants.{CreationForbidden, FidOpen, FileExists}
use Rattle.p9_base.specs.declared.fault.Fault.TheVariants.{IsDirectory, NotDirectory, PathTooDeep}
use Rattle.p9_base.specs.declared.fault.Fault.TheVariants.{PermissionDenied, PhaseError, QidsUsedUp}
use Rattle.p9_base.specs.declared.fault.Fault.TheVariants.{UnknownFid}
use Rattle.p9_base.specs.declared.node_ref.NodeRef.{NodeRef}
use Rattle.p9_base.specs.declared.qid.Qid.{Qid}
use Rattle.p9_base.specs.Mode.{is_dir as is_dir_mode, mode_of}
use Rattle.p9_base.specs.Name.{is_name}
use Rattle.p9_base.specs.NodeRef.{beside}
use Rattle.p9_base.specs.Results.{and_then, need, obtain}
use Rattle.p9_tree.specs.declared.new.New.{New}
use Rattle.p9_tree.specs.New.{new_node}
use Rattle.p9_tree.specs.Node.{Node, is_dir, marked}
use Rattle.p9_tree.specs.Server.{CanAdd, Server, added, next_max}
use Rattle.p9_tree.specs.Forest.{child_in, forest_changed_at, next_of, node_of, server_at}
use Rattle.p9_tree.specs.Forest.{tree_changed_at}
use Rattle.p9_tree.proofs.Lookups.{number-node_at}
use Rattle.p9_space.specs.Rights.{may, to_write}
use Rattle.p9_space.specs.Table.{members_of}
use Rattle.p9_space.specs.Trail.{here, places_max}
use Rattle.p9_space.specs.Walk.{is_alive, is_alive_dir}
use Rattle.p9_wire.specs.Message.{Rcreate}
use Rattle.p9_fids.specs.Fid.{Fid, fid_at}
use Rattle.p9_step.specs.declared.opening.Opening.{Opening}
use Rattle.p9_step.specs.State.{Setting, Session, iounit_of, who_of}
use Rattle.p9_step.specs.Answer.{Answer}
use Rattle.p9_step.specs.Create.{create_answer, created, creation, entered, permitting}
use Rattle.p9_step.specs.ForestChange.{AddNode, EditNode, Mark, applied, edited}
use Rattle.p9_step.specs.Memory.{is_done}
use Rattle.p9_step.specs.Opening.{is_plain_read, opening_of}
use Rattle.p9_step.specs.Qid.{qid_of}
use Rattle.p9_requests.specs.declared.create.Asked.{Asked}
use Rattle.p9_walks.specs.Answers.{Answers, IsRefusal, replied}
use Rattle.p9_requests.specs.Answers.{create_reply}
use Rattle.p9_requests.specs.Create.{asked_of, create_steps, created_in, place_in, plan_answer}
use Rattle.p9_requests.specs.Create.{target_among}

-- a test passes on what comes after it
need-then : {X Y E : Type 0} (test : Bool) (error : E) (rest : Result X E) (k : X → Result Y E)
    → and_then (need test error rest) k ≡ need test error (and_then rest k)
unfolding need
need-then true error rest k = refl
need-then false error rest k = refl

-- and so does a value that is looked up
obtain-then : {X Y Z E : Type 0} (o : Option X) (error : E) (rest : X → Result Y E)
    (k : Y → Result Z E)
    → and_then (obtain o error rest) k ≡ obtain o error (λ x. and_then (rest x) k)
unfolding obtain
obtain-then None error rest k = refl
obtain-then (Some x) error rest k = refl

-- what goes on in the same way
obtain-same : {X Y E : Type 0} (o : Option X) (error : E) (f g : X → Result Y E)
    → ((x : X) → f x ≡ g x) → obtain o error f ≡ obtain o error g
unfolding obtain
obtain-same None error f g same = refl
obtain-same (Some x) error f g same = same x

-- what passes five tests
passed : {X E : Type 0} (f1 f2 f3 f4 f5 : E) (a b c d e : Bool) (x y : X)
    → need a f1 (need b f2 (need c f3 (need d f4 (need e f5 (Ok x))))) ≡ Ok y
    → (a ≡ true) × (c ≡ true) × (d ≡ true) × (e ≡ true) × (x ≡ y)
unfolding need
passed f1 f2 f3 f4 f5 false b c d e x y h = let no : Err f1 ≡ Ok y = h in absurd (cc)
passed f1 f2 f3 f4 f5 true false c d e x y h = let no : Err f2 ≡ Ok y = h in absurd (cc)
passed f1 f2 f3 f4 f5 true true false d e x y h = let no : Err f3 ≡ Ok y = h in absurd (cc)
passed f1 f2 f3 f4 f5 true true true false e x y h = let no : Err f4 ≡ Ok y = h in absurd (cc)
passed f1 f2 f3 f4 f5 true true true true false x y h = let no : Err f5 ≡ Ok y = h in absurd (cc)
passed f1 f2 f3 f4 f5 true true true true true x y h =
    let same : Ok x ≡ Ok y = h in (refl, refl, refl, refl, cc)

is_none-of : {X : Type 0} (o : Option X) → is_none o ≡ true → o ≡ None
is_none-of None e = refl
is_none-of (Some x) e = let no : false ≡ true = e in absurd (cc)

-- what is there
pub some-of : {X : Type 0} (o : Option X) → is_some o ≡ true → is_none o ≡ false
some-of (Some x) e = refl
some-of None e = let no : false ≡ true = e in absurd (cc)

-- what is not there
pub none-of : {X : Type 0} (o : Option X) → is_some o ≡ false → is_none o ≡ true
none-of None e = refl
none-of (Some x) e = let no : true ≡ false = e in absurd (cc)

below : (m n : ℕ) → nat_lt m n ≡ true → m < n
below m n e = grind (arith, nat_tests)

-- what a directory is where a node may be made
record Permits (forest : List Server) (v : Fid) (name : List ℕ) (target : NodeRef) (dir : Node)
    (at : NodeRef) : Type 0 where
  is_directory : is_dir dir ≡ true
  free : child_in target name forest ≡ None
  room : next_of target.server forest < next_max
  short : length v.trail < places_max
  place : beside target (next_of target.server forest) ≡ at

module _ (setting : Setting) (forest : List Server) (v : Fid) (name : List ℕ) (target : NodeRef)
    (dir : Node) (at : NodeRef) where
  permits : place_in setting forest v name target dir ≡ Ok at → Permits forest v name target dir at
  permits placed =
      let all =
      passed NotDirectory PermissionDenied FileExists QidsUsedUp PathTooDeep (is_dir dir)
      (may (who_of setting v.user) dir to_write) (is_none (child_in target name forest))
      (nat_lt (next_of target.server forest) next_max) (nat_lt (length v.trail) places_max)
      (beside target (next_of target.server forest)) at placed in
      record {
        is_directory = all.0;
        free = is_none-of (child_in target name forest) all.1;
        room = below (next_of target.server forest) next_max all.2;
        short = below (length v.trail) places_max all.3;
        place = all.4;
      }

module _ (setting : Setting) (forest : List Server) (v : Fid) (now : ℕ) (asked : Asked)
    (target : NodeRef) (dir : Node) (at : NodeRef) (new : New)
    (found : node_of target forest ≡ Some dir)
    (placed : place_in setting forest v asked.name target dir ≡ Ok at)
    (made : new_node 0 dir.number new ≡ created v.user now 0 dir asked.name asked.mode) where
  -- the new node is the one that is to be made
  node_is : (next : ℕ) → new_node next target.number new
      ≡ created v.user now next dir asked.name asked.mode
  node_is next =
      ap (λ d. new_node next d new)
      (sym (number-node_at target.number (server_at target.server forest).nodes dir found))
      ∙ ap (λ (n : Node). record n { number = next }) made

  -- and may join the server
  pub plan-adds : CanAdd (server_at target.server forest) target.number
      (new_node (server_at target.server forest).next target.number new)
  plan-adds =
      let may = permits setting forest v asked.name target dir at placed in
      let named : new.name ≡ asked.name = ap (λ (n : Node). n.name) made in
      let empty : new.bytes.now ≡ [] = ap (λ (n : Node). n.bytes) made in
      let none : length new.bytes.now ≡ 0 = ap length empty in
      record {
        number_left = may.room;
        into = rw found may.is_directory;
        free = rw named may.free;
        small = omega (arith, none);
        empty_dir = λ h. empty;
      }

  -- the answer is as planned
  pub plan-is : (trail : List NodeRef) → trail ≡ v.trail ++ at ∷ [] → (session : Session) (fid : ℕ)
      → created_in setting forest session now fid v asked target
      ≡ plan_answer forest session fid target new trail asked.opening
  unfolding obtain
  plan-is trail longer session fid =
      let may = permits setting forest v asked.name target dir at placed in
      let next = next_of target.server forest in
      let its : created_in setting forest session now fid v asked target
      ≡ creation forest session now fid v target dir asked.name asked.mode asked.opening =
      rw (found, placed) refl in
      let way : trail ≡ v.trail ++ beside target next ∷ [] =
      longer ∙ ap (λ a. v.trail ++ a ∷ []) (sym may.place) in
      let as_made : creation forest session now fid v target dir asked.name asked.mode asked.opening
      ≡ plan_answer forest session fid target new (v.trail ++ beside target next ∷ []) asked.opening =
      ap (λ (n : Node). Ok (record {
        changes = AddNode target.server n ∷ EditNode target (Mark n.muid n.mtime) ∷ [];
        session = entered fid (v.trail ++ beside target next ∷ []) asked.opening session;
        reply = Rcreate (qid_of (beside target next) n) (iounit_of session);
      })) (sym (node_is next)) in
      its ∙ as_made
      ∙ ap (λ t. plan_answer forest session fid target new t asked.opening) (sym way)

module _ (setting : Setting) (forest : List Server) (session : Session) (now fid : ℕ) (v : Fid)
    (asked : Asked) (target : NodeRef) where
  -- where the directory is not there
  pub in-missing : node_of target forest ≡ None
      → created_in setting forest session now fid v asked target ≡ Err PhaseError
  unfolding obtain
  in-missing none = rw none refl

  module _ (dir : Node) (found : node_of target forest ≡ Some dir) where
    -- where something in it refuses the node
    pub in-refused : (fault : Fault) → place_in setting forest v asked.name target dir ≡ Err fault
        → created_in setting forest session now fid v asked target ≡ Err fault
    unfolding obtain
    in-refused fault refused = rw (found, refused) refl

    -- where nothing does
    pub in-done : (at : NodeRef) → place_in setting forest v asked.name target dir ≡ Ok at
        → is_done (created_in setting forest session now fid v asked target) ≡ true
    unfolding obtain
    in-done at placed = rw (found, placed) refl

module _ (setting : Setting) (forest : List Server) (session : Session) (now fid : ℕ)
    (name : List ℕ) (perm bits : ℕ) where
  -- the tests in their parts are the one list of tests
  pub steps-are : create_steps setting forest session now fid name perm bits
      ≡ create_answer setting forest session now fid name perm bits
  steps-are =
      obtain-same (fid_at fid session.fids) UnknownFid _ _ (λ v. ap (need (is_none v.opened) FidOpen)
      (need-then (is_name name) BadFileName _ _ ∙ ap (need (is_name name) BadFileName)
      (obtain-then (opening_of bits) BadOpenMode _ _
      ∙ obtain-same (opening_of bits) BadOpenMode _ _ (λ opening.
      obtain-then (mode_of perm) BadOpenMode _ _
      ∙ obtain-same (mode_of perm) BadOpenMode _ _ (λ mode.
      need-then (not (is_dir_mode mode) || is_plain_read opening) IsDirectory _ _
      ∙ ap (need (not (is_dir_mode mode) || is_plain_read opening) IsDirectory)
      (among v (record { name = name; mode = mode; opening = opening })))))))
    where
      inside : (v : Fid) (asked : Asked) (target : NodeRef) (dir : Node)
          → and_then (place_in setting forest v asked.name target dir)
          (λ at. creation forest session now fid v target dir asked.name asked.mode asked.opening)
          ≡ need (is_dir dir) NotDirectory (
          need (may (who_of setting v.user) dir to_write) PermissionDenied (
          need (is_none (child_in target asked.name forest)) FileExists (
          need (nat_lt (next_of target.server forest) next_max) QidsUsedUp (
          need (nat_lt (length v.trail) places_max) PathTooDeep (
          creation forest session now fid v target dir asked.name asked.mode asked.opening)))))
      inside v asked target dir =
          need-then (is_dir dir) NotDirectory _ _ ∙ ap (need (is_dir dir) NotDirectory)
          (need-then (may (who_of setting v.user) dir to_write) PermissionDenied _ _
          ∙ ap (need (may (who_of setting v.user) dir to_write) PermissionDenied)
          (need-then (is_none (child_in target asked.name forest)) FileExists _ _
          ∙ ap (need (is_none (child_in target asked.name forest)) FileExists)
          (need-then (nat_lt (next_of target.server forest) next_max) QidsUsedUp _ _
          ∙ ap (need (nat_lt (next_of target.server forest) next_max) QidsUsedUp)
          (need-then (nat_lt (length v.trail) places_max) PathTooDeep _ _))))

      among : (v : Fid) (asked : Asked)
          → and_then (target_among forest (members_of (here v.trail) setting.table))
          (created_in setting forest session now fid v asked)
          ≡ need (list_any (is_alive forest) (members_of (here v.trail) setting.table)) PhaseError (
          need (list_any (is_alive_dir forest) (members_of (here v.trail) setting.table)) NotDirectory (
          obtain (permitting (members_of (here v.trail) setting.table)) CreationForbidden (λ member.
          obtain (node_of member.node forest) PhaseError (λ dir.
          need (is_dir dir) NotDirectory (
          need (may (who_of setting v.user) dir to_write) PermissionDenied (
          need (is_none (child_in member.node asked.name forest)) FileExists (
          need (nat_lt (next_of member.node.server forest) next_max) QidsUsedUp (
          need (nat_lt (length v.trail) places_max) PathTooDeep (
          creation forest session now fid v member.node dir asked.name asked.mode
          asked.opening)))))))))
      among v asked =
          let members = members_of (here v.trail) setting.table in
          need-then (list_any (is_alive forest) members) PhaseError _ _
          ∙ ap (need (list_any (is_alive forest) members) PhaseError)
          (need-then (list_any (is_alive_dir forest) members) NotDirectory _ _
          ∙ ap (need (list_any (is_alive_dir forest) members) NotDirectory)
          (obtain-then (permitting members) CreationForbidden _ _
          ∙ obtain-same (permitting members) CreationForbidden _ _ (λ member.
          obtain-same (node_of member.node forest) PhaseError _ _ (λ dir.
          inside v asked member.node dir))))

  -- where the fid is not there
  pub steps-unknown : fid_at fid session.fids ≡ None
      → create_steps setting forest session now fid name perm bits ≡ Err UnknownFid
  unfolding obtain
  steps-unknown none =
      ap (λ o. obtain o UnknownFid (λ v. need (is_none v.opened) FidOpen
      (and_then (asked_of name perm bits) (λ asked.
      and_then (target_among forest (members_of (here v.trail) setting.table))
      (created_in setting forest session now fid v asked))))) none

  -- where it is open
  pub steps-open : (v : Fid) → fid_at fid session.fids ≡ Some v → is_none v.opened ≡ false
      → create_steps setting forest session now fid name perm bits ≡ Err FidOpen
  unfolding obtain need
  steps-open v found used =
      ap (λ o. obtain o UnknownFid (λ v. need (is_none v.opened) FidOpen
      (and_then (asked_of name perm bits) (λ asked.
      and_then (target_among forest (members_of (here v.trail) setting.table))
      (created_in setting forest session now fid v asked))))) found
      ∙ ap (λ b. need b FidOpen (and_then (asked_of name perm bits) (λ asked.
      and_then (target_among forest (members_of (here v.trail) setting.table))
      (created_in setting forest session now fid v asked)))) used

  -- where what is asked means nothing
  pub steps-meaningless : (v : Fid) (fault : Fault) → fid_at fid session.fids ≡ Some v
      → is_none v.opened ≡ true → asked_of name perm bits ≡ Err fault
      → create_steps setting forest session now fid name perm bits ≡ Err fault
  unfolding obtain need
  steps-meaningless v fault found shut means =
      ap (λ o. obtain o UnknownFid (λ v. need (is_none v.opened) FidOpen
      (and_then (asked_of name perm bits) (λ asked.
      and_then (target_among forest (members_of (here v.trail) setting.table))
      (created_in setting forest session now fid v asked))))) found
      ∙ ap (λ b. need b FidOpen (and_then (asked_of name perm bits) (λ asked.
      and_then (target_among forest (members_of (here v.trail) setting.table))
      (created_in setting forest session now fid v asked)))) shut
      ∙ ap (λ r. and_then r (λ asked.
      and_then (target_among forest (members_of (here v.trail) setting.table))
      (created_in setting forest session now fid v asked))) means

  -- where the tests before the directory pass
  steps-before : (v : Fid) (asked : Asked) → fid_at fid session.fids ≡ Some v
      → is_none v.opened ≡ true → asked_of name perm bits ≡ Ok asked
      → create_steps setting forest session now fid name perm bits
      ≡ and_then (target_among forest (members_of (here v.trail) setting.table))
      (created_in setting forest session now fid v asked)
  unfolding obtain need
  steps-before v asked found shut means =
      ap (λ o. obtain o UnknownFid (λ v. need (is_none v.opened) FidOpen
      (and_then (asked_of name perm bits) (λ asked.
      and_then (target_among forest (members_of (here v.trail) setting.table))
      (created_in setting forest session now fid v asked))))) found
      ∙ ap (λ b. need b FidOpen (and_then (asked_of name perm bits) (λ asked.
      and_then (target_among forest (members_of (here v.trail) setting.table))
      (created_in setting forest session now fid v asked)))) shut
      ∙ ap (λ r. and_then r (λ asked.
      and_then (target_among forest (members_of (here v.trail) setting.table))
      (created_in setting forest session now fid v asked))) means

  -- where a directory is found
  pub steps-found : (v : Fid) (asked : Asked) (target : NodeRef) → fid_at fid session.fids ≡ Some v
      → is_none v.opened ≡ true → asked_of name perm bits ≡ Ok asked
      → target_among forest (members_of (here v.trail) setting.table) ≡ Ok target
      → create_steps setting forest session now fid name perm bits
      ≡ created_in setting forest session now fid v asked target
  steps-found v asked target found shut means chosen =
      steps-before v asked found shut means
      ∙ ap (λ r. and_then r (created_in setting forest session now fid v asked)) chosen

  -- where none is
  pub steps-refused : (v : Fid) (asked : Asked) (fault : Fault) → fid_at fid session.fids ≡ Some v
      → is_none v.opened ≡ true → asked_of name perm bits ≡ Ok asked
      → target_among forest (members_of (here v.trail) setting.table) ≡ Err fault
      → create_steps setting forest session now fid name perm bits ≡ Err fault
  steps-refused v asked fault found shut means chosen =
      steps-before v asked found shut means
      ∙ ap (λ r. and_then r (created_in setting forest session now fid v asked)) chosen

-- a refusal by a test or for memory
pub refused : (steps answer : Answer) (forest : List Server) (session : Session)
    (result : Result (Qid × ℕ) Fault) (fault : Fault) → steps ≡ answer → result ≡ Err fault
    → IsRefusal steps (is_done steps) fault
    → Answers answer (is_done answer) forest forest session session (replied create_reply result)
refused steps answer forest session result fault is err due =
    rw err (subst (λ a. IsRefusal a (is_done a) fault) is due, refl, refl)

-- what is planned is done
pub plan-did : (answer : Answer) (forest forest' : List Server) (session session' : Session)
    (fid : ℕ) (target : NodeRef) (new : New) (trail : List NodeRef) (o : Opening) (qid : Qid)
    (room : ℕ) → answer ≡ plan_answer forest session fid target new trail o
    → forest' ≡ forest_changed_at target (marked new.muid new.mtime)
    (tree_changed_at target.server (λ s. added s (new_node s.next target.number new)) forest)
    → session' ≡ entered fid trail o session
    → qid ≡ qid_of (beside target (next_of target.server forest))
    (new_node (next_of target.server forest) target.number new)
    → room ≡ iounit_of session'
    → Answers answer (is_done answer) forest forest' session session'
    (Ok (create_reply (qid, room)))
unfolding applied edited
plan-did answer forest forest' session session' fid target new trail o qid room is changed went
    qid_is room_is =
    let next = next_of target.server forest in
    let r : room ≡ iounit_of session = room_is ∙ ap iounit_of went in
    let changed' : forest' ≡ forest_changed_at target (marked new.muid new.mtime)
    (tree_changed_at target.server (λ s. added s (new_node next target.number new)) forest) =
    changed in
    rw is (rw (qid_is, r, went) refl, changed')
