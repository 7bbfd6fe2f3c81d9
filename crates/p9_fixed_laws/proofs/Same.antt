-- The answers to a message in two forests that are the sealed one apart from times of last access.
use Rattle.std.proofs.Common.{◌≡◌, ◌∙◌, ℕ, Bool, true, false, not, ◌&&◌, ◌||◌, List, [], ◌∷◌, Option}
use Rattle.std.proofs.Common.{Some, None, Result, Ok, Err, refl, sym, ap, subst, is_some}
use Rattle.std.specs.Prelude.{◌-◌, ◌^◌, ◌==◌, is_none, min, option_map, if◌then◌else◌}
use Rattle.std.specs.Option.{option_map_or}
use Rattle.p9_base.specs.Mode.{mode_of}
use Rattle.p9_base.specs.Name.{is_name}
use Rattle.p9_base.specs.NodeRef.{beside}
use Rattle.p9_base.specs.User.{is_listed_user}
use Rattle.p9_base.specs.Results.{and_then, need, obtain, unless}
use Rattle.p9_base.specs.declared.fault.Fault.{Fault}
use Rattle.p9_base.specs.declared.fault.Fault.TheVariants.{BadDirectoryOffset, BadFileName, BadOpenMode}
use Rattle.p9_base.specs.declared.fault.Fault.TheVariants.{CreationForbidden, ExclusiveUse, FidNotOpen}
use Rattle.p9_base.specs.declared.fault.Fault.TheVariants.{FidOpen, FixedField, IsDirectory}
use Rattle.p9_base.specs.declared.fault.Fault.TheVariants.{IsRoot, NoAuthentication, NotDirectory}
use Rattle.p9_base.specs.declared.fault.Fault.TheVariants.{PermissionDenied, PhaseError}
use Rattle.p9_base.specs.declared.fault.Fault.TheVariants.{UnknownAttachName, UnknownFid, UnknownUser}
use Rattle.p9_base.specs.declared.node_ref.NodeRef.{NodeRef}
use Rattle.p9_base.specs.declared.qid.Qid.{Qid}
use Rattle.p9_clean.specs.Path.{cleaned_elements}
use Rattle.p9_tree.specs.Forest.{child_in, node_of}
use Rattle.p9_tree.specs.Node.{Node, is_dir, touched}
use Rattle.p9_tree.specs.Server.{Server}
use Rattle.p9_tree.specs.Unread.{all_unread}
use Rattle.p9_space.specs.Place.{file_ref, root_place}
use Rattle.p9_space.specs.Rights.{may, to_write}
use Rattle.p9_space.specs.Table.{IsTable, members_of}
use Rattle.p9_space.specs.Trail.{here}
use Rattle.p9_table.specs.declared.row.Member.{Member}
use Rattle.p9_wire.specs.Stat.{StatFields}
use Rattle.p9_wire.specs.Message.{Ropen, Rstat, TMessage, Tattach, Tauth, Tclunk, Tcreate}
use Rattle.p9_wire.specs.Message.{Tflush, Topen, Tread, Tremove, Tstat, Tversion, Twalk, Twrite}
use Rattle.p9_wire.specs.Message.{Twstat}
use Rattle.p9_wire.specs.Reading.{t_message_of}
use Rattle.p9_wire.specs.Spelling.{r_len}
use Rattle.p9_fids.specs.Fid.{Fid, fid_at, put_fault}
use Rattle.p9_step.specs.Answer.{Answer, Outcome, outcome_of}
use Rattle.p9_step.specs.Attach.{attach_answer, attach_walk, attached_at, is_attach_name}
use Rattle.p9_step.specs.Attach.{listed_user}
use Rattle.p9_step.specs.Clunk.{clunk_answer, without}
use Rattle.p9_step.specs.Create.{create_answer, permitting}
use Rattle.p9_step.specs.ForestChange.{Cut, Mark, edited}
use Rattle.p9_step.specs.Memory.{frame_may_fail, may_run_out}
use Rattle.p9_step.specs.Open.{is_cut, is_taken, may_open, open_answer, opened_session, truncated}
use Rattle.p9_step.specs.Open.{truncation}
use Rattle.p9_step.specs.Opening.{opening_of, wanted_by}
use Rattle.p9_step.specs.Qid.{qid_of, stat_of}
use Rattle.p9_step.specs.Read.{cursor_at, read_answer, read_file, readable}
use Rattle.p9_step.specs.Remove.{removal, remove_answer}
use Rattle.p9_step.specs.Request.{request_of}
use Rattle.p9_step.specs.Rights.{may_write_parent}
use Rattle.p9_step.specs.Stat.{stat_answer}
use Rattle.p9_step.specs.State.{Session, SessionRow, Setting, fid_ref, iounit_of, who_of}
use Rattle.p9_step.specs.Step.{frame_answer, message_answer}
use Rattle.p9_step.specs.Version.{version_answer}
use Rattle.p9_step.specs.Walk.{newfid_fault, walk_answer, walk_outcome}
use Rattle.p9_step.specs.Write.{is_writable, write_answer}
use Rattle.p9_step.specs.Wstat.{Touched, has_sibling, touched_of, touches_fixed, wstat_answer}
use Rattle.p9_step.specs.Wstat.{wstat_fault}
use Rattle.p9_step.specs.declared.opening.Opening.{Opening}
use Rattle.p9_step.proofs.Done.{OnDone, done-is, done-map}
use Rattle.p9_step.proofs.Passed.{WstatDone, wstat-done}
use Rattle.p9_step.proofs.Requests.{request-is}
use Rattle.p9_fixed_laws.specs.Alone.{names_time, tells_times}
use Rattle.p9_fixed_laws.specs.States.{HasFixedFids, IsFixedInput, IsFixedMember, Sealed, is_on}
use Rattle.p9_fixed_laws.proofs.Answers.{permitting-one}
use Rattle.p9_fixed_laws.proofs.Blind.{alive-same, alive_dir-same, asked, child-asked}
use Rattle.p9_fixed_laws.proofs.Blind.{may_write_parent-same, tested, there-same, walk-same}
use Rattle.p9_fixed_laws.proofs.Blind.{walked-same}
use Rattle.p9_fixed_laws.proofs.Entries.{left-same}
use Rattle.p9_fixed_laws.proofs.Fids.{end-nothing, ends-nothing, found, not-writable}
use Rattle.p9_fixed_laws.proofs.Near.{IsNear, listing-near, near-given, near-if, near-need, near-node}
use Rattle.p9_fixed_laws.proofs.Near.{near-same}
use Rattle.p9_fixed_laws.proofs.Nodes.{Scene, not-written, parent-not-written, still}
use Rattle.p9_fixed_laws.proofs.Opens.{same-given, same-need, same-test}
use Rattle.p9_fixed_laws.proofs.Places.{file_still, here_fixed}

same-unless : (o : Option Fault) (x y : Answer) → (o ≡ None → x ≡ y) → unless o x ≡ unless o y
unfolding unless
same-unless None x y h = h refl
same-unless (Some fault) x y h = refl

unless-same : (o p : Option Fault) (x : Answer) → o ≡ p → unless o x ≡ unless p x
unless-same o p x e = ap (λ t. unless t x) e

-- what is behind a test that refuses is not asked
need-refused : (b : Bool) (fault : Fault) (x y : Answer) → b ≡ false
    → need b fault x ≡ need b fault y
unfolding need
need-refused true fault x y e = let no : true ≡ false = e in absurd (cc)
need-refused false fault x y e = refl

then-same : {X : Type 0} (r : Result X Fault) (x y : X → Answer) → ((v : X) → x v ≡ y v)
    → and_then r x ≡ and_then r y
then-same (Ok v) x y h = h v
then-same (Err fault) x y h = refl

-- a node, of which no time of last access is told
module _ (f g : List Server) (same : all_unread f ≡ all_unread g) where
  node-same : (at : NodeRef) (fault : Fault) (k l : Node → Answer)
      → ((n : Node) → l (touched 0 n) ≡ l n)
      → ((n : Node) → node_of at f ≡ Some n → k n ≡ l n)
      → obtain (node_of at f) fault k ≡ obtain (node_of at g) fault l
  unfolding obtain
  node-same at fault k l blind h =
      same-given (node_of at f) fault k l h ∙ asked f g same (λ o. obtain o fault l) go at
    where
      go : (o : Option Node) → obtain (option_map (touched 0) o) fault l ≡ obtain o fault l
      go None = refl
      go (Some n) = blind n

-- x and y are answers to one message, in two such forests. They are the same, unless times of last
-- access are told or one was named. They leave the same session
pub record IsLike (session : Session) (tells names : Bool) (fails : Answer → Bool) (x y : Answer)
    : Type 0 where
  pub same : tells ≡ false → names ≡ false → x ≡ y
  pub long : names ≡ false → r_len (outcome_of session x).reply ≡ r_len (outcome_of session y).reply
  pub fails_too : names ≡ false → fails x ≡ fails y
  pub left : (outcome_of session x).session ≡ (outcome_of session y).session
  pub kept : names ≡ true → (outcome_of session x).session ≡ session

module _ (session : Session) (fails : Answer → Bool) (x y : Answer) where
  like-same : x ≡ y → IsLike session false false fails x y
  like-same e = record {
    same = λ _ _. e;
    long = λ _. ap (λ z. r_len (outcome_of session z).reply) e;
    fails_too = λ _. ap fails e;
    left = ap (λ z. (outcome_of session z).session) e;
    kept = λ never. let no : false ≡ true = never in absurd (cc);
  }

  like-near : (tells : Bool) → (tells ≡ false → x ≡ y) → fails x ≡ fails y → IsNear session x y
      → IsLike session tells false fails x y
  like-near tells quiet e near = record {
    same = λ told _. quiet told;
    long = λ _. near.long;
    fails_too = λ _. e;
    left = near.left;
    kept = λ never. let no : false ≡ true = never in absurd (cc);
  }

  like-named : (names : Bool) → (names ≡ false → x ≡ y)
      → (outcome_of session x).session ≡ session → (outcome_of session y).session ≡ session
      → IsLike session false names fails x y
  like-named names e kept also = record {
    same = λ _ none. e none;
    long = λ none. ap (λ z. r_len (outcome_of session z).reply) (e none);
    fails_too = λ none. ap fails (e none);
    left = kept ∙ sym also;
    kept = λ _. kept;
  }

module _ (sealed : Sealed) (setting : Setting) (input : IsFixedInput sealed setting)
    (table : IsTable setting.table) (f g : List Server)
    (of_f : all_unread f ≡ all_unread sealed.forest)
    (of_g : all_unread g ≡ all_unread sealed.forest)
    (session : Session) (fids : HasFixedFids sealed setting session) where
  abbrev one : Scene
  one = record { sealed = sealed; setting = setting; forest = f; same = of_f }

  abbrev other : Scene
  other = record { sealed = sealed; setting = setting; forest = g; same = of_g }

  both : all_unread f ≡ all_unread g
  both = of_f ∙ sym of_g

  version-same : (now msize : ℕ) (version : List ℕ)
      → version_answer setting f session now msize version
      ≡ version_answer setting g session now msize version
  version-same now msize version =
      rw (ends-nothing one now session.fids fids, ends-nothing other now session.fids fids) refl

  attached-same : (fid : ℕ) (user : List ℕ) (place : NodeRef)
      → attached_at setting f session fid user place ≡ attached_at setting g session fid user place
  attached-same fid user place =
      node-same f g both (file_ref place setting.table) PhaseError _ _ (λ n. refl) (λ n _. refl)

  attach-same : (fid afid : ℕ) (uname aname : List ℕ)
      → attach_answer setting f session fid afid uname aname
      ≡ attach_answer setting g session fid afid uname aname
  attach-same fid afid uname aname =
      same-unless (put_fault fid session.fids) _ _ (λ _.
      same-need _ NoAuthentication _ _ (λ _.
      same-given (listed_user uname setting.users) UnknownUser _ _ (λ user _.
      same-need (is_attach_name aname) UnknownAttachName _ _ (λ _.
      same-test _ _ PhaseError _ (there-same f g both (file_ref root_place setting.table))
      ∙ same-need _ PhaseError _ _ (λ _.
      ap (λ r. and_then r (λ trail. attached_at setting f session fid user (here trail)))
      (walk-same f g both (Some (who_of setting user)) setting.table (root_place ∷ [])
      (cleaned_elements aname))
      ∙ then-same (attach_walk setting g user aname) _ _
      (λ trail. attached-same fid user (here trail)))))))

  walk-message-same : (fid newfid : ℕ) (names : List (List ℕ))
      → walk_answer setting f session fid newfid names
      ≡ walk_answer setting g session fid newfid names
  walk-message-same fid newfid names =
      same-given (fid_at fid session.fids) UnknownFid _ _ (λ v _.
      same-need (is_none v.opened) FidOpen _ _ (λ _.
      same-unless (newfid_fault fid newfid session.fids) _ _ (λ _.
      ap (walk_outcome fid newfid v session)
      (walked-same f g both setting v.user v.trail names))))

  -- An open.

  module _ (sessions : List SessionRow) (now fid : ℕ) (v : Fid) where
    -- what is tested of a file and a mode, and the outcome
    abbrev opens : List Server → Node → Opening → Answer
    opens forest n o =
        let at = fid_ref setting.table v in
        need (may_open (who_of setting v.user) forest at n o) PermissionDenied (
        need (not (is_taken setting.table sessions at n)) ExclusiveUse (
        Ok (record {
          changes = truncation v.user now at n o;
          session = opened_session fid o session;
          reply = Ropen (qid_of at (truncated v.user now n o)) (iounit_of session);
        })))

    qid-blind : (n : Node) (o : Opening)
        → qid_of (fid_ref setting.table v) (truncated v.user now (touched 0 n) o)
        ≡ qid_of (fid_ref setting.table v) (truncated v.user now n o)
    unfolding edited
    qid-blind n o = go (is_cut n o)
      where
        go : (b : Bool)
            → qid_of (fid_ref setting.table v)
            (if b then edited (Mark v.user now) (edited (Cut 0) (touched 0 n)) else touched 0 n)
            ≡ qid_of (fid_ref setting.table v)
            (if b then edited (Mark v.user now) (edited (Cut 0) n) else n)
        go true = refl
        go false = refl

    opens-blind : (n : Node) (o : Opening) → opens g (touched 0 n) o ≡ opens g n o
    opens-blind n o =
        same-need _ PermissionDenied _ _ (λ _.
        same-need _ ExclusiveUse _ _ (λ _.
        ap (λ (q : Qid). Ok (record {
          changes = truncation v.user now (fid_ref setting.table v) n o;
          session = opened_session fid o session;
          reply = Ropen q (iounit_of session);
        })) (qid-blind n o)))

    opens-same : (n : Node) (o : Opening) → opens f n o ≡ opens g n o
    opens-same n o =
        same-test _ _ PermissionDenied _
        (ap (λ w. may (who_of setting v.user) n (wanted_by o) && (not o.remove_on_close || w))
        (may_write_parent-same f g both (who_of setting v.user) (fid_ref setting.table v) n))

  open-same : (sessions : List SessionRow) (now fid bits : ℕ)
      → open_answer setting f sessions session now fid bits
      ≡ open_answer setting g sessions session now fid bits
  open-same sessions now fid bits =
      same-given (fid_at fid session.fids) UnknownFid _ _ (λ v _.
      same-need (is_none v.opened) FidOpen _ _ (λ _.
      node-same f g both (fid_ref setting.table v) PhaseError _ _
      (λ n. same-given (opening_of bits) BadOpenMode _ _ (λ o _.
      same-need _ IsDirectory _ _ (λ _. opens-blind sessions now fid v n o)))
      (λ n _. same-given (opening_of bits) BadOpenMode _ _ (λ o _.
      same-need _ IsDirectory _ _ (λ _. opens-same sessions now fid v n o)))))

  -- A create is refused where it asks to write.

  module _ (v : Fid) (at : NodeRef) (rest later : Node → Answer)
      (member : IsFixedMember sealed setting at)
      (listed : is_listed_user setting.users v.user ≡ true) where
    refusal : Node → Answer
    refusal dir =
        need (is_dir dir) NotDirectory (
        need (may (who_of setting v.user) dir to_write) PermissionDenied (Err PermissionDenied))

    creates-same : obtain (node_of at f) PhaseError (λ dir.
        need (is_dir dir) NotDirectory (
        need (may (who_of setting v.user) dir to_write) PermissionDenied (rest dir)))
        ≡ obtain (node_of at g) PhaseError (λ dir.
        need (is_dir dir) NotDirectory (
        need (may (who_of setting v.user) dir to_write) PermissionDenied (later dir)))
    unfolding refusal
    creates-same =
        node-same f g both at PhaseError _ refusal (λ n. refl)
        (λ n there. same-need (is_dir n) NotDirectory _ _ (λ _.
        need-refused (may (who_of setting v.user) n to_write) PermissionDenied _ _
        (not-written one v.user listed at n (still one at n member there))))
        ∙ same-given (node_of at g) PhaseError _ _
        (λ n there. same-need (is_dir n) NotDirectory _ _ (λ _.
        need-refused (may (who_of setting v.user) n to_write) PermissionDenied _ _
        (not-written other v.user listed at n (still other at n member there))))

  create-same : (now fid : ℕ) (name : List ℕ) (perm bits : ℕ)
      → create_answer setting f session now fid name perm bits
      ≡ create_answer setting g session now fid name perm bits
  create-same now fid name perm bits =
      same-given (fid_at fid session.fids) UnknownFid _ _ (λ v at.
      let its = found one session.fids fids fid v at in
      let ms = members_of (here v.trail) setting.table in
      same-need (is_none v.opened) FidOpen _ _ (λ _.
      same-need (is_name name) BadFileName _ _ (λ _.
      same-given (opening_of bits) BadOpenMode _ _ (λ o _.
      same-given (mode_of perm) BadOpenMode _ _ (λ asked_mode _.
      same-need _ IsDirectory _ _ (λ _.
      same-test _ _ PhaseError _ (alive-same f g both ms)
      ∙ same-need _ PhaseError _ _ (λ _.
      same-test _ _ NotDirectory _ (alive_dir-same f g both ms)
      ∙ same-need _ NotDirectory _ _ (λ _.
      same-given (permitting ms) CreationForbidden _ _ (λ member chosen.
      creates-same v member.node _ _
      (permitting-one (λ (m : Member). IsFixedMember sealed setting m.node) ms
      (here_fixed one input v.trail its.places) member chosen) its.listed)))))))))

  -- A read.

  read-near : (now fid offset count : ℕ)
      → IsNear session (read_answer setting f session now fid offset count)
      (read_answer setting g session now fid offset count)
  read-near now fid offset count =
      near-given session (fid_at fid session.fids) UnknownFid _ _ (λ v _.
      near-given session (readable v.opened) FidNotOpen _ _ (λ opened _.
      let room = min count (iounit_of session) in
      let at = fid_ref setting.table v in
      near-node session f g both at PhaseError _ _ (λ m n same.
      near-if session (is_dir m) (is_dir n) _ _ _ _ (ap (λ (x : Node). is_dir x) same)
      (near-need session _ BadDirectoryOffset _ _
      (listing-near session fid opened offset (cursor_at offset opened) room _ _
      (left-same f g both (who_of setting v.user) (cursor_at offset opened) setting.table
      (here v.trail))))
      (near-same session _ _ (ap (λ x. read_file session now at x offset room) same)))))

  -- a file's bytes tell no time
  read-same : (now fid offset count : ℕ) → is_on is_dir setting g session fid ≡ false
      → read_answer setting f session now fid offset count
      ≡ read_answer setting g session now fid offset count
  read-same now fid offset count none =
      same-given (fid_at fid session.fids) UnknownFid _ _ (λ v at.
      same-given (readable v.opened) FidNotOpen _ _ (λ opened _.
      node-same f g both (fid_ref setting.table v) PhaseError _ _ (λ n. refl)
      (λ n there. rw (file v at n there) refl)))
    where
      file : (v : Fid) → fid_at fid session.fids ≡ Some v → (n : Node)
          → node_of (fid_ref setting.table v) f ≡ Some n → is_dir n ≡ false
      file v at n there =
          let here : option_map_or is_dir (node_of (fid_ref setting.table v) g) false ≡ false =
          rw at at none in
          let was : option_map_or is_dir (node_of (fid_ref setting.table v) f) false ≡ false =
          tested f g both is_dir (λ m. refl) (fid_ref setting.table v) ∙ here in
          rw there at was

  write-same : (now fid offset : ℕ) (bytes : List ℕ)
      → write_answer setting f session now fid offset bytes
      ≡ write_answer setting g session now fid offset bytes
  write-same now fid offset bytes =
      same-given (fid_at fid session.fids) UnknownFid _ _ (λ v at.
      need-refused (is_writable v) FidNotOpen _ _
      (not-writable one v (found one session.fids fids fid v at)))

  clunk-same : (now fid : ℕ)
      → clunk_answer setting f session now fid ≡ clunk_answer setting g session now fid
  clunk-same now fid =
      same-given (fid_at fid session.fids) UnknownFid _ _ (λ v at.
      let its = found one session.fids fids fid v at in
      rw (end-nothing one now v its, end-nothing other now v its) refl)

  -- A remove is refused where it asks to write the directory.

  module _ (now fid : ℕ) (v : Fid) (at : fid_at fid session.fids ≡ Some v) where
    no_removal : Node → Answer
    no_removal n = need (is_some n.parent) IsRoot (Err PermissionDenied)

    -- behind the test of the directory
    not_asked : (b : Bool) (x : Answer) → b ≡ false
        → need b PermissionDenied x ≡ Err PermissionDenied
    unfolding need
    not_asked true x e = let no : true ≡ false = e in absurd (cc)
    not_asked false x e = refl

    removal-same : removal setting f (without fid session) now v
        ≡ removal setting g (without fid session) now v
    unfolding no_removal
    removal-same =
        let its = found one session.fids fids fid v at in
        let who = who_of setting v.user in
        let file = fid_ref setting.table v in
        node-same f g both file PhaseError _ no_removal (λ n. refl)
        (λ n there. same-need (is_some n.parent) IsRoot _ _ (λ _.
        not_asked (may_write_parent who f file n) _
        (parent-not-written one v.user its.listed file n (file_still one input v n table its there))))
        ∙ same-given (node_of file g) PhaseError no_removal _
        (λ n there. same-need (is_some n.parent) IsRoot _ _ (λ _.
        sym (not_asked (may_write_parent who g file n) _
        (parent-not-written other v.user its.listed file n
        (file_still other input v n table its there)))))

  remove-same : (now fid : ℕ)
      → remove_answer setting f session now fid ≡ remove_answer setting g session now fid
  remove-same now fid =
      same-given (fid_at fid session.fids) UnknownFid _ _ (λ v at.
      ap (λ a. Ok (outcome_of (without fid session) a)) (removal-same now fid v at))

  stat-near : (fid : ℕ)
      → IsNear session (stat_answer setting f session fid) (stat_answer setting g session fid)
  stat-near fid =
      near-given session (fid_at fid session.fids) UnknownFid _ _ (λ v _.
      near-node session f g both (fid_ref setting.table v) PhaseError _ _ (λ m n same. record {
        left = refl;
        long = ap (λ (x : Node). r_len (Rstat (stat_of (fid_ref setting.table v) x))) same;
      }))

  -- A wstat.

  has_sibling-same : (at : NodeRef) (n : Node) (name : List ℕ)
      → has_sibling f at n name ≡ has_sibling g at n name
  has_sibling-same at n name = go n.parent
    where
      there : (o : Option Node) → is_some (option_map (touched 0) o) ≡ is_some o
      there None = refl
      there (Some m) = refl

      go : (o : Option ℕ)
          → option_map_or (λ parent. is_some (child_in (beside at parent) name f)) o false
          ≡ option_map_or (λ parent. is_some (child_in (beside at parent) name g)) o false
      go None = refl
      go (Some parent) = child-asked f g both is_some there (beside at parent) name

  wstat_fault-same : (user : List ℕ) (at : NodeRef) (n : Node) (t : Touched)
      → wstat_fault (who_of setting user) f at n t ≡ wstat_fault (who_of setting user) g at n t
  wstat_fault-same user at n t = go t.name
    where
      go : (o : Option (List ℕ)) → wstat_fault (who_of setting user) f at n (record t { name = o })
          ≡ wstat_fault (who_of setting user) g at n (record t { name = o })
      go None = refl
      go (Some name) =
          rw (
            may_write_parent-same f g both (who_of setting user) at n,
            has_sibling-same at n name,
          ) refl

  -- the time of last access is compared to nothing, where none is named
  fixed-blind : (at : NodeRef) (n : Node) (stat : StatFields)
      → not (stat.atime == 2 ^ 32 - 1) ≡ false
      → touches_fixed (stat_of at (touched 0 n)) stat ≡ touches_fixed (stat_of at n) stat
  fixed-blind at n stat none = rw (named (stat.atime == 2 ^ 32 - 1) none) refl
    where
      named : (b : Bool) → not b ≡ false → b ≡ true
      named true e = refl
      named false e = let no : true ≡ false = e in absurd (cc)

  wstat-same : (now fid : ℕ) (stat : StatFields) → not (stat.atime == 2 ^ 32 - 1) ≡ false
      → wstat_answer setting f session now fid stat ≡ wstat_answer setting g session now fid stat
  wstat-same now fid stat none =
      same-given (fid_at fid session.fids) UnknownFid _ _ (λ v _.
      let at = fid_ref setting.table v in
      node-same f g both at PhaseError _ _
      (λ n. same-test _ _ FixedField _ (ap not (fixed-blind at n stat none)))
      (λ n _. same-need _ FixedField _ _ (λ _.
      unless-same _ _ _ (wstat_fault-same v.user at n (touched_of (stat_of at n) stat)))))

  wstat-kept : (forest : List Server) (now fid : ℕ) (stat : StatFields)
      → (outcome_of session (wstat_answer setting forest session now fid stat)).session ≡ session
  wstat-kept forest now fid stat =
      go (wstat_answer setting forest session now fid stat)
      (done-map (WstatDone setting forest session now fid stat) (λ o. o.session ≡ session) _
      (λ o done. ap (λ (p : Outcome). p.session) done.is)
      (wstat-done setting forest session now fid stat))
    where
      go : (a : Answer) → OnDone (λ o. o.session ≡ session) a
          → (outcome_of session a).session ≡ session
      go (Ok o) done = done-is (λ p. p.session ≡ session) (Ok o) o done refl
      go (Err fault) done = refl

  -- Each message.

  message-like : (sessions : List SessionRow) (now : ℕ) (m : TMessage)
      → IsLike session (tells_times setting g session m) (names_time setting g session m) (may_run_out m)
      (message_answer setting f sessions session now m)
      (message_answer setting g sessions session now m)
  message-like sessions now (Tversion msize version) =
      like-same session _ _ _ (version-same now msize version)
  message-like sessions now (Tauth afid uname aname) = like-same session _ _ _ refl
  message-like sessions now (Tattach fid afid uname aname) =
      like-same session _ _ _ (attach-same fid afid uname aname)
  message-like sessions now (Tflush oldtag) = like-same session _ _ _ refl
  message-like sessions now (Twalk fid newfid names) =
      like-same session _ _ _ (walk-message-same fid newfid names)
  message-like sessions now (Topen fid mode) =
      like-same session _ _ _ (open-same sessions now fid mode)
  message-like sessions now (Tcreate fid name perm mode) =
      like-same session _ _ _ (create-same now fid name perm mode)
  message-like sessions now (Tread fid offset count) =
      like-near session _ _ _ (is_on is_dir setting g session fid) (read-same now fid offset count) refl
      (read-near now fid offset count)
  message-like sessions now (Twrite fid offset bytes) =
      like-same session _ _ _ (write-same now fid offset bytes)
  message-like sessions now (Tclunk fid) = like-same session _ _ _ (clunk-same now fid)
  message-like sessions now (Tremove fid) = like-same session _ _ _ (remove-same now fid)
  message-like sessions now (Tstat fid) =
      like-near session _ _ _ true (λ never. let no : true ≡ false = never in absurd (cc)) refl
      (stat-near fid)
  message-like sessions now (Twstat fid stat) =
      like-named session _ _ _ (not (stat.atime == 2 ^ 32 - 1)) (wstat-same now fid stat)
      (wstat-kept f now fid stat) (wstat-kept g now fid stat)

  -- the same of a frame
  pub frame-like : (sessions : List SessionRow) (now : ℕ) (frame : List ℕ)
      → IsLike session (option_map_or (λ m. tells_times setting g session m.1) (t_message_of frame) false)
      (option_map_or (λ m. names_time setting g session m.1) (t_message_of frame) false) (frame_may_fail frame)
      (frame_answer setting f sessions session now frame)
      (frame_answer setting g sessions session now frame)
  frame-like sessions now frame = go (request_of session frame) refl
    where
      go : (r : Result TMessage Fault) → request_of session frame ≡ r
          → IsLike session (option_map_or (λ m. tells_times setting g session m.1) (t_message_of frame) false)
          (option_map_or (λ m. names_time setting g session m.1) (t_message_of frame) false) (frame_may_fail frame)
          (and_then r (message_answer setting f sessions session now))
          (and_then r (message_answer setting g sessions session now))
      go (Ok m) is =
          subst (λ o. IsLike session (option_map_or (λ t. tells_times setting g session t.1) o false)
          (option_map_or (λ t. names_time setting g session t.1) o false)
          (λ a. option_map_or (λ t. may_run_out t.1 a) o false)
          (message_answer setting f sessions session now m)
          (message_answer setting g sessions session now m))
          (sym (request-is session frame m is).read) (message-like sessions now m)
      go (Err fault) is = record {
        same = λ _ _. refl;
        long = λ _. refl;
        fails_too = λ _. refl;
        left = refl;
        kept = λ _. refl;
      }
