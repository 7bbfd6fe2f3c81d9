-- The answer to a message of a session in a fixed state: it changes nothing but, at a read of a file,
-- a time of last access, and it leaves fids that are fixed.
use Rattle.std.proofs.Common.{◌≡◌, ℕ, ◌⊎◌, inl, inr, Bool, true, false, not, ◌&&◌}
use Rattle.std.proofs.Common.{List, [], ◌∷◌, Option, Some, None, Ok, Err, refl, sym, subst}
use Rattle.std.proofs.Common.{option_and_then}
use Rattle.std.specs.Prelude.{◌==◌, is_none, if◌then◌else◌}
use Rattle.std.specs.BTreeMap.{is_at}
use Rattle.std.specs.List.{AllByRecursion}
use Rattle.std.specs.Option.{option_map_or, option_or}
use Rattle.std.specs.Ordering.{nat_cmp}
use Rattle.std.specs.Str.{bytes_eq}
use Rattle.std.proofs.lemmas.Bool.{and_parts, or_left, or_right}
use Rattle.p9_base.proofs.Rows.{each-insert, each-remove, each-set}
use Rattle.p9_base.specs.Fault.{text_of}
use Rattle.p9_base.specs.Group.{is_member, leads}
use Rattle.p9_base.specs.Name.{is_name}
use Rattle.p9_base.specs.User.{is_listed_user}
use Rattle.p9_base.specs.declared.fault.Fault.{Fault}
use Rattle.p9_base.specs.declared.fault.Fault.TheVariants.{BadFileName}
use Rattle.p9_base.specs.declared.fault.Fault.TheVariants.{FileExists, FileTooLarge}
use Rattle.p9_base.specs.declared.fault.Fault.TheVariants.{IsDirectory, IsRoot, PermissionDenied}
use Rattle.p9_base.specs.declared.node_ref.NodeRef.{NodeRef}
use Rattle.p9_clean.specs.Path.{cleaned_elements}
use Rattle.p9_tree.specs.Node.{Node, is_dir}
use Rattle.p9_inside.proofs.Facts.{clash, not_some, or_cases, some_same}
use Rattle.p9_inside.proofs.Looks.{Ordered}
use Rattle.p9_space.specs.Place.{root_place}
use Rattle.p9_space.specs.Rights.{may, rules, to_write}
use Rattle.p9_space.specs.Table.{IsTable, members_of}
use Rattle.p9_space.specs.Trail.{here}
use Rattle.p9_table.specs.declared.row.Member.{Member}
use Rattle.p9_wire.specs.Stat.{StatFields}
use Rattle.p9_wire.specs.Message.{RMessage, Rerror, TMessage, Tattach, Tauth, Tclunk}
use Rattle.p9_wire.specs.Message.{Tcreate, Tflush, Topen, Tread, Tremove, Tstat, Tversion, Twalk}
use Rattle.p9_wire.specs.Message.{Twrite, Twstat}
use Rattle.p9_wire.specs.Reading.{t_message_of}
use Rattle.p9_fids.specs.Fid.{Fid, changed_fid, fid_at, opened_as, trailed}
use Rattle.p9_fids.specs.Opened.{writes}
use Rattle.p9_fids.specs.declared.opened.Opened.{Opened}
use Rattle.p9_step.specs.Answer.{Answer, Outcome, outcome_of}
use Rattle.p9_step.specs.Clunk.{without}
use Rattle.p9_step.specs.Create.{permitting}
use Rattle.p9_step.specs.ForestChange.{EditNode, ForestChange, Touch}
use Rattle.p9_step.specs.Opening.{newly_opened}
use Rattle.p9_step.specs.Remove.{removal}
use Rattle.p9_step.specs.Request.{request_of}
use Rattle.p9_step.specs.Rights.{may_write_parent}
use Rattle.p9_step.specs.State.{Session, SessionRow, fid_ref, who_of}
use Rattle.p9_step.specs.Step.{frame_answer, message_answer}
use Rattle.p9_step.specs.Walk.{moved, walked}
use Rattle.p9_step.specs.Write.{is_writable}
use Rattle.p9_step.specs.Wstat.{Touched, gid_fault, has_sibling, is_any, length_fault, may_give}
use Rattle.p9_step.specs.Wstat.{mode_fault, name_fault, ruling_fault, touched_of}
use Rattle.p9_step.specs.Wstat.{wstat_fault}
use Rattle.p9_step.specs.Qid.{stat_of}
use Rattle.p9_step.proofs.Done.{OnDone, done-err, done-is, done-map, done-ok, done-then}
use Rattle.p9_step.proofs.KeptFiles.{readable-is}
use Rattle.p9_step.proofs.Passed.{AttachDone, ClunkDone, CreateDone, OpenDone, ReadDone, RemovalDone}
use Rattle.p9_step.proofs.Passed.{RemoveDone, StatDone, VersionDone, WalkDone, WriteDone, WstatDone}
use Rattle.p9_step.proofs.Passed.{attach-done, clunk-done, create-done, open-done, read-done}
use Rattle.p9_step.proofs.Passed.{removal-done, remove-done, stat-done, version-done, walk-done}
use Rattle.p9_step.proofs.Passed.{write-done, wstat-done}
use Rattle.p9_step.proofs.Permits.{no_if}
use Rattle.p9_step.proofs.Refused.{request_of-of}
use Rattle.p9_step.proofs.Requests.{request-is}
use Rattle.p9_step.proofs.Settled.{found-listed}
use Rattle.p9_guard_laws.proofs.Fids.{not_opened}
use Rattle.p9_fixed_laws.specs.States.{HasFixedFids, IsFixedInput}
use Rattle.p9_fixed_laws.specs.States.{IsFixedMember, is_on, reads_file}
use Rattle.p9_fixed_laws.proofs.Fids.{FixedFid, FixedFids, end-nothing, ends-nothing, found}
use Rattle.p9_fixed_laws.proofs.Fids.{not-writable}
use Rattle.p9_fixed_laws.proofs.Nodes.{IsStill, Scene, not-ruled, not-written, parent-not-written}
use Rattle.p9_fixed_laws.proofs.Nodes.{still}
use Rattle.p9_fixed_laws.proofs.Opens.{opens_no_write, removes_not}
use Rattle.p9_fixed_laws.proofs.Opens.{truncates_not}
use Rattle.p9_fixed_laws.proofs.Places.{FixedPlace, child_among_fixed, file_still, here_fixed}
use Rattle.p9_fixed_laws.proofs.Places.{root_fixed}
use Rattle.p9_fixed_laws.proofs.Walks.{LeadsOn, walk_along, walked_along}

-- one file's time of last access
abbrev pub IsTouch : List ForestChange → Type 0
IsTouch changes = (at : NodeRef) × (now : ℕ) × (changes ≡ EditNode at (Touch now) ∷ [])

-- nothing is changed, or the read of a file has set its time of last access; and the fids are fixed
pub record IsLeft (scene : Scene) (reads : Bool) (o : Outcome) : Type 0 where
  pub changes : (o.changes ≡ []) ⊎ ((reads ≡ true) × IsTouch o.changes)
  pub fids : HasFixedFids scene.sealed scene.setting o.session

-- the first member that permits creation is one of them
pub permitting-one : (P : Member → Type 0) (ms : List Member) → AllByRecursion P ms → (m : Member)
    → permitting ms ≡ Some m → P m
permitting-one P [] all m e = not_some m e
permitting-one P (x ∷ xs) all m e = go x.create e (permitting-one P xs all.1 m)
  where
    go : (b : Bool) → (if b then Some x else permitting xs) ≡ Some m
        → (permitting xs ≡ Some m → P m) → P m
    go true t later = subst P (some_same x m t) all.0
    go false t later = later t

-- where there is no fault in a chain, there is none in its parts
or-none : {X : Type 0} (a b : Option X) → option_or a b ≡ None → (a ≡ None) × (b ≡ None)
or-none None b e = (refl, e)
or-none (Some x) b e = let no : Some x ≡ None = e in absurd (cc)

-- what each value is refused is not there
none-asked : {X Y : Type 0} (f : X → Option Y) (o : Option X) → ((x : X) → f x ≡ None → ⊥)
    → option_and_then f o ≡ None → o ≡ None
none-asked f None refused e = refl
none-asked f (Some x) refused e = absurd (refused x e)

refused-name : (a b c d : Bool) → c ≡ false
    → ◌≡◌ {A = Option Fault} (if a then Some IsRoot else if not b then Some BadFileName
    else if not c then Some PermissionDenied else if d then Some FileExists else None) None → ⊥
refused-name true b c d e t = let no : Some IsRoot ≡ None = t in absurd (cc)
refused-name false false c d e t = let no : Some BadFileName ≡ None = t in absurd (cc)
refused-name false true true d e t = let no : true ≡ false = e in absurd (cc)
refused-name false true false d e t = let no : Some PermissionDenied ≡ None = t in absurd (cc)

refused-length : (a b c : Bool) → b ≡ false
    → ◌≡◌ {A = Option Fault} (if a then Some IsDirectory else if not b then Some PermissionDenied
    else if c then Some FileTooLarge else None) None → ⊥
refused-length true b c e t = let no : Some IsDirectory ≡ None = t in absurd (cc)
refused-length false true c e t = let no : true ≡ false = e in absurd (cc)
refused-length false false c e t = let no : Some PermissionDenied ≡ None = t in absurd (cc)

module _ (scene : Scene) (input : IsFixedInput scene.sealed scene.setting)
    (table : IsTable scene.setting.table) (ordered : Ordered scene.forest) where
  -- Walks.

  module _ (user : List ℕ) (listed : is_listed_user scene.setting.users user ≡ true) where
    leads_on : LeadsOn scene.setting scene.forest user (FixedPlace scene input)
    leads_on trail name r all found =
        child_among_fixed scene input ordered user listed name
        (members_of (here trail) scene.setting.table) (here_fixed scene input trail all) r found

  module _ (session : Session) (fids : FixedFids scene session.fids) where
    its-own : (fid : ℕ) (v : Fid) → fid_at fid session.fids ≡ Some v → FixedFid scene v
    its-own = found scene session.fids fids

    fids-without : (fid : ℕ) → FixedFids scene (without fid session).fids
    fids-without fid = each-remove (FixedFid scene) (is_at (nat_cmp fid)) session.fids fids

    fids-changed : (fid : ℕ) (f : Fid → Fid) (v : Fid) → fid_at fid session.fids ≡ Some v
        → FixedFid scene (f v) → FixedFids scene (changed_fid fid f session.fids)
    fids-changed fid f v at new =
        rw at (each-set (FixedFid scene) (is_at (nat_cmp fid)) session.fids (f v) new fids)

    quiet : (reads : Bool) (left : Session) (reply : RMessage) → FixedFids scene left.fids
        → IsLeft scene reads (record { changes = []; session = left; reply = reply })
    quiet reads left reply its = record { changes = inl refl; fids = its }

    shut-fid : (user : List ℕ) (trail : List NodeRef)
        → is_listed_user scene.setting.users user ≡ true
        → AllByRecursion (FixedPlace scene input) trail
        → FixedFid scene (record { user = user; trail = trail; opened = None })
    shut-fid user trail listed places = record {
      listed = listed;
      places = places;
      reads = λ o is. not_opened None o refl is;
      stays = λ o is. not_opened None o refl is;
    }

    left-version : (now msize : ℕ) (o : Outcome)
        → VersionDone scene.setting scene.forest session now msize o
        → IsLeft scene false o
    left-version now msize o done = elim done.is [
      | inl is ↦ subst (IsLeft scene false) (sym is)
          (record { changes = inl (ends-nothing scene now session.fids fids); fids = tt })
      | inr is ↦ subst (IsLeft scene false) (sym is)
          (quiet false session _ fids)
    ]

    left-attach : (fid : ℕ) (uname aname : List ℕ) (o : Outcome)
        → AttachDone scene.setting scene.forest session fid uname aname o
        → IsLeft scene false o
    left-attach fid uname aname o done =
        let listed = found-listed uname scene.setting.users done.user done.listed in
        let root = root_fixed scene.sealed scene.setting input in
        let along =
        walk_along scene.setting scene.forest done.user (FixedPlace scene input)
        (leads_on done.user listed) (root_place ∷ []) (cleaned_elements aname) (root, tt) done.trail
        done.walked in
        subst (IsLeft scene false) (sym done.is)
        (quiet false _ _
        (each-insert (FixedFid scene) nat_cmp session.fids fid _
        (shut-fid done.user (here done.trail ∷ []) listed
        (here_fixed scene input done.trail along, tt)) fids))

    left-walk : (fid newfid : ℕ) (names : List (List ℕ)) (o : Outcome)
        → WalkDone scene.setting scene.forest session fid newfid names o
        → IsLeft scene false o
    left-walk fid newfid names o done = elim done.is [
      | inl is ↦ subst (IsLeft scene false) (sym is)
          (quiet false _ _ fids-moved)
      | inr is ↦ subst (IsLeft scene false) (sym is)
          (quiet false session _ fids)
    ]
      where
        v : Fid
        v = done.v

        its : FixedFid scene done.v
        its = its-own fid done.v done.found

        trail : List NodeRef
        trail = (walked scene.setting scene.forest done.v.user done.v.trail names).trail

        along : AllByRecursion (FixedPlace scene input)
            (walked scene.setting scene.forest done.v.user done.v.trail names).trail
        along =
            walked_along scene.setting scene.forest done.v.user (FixedPlace scene input)
            (leads_on done.v.user its.listed) done.v.trail names its.places

        fids-moved : FixedFids scene (moved fid newfid done.v
            (walked scene.setting scene.forest done.v.user done.v.trail names).trail session).fids
        fids-moved = go (newfid == fid) refl
          where
            go : (b : Bool) → (newfid == fid) ≡ b
                → FixedFids scene (moved fid newfid done.v
                (walked scene.setting scene.forest done.v.user done.v.trail names).trail session).fids
            go true e =
                rw e (fids-changed fid (trailed _) done.v done.found (record {
                  listed = its.listed;
                  places = along;
                  reads = its.reads;
                  stays = its.stays;
                }))
            go false e =
                rw e (each-insert (FixedFid scene) nat_cmp session.fids newfid _
                (shut-fid done.v.user _ its.listed along) fids)

    left-open : (now fid : ℕ) (o : Outcome)
        → OpenDone scene.setting scene.forest session now fid o → IsLeft scene false o
    left-open now fid o done =
        let its = its-own fid done.v done.found in
        let file = file_still scene input done.v done.n table its done.there in
        let at = fid_ref scene.setting.table done.v in
        let uncut : done.opening.truncates ≡ false =
        truncates_not scene done.v.user its.listed at done.n file done.opening done.may in
        subst (IsLeft scene false) (sym done.is) (record {
          changes = inl (rw uncut refl);
          fids =
              fids-changed fid (opened_as (newly_opened done.opening)) done.v done.found (record {
                listed = its.listed;
                places = its.places;
                reads =
                    λ p is. let same : newly_opened done.opening ≡ p = some_same _ p is in
                    subst (λ (q : Opened). writes q.mode ≡ false) same
                    (opens_no_write scene done.v.user its.listed at done.n file done.opening done.may);
                stays =
                    λ p is. let same : newly_opened done.opening ≡ p = some_same _ p is in
                    subst (λ (q : Opened). q.remove_on_close ≡ false) same
                    (removes_not scene done.v.user its.listed at done.n file done.opening done.may);
              });
        })

    left-create : (now fid : ℕ) (name : List ℕ) (perm : ℕ) (o : Outcome)
        → CreateDone scene.setting scene.forest session now fid name perm o
        → IsLeft scene false o
    left-create now fid name perm o done =
        let its = its-own fid done.v done.found in
        let member =
        permitting-one (λ (m : Member). IsFixedMember scene.sealed scene.setting m.node)
        (members_of (here done.v.trail) scene.setting.table)
        (here_fixed scene input done.v.trail its.places) done.member done.chosen in
        clash (may (who_of scene.setting done.v.user) done.dir to_write) done.can.writes
        (not-written scene done.v.user its.listed done.member.node done.dir
        (still scene done.member.node done.dir member done.there))

    abbrev on_file : (fid : ℕ) → Bool
    on_file fid = is_on (λ n. not (is_dir n)) scene.setting scene.forest session fid

    left-read : (now fid offset count : ℕ) (o : Outcome)
        → ReadDone scene.setting scene.forest session now fid offset count o
        → IsLeft scene (on_file fid) o
    left-read now fid offset count o done =
        let its = its-own fid done.v done.found in
        let opens = readable-is done.v.opened done.opened done.held in
        elim done.is [
          | inl file ↦ subst (IsLeft scene (on_file fid)) (sym file.1) (record {
            changes =
                inr (
                  rw (done.found, done.there, file.0) refl,
                  (fid_ref scene.setting.table done.v, now, refl),
                );
            fids = fids;
          })
          | inr dir ↦ subst (IsLeft scene (on_file fid)) (sym dir.1)
              (quiet (on_file fid) _ _
              (fids-changed fid _ done.v done.found (record {
                listed = its.listed;
                places = its.places;
                reads =
                    λ p is. subst (λ (q : Opened). writes q.mode ≡ false) (some_same _ p is)
                    (its.reads done.opened opens);
                stays =
                    λ p is. subst (λ (q : Opened). q.remove_on_close ≡ false) (some_same _ p is)
                    (its.stays done.opened opens);
              })))
        ]

    left-write : (now fid offset : ℕ) (bytes : List ℕ) (o : Outcome)
        → WriteDone scene.setting scene.forest session now fid offset bytes o
        → IsLeft scene false o
    left-write now fid offset bytes o done =
        clash (is_writable done.v) done.held
        (not-writable scene done.v (its-own fid done.v done.found))

    left-clunk : (now fid : ℕ) (o : Outcome)
        → ClunkDone scene.setting scene.forest session now fid o → IsLeft scene false o
    left-clunk now fid o done =
        subst (IsLeft scene false) (sym done.is) (record {
          changes = inl (end-nothing scene now done.v (its-own fid done.v done.found));
          fids = fids-without fid;
        })

    left-removal : (now fid : ℕ) (v : Fid) → FixedFid scene v → (answer : Answer)
        → OnDone (RemovalDone scene.setting scene.forest (without fid session) now v) answer
        → IsLeft scene false (outcome_of (without fid session) answer)
    left-removal now fid v its (Err fault) removed =
        quiet false (without fid session) (Rerror (text_of fault)) (fids-without fid)
    left-removal now fid v its (Ok o) removed =
        let done =
        done-is (RemovalDone scene.setting scene.forest (without fid session) now v) (Ok o) o removed
        refl in
        let at = fid_ref scene.setting.table v in
        clash (may_write_parent (who_of scene.setting v.user) scene.forest at done.n) done.may
        (parent-not-written scene v.user its.listed at done.n
        (file_still scene input v done.n table its done.there))

    left-remove : (now fid : ℕ) (o : Outcome)
        → RemoveDone scene.setting scene.forest session now fid o → IsLeft scene false o
    left-remove now fid o done =
        subst (IsLeft scene false) (sym done.is)
        (left-removal now fid done.v (its-own fid done.v done.found)
        (removal scene.setting scene.forest (without fid session) now done.v)
        (removal-done scene.setting scene.forest (without fid session) now done.v))

    left-stat : (fid : ℕ) (o : Outcome) → StatDone scene.setting scene.forest session fid o
        → IsLeft scene false o
    left-stat fid o done =
        subst (IsLeft scene false) (sym done.is) (quiet false session _ fids)

    -- a wstat that no test refuses touches nothing
    touches-nothing : (v : Fid) (n : Node) (t : Touched) → FixedFid scene v
        → IsStill scene (fid_ref scene.setting.table v) n
        → wstat_fault (who_of scene.setting v.user) scene.forest (fid_ref scene.setting.table v) n t
        ≡ None
        → is_any t ≡ false
    touches-nothing v n t its file none =
        let who = who_of scene.setting v.user in
        let at = fid_ref scene.setting.table v in
        let ruled : rules who n ≡ false = not-ruled scene v.user its.listed at n file in
        let first = or-none (option_and_then (mode_fault n) t.mode) _ none in
        let second = or-none (option_and_then (name_fault who scene.forest at n) t.name) _ first.1 in
        let third = or-none (option_and_then (length_fault who n) t.length) _ second.1 in
        let fourth = or-none (option_and_then (ruling_fault who n) t.mode) _ third.1 in
        let fifth = or-none (option_and_then (ruling_fault who n) t.mtime) _ fourth.1 in
        let name : t.name ≡ None =
        none-asked (name_fault who scene.forest at n) t.name
        (λ name free. refused-name (is_none n.parent) (is_name name)
        (may_write_parent who scene.forest at n) (has_sibling scene.forest at n name)
        (parent-not-written scene v.user its.listed at n file) free) second.0 in
        let length : t.length ≡ None =
        none-asked (length_fault who n) t.length
        (λ size free. refused-length (is_dir n) (may who n to_write) _
        (not-written scene v.user its.listed at n file) free) third.0 in
        let mode : t.mode ≡ None =
        none-asked (ruling_fault who n) t.mode
        (λ bits free. clash (rules who n) (no_if PermissionDenied (rules who n) free) ruled) fourth.0
        in
        let mtime : t.mtime ≡ None =
        none-asked (ruling_fault who n) t.mtime
        (λ time free. clash (rules who n) (no_if PermissionDenied (rules who n) free) ruled) fifth.0
        in
        let gid : t.gid ≡ None =
        none-asked (gid_fault who n) t.gid
        (λ gid free. clash (rules who n) (ruling n gid who.user
        (no_if PermissionDenied (may_give who n gid) free)) ruled) fifth.1 in
        rw (mode, name, length, mtime, gid) refl
      where
        -- who gives a file to a group owns it or leads its group
        ruling : (n : Node) (gid user : List ℕ) → may_give (who_of scene.setting user) n gid ≡ true
            → rules (who_of scene.setting user) n ≡ true
        ruling n gid user gives =
            elim (or_cases
            (bytes_eq n.uid user && is_member scene.setting.groups gid user)
            (leads scene.setting.groups n.gid user && leads scene.setting.groups gid user) gives) [
              | inl owner ↦ or_left (bytes_eq n.uid user) (leads scene.setting.groups n.gid user)
                  (and_parts (bytes_eq n.uid user) _ owner).0
              | inr leader ↦ or_right (bytes_eq n.uid user) (leads scene.setting.groups n.gid user)
                  (and_parts (leads scene.setting.groups n.gid user) _ leader).0
            ]

    left-wstat : (now fid : ℕ) (stat : StatFields) (o : Outcome)
        → WstatDone scene.setting scene.forest session now fid stat o
        → IsLeft scene false o
    left-wstat now fid stat o done =
        let its = its-own fid done.v done.found in
        let at = fid_ref scene.setting.table done.v in
        let t = touched_of (stat_of at done.n) stat in
        let none : is_any t ≡ false =
        touches-nothing done.v done.n t its
        (file_still scene input done.v done.n table its done.there) done.fits in
        subst (IsLeft scene false) (sym done.is)
        (record { changes = inl (rw none refl); fids = fids })

    left-answer : (sessions : List SessionRow) (now : ℕ) (m : TMessage)
        → OnDone (IsLeft scene (reads_file scene.setting scene.forest session m))
        (message_answer scene.setting scene.forest sessions session now m)
    left-answer sessions now (Tversion msize version) =
        done-map (VersionDone scene.setting scene.forest session now msize) _ _
        (left-version now msize)
        (version-done scene.setting scene.forest session now msize version)
    left-answer sessions now (Tauth afid uname aname) = done-err _ _ refl
    left-answer sessions now (Tattach fid afid uname aname) =
        done-map (AttachDone scene.setting scene.forest session fid uname aname) _ _
        (left-attach fid uname aname)
        (attach-done scene.setting scene.forest session fid afid uname aname)
    left-answer sessions now (Tflush oldtag) =
        done-ok _ _ (quiet false session _ fids)
    left-answer sessions now (Twalk fid newfid names) =
        done-map (WalkDone scene.setting scene.forest session fid newfid names) _ _
        (left-walk fid newfid names)
        (walk-done scene.setting scene.forest session fid newfid names)
    left-answer sessions now (Topen fid mode) =
        done-map (OpenDone scene.setting scene.forest session now fid) _ _
        (left-open now fid)
        (open-done scene.setting scene.forest session sessions now fid mode)
    left-answer sessions now (Tcreate fid name perm mode) =
        done-map (CreateDone scene.setting scene.forest session now fid name perm) _ _
        (left-create now fid name perm)
        (create-done scene.setting scene.forest session now fid name perm mode)
    left-answer sessions now (Tread fid offset count) =
        done-map (ReadDone scene.setting scene.forest session now fid offset count) _ _
        (left-read now fid offset count)
        (read-done scene.setting scene.forest session now fid offset count)
    left-answer sessions now (Twrite fid offset bytes) =
        done-map (WriteDone scene.setting scene.forest session now fid offset bytes) _ _
        (left-write now fid offset bytes)
        (write-done scene.setting scene.forest session now fid offset bytes)
    left-answer sessions now (Tclunk fid) =
        done-map (ClunkDone scene.setting scene.forest session now fid) _ _
        (left-clunk now fid)
        (clunk-done scene.setting scene.forest session now fid)
    left-answer sessions now (Tremove fid) =
        done-map (RemoveDone scene.setting scene.forest session now fid) _ _
        (left-remove now fid)
        (remove-done scene.setting scene.forest session now fid)
    left-answer sessions now (Tstat fid) =
        done-map (StatDone scene.setting scene.forest session fid) _ _
        (left-stat fid)
        (stat-done scene.setting scene.forest session fid)
    left-answer sessions now (Twstat fid stat) =
        done-map (WstatDone scene.setting scene.forest session now fid stat) _ _
        (left-wstat now fid stat)
        (wstat-done scene.setting scene.forest session now fid stat)

    -- the answer to a frame
    pub frame-left : (sessions : List SessionRow) (now : ℕ) (frame : List ℕ)
        → OnDone (IsLeft scene (option_map_or (λ m. reads_file scene.setting scene.forest session m.1)
        (t_message_of frame) false))
        (frame_answer scene.setting scene.forest sessions session now frame)
    frame-left sessions now frame =
        done-then (IsLeft scene (option_map_or (λ m. reads_file scene.setting scene.forest session m.1)
        (t_message_of frame) false))
        (request_of session frame)
        (message_answer scene.setting scene.forest sessions session now) (request_of-of session frame)
        (λ m is. subst (λ o. OnDone (IsLeft scene (option_map_or
        (λ t. reads_file scene.setting scene.forest session t.1) o false))
        (message_answer scene.setting scene.forest sessions session now m))
        (sym (request-is session frame m is).read) (left-answer sessions now m))
