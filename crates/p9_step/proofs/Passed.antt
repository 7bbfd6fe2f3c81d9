-- What an answer says: an outcome all that was tested, in the order of the tests, and the outcome
-- itself; a refusal, that it is the fault of a test.
-- What is proved of outcomes follows from this, and no other proof goes through the tests.
use Rattle.p9_clean.specs.Path.{cleaned_elements}
use Rattle.p9_step.proofs.Refused.{walk-of}
use Rattle.p9_step.specs.Attach.{attach_walk, attached_at}
use Rattle.p9_step.specs.State.{who_of}
use Rattle.std.proofs.Common.{Bool, List, None, Ok, Option, Some, [], arith, false, inl, inr}
use Rattle.std.proofs.Common.{is_some, length, refl, true, ℕ, ◌+◌, ◌<◌, ◌||◌, ◌∷◌, ◌≡◌, ◌≤◌, ◌⊎◌}
use Rattle.std.proofs.lemmas.Bool.Decides.{nat_tests}
use Rattle.std.specs.List.{flat_map}
use Rattle.std.specs.Prelude.{codes, is_none, min, nat_le, not}
use Rattle.p9_base.specs.Mode.{is_dir as is_dir_mode}
use Rattle.p9_base.specs.Name.{is_name}
use Rattle.p9_base.specs.Mode.{mode_of}
use Rattle.p9_base.specs.declared.fault.Fault.{Fault}
use Rattle.p9_base.specs.declared.mode.Mode.{Mode}
use Rattle.p9_base.specs.declared.node_ref.NodeRef.{NodeRef}
use Rattle.p9_base.specs.declared.qid.Qid.{Qid}
use Rattle.p9_tree.specs.Bytes.{file_max, read_from}
use Rattle.p9_tree.specs.Forest.{child_in, has_children_of, next_of, node_of}
use Rattle.p9_tree.specs.Node.{Node, is_dir}
use Rattle.p9_tree.specs.Server.{Server, next_max}
use Rattle.p9_space.specs.Place.{file_of, file_ref, root_place}
use Rattle.p9_space.specs.Rights.{may, to_write}
use Rattle.p9_table.specs.declared.row.Member.{Member}
use Rattle.p9_space.specs.Table.{members_of}
use Rattle.p9_space.specs.Trail.{here, places_max}
use Rattle.p9_wire.specs.Frame.{msize_max}
use Rattle.p9_wire.specs.Message.{Rattach, Rclunk, Ropen, Rread, Rremove, Rstat, Rversion, Rwalk}
use Rattle.p9_wire.specs.Stat.{StatFields}
use Rattle.p9_wire.specs.Message.{Rwrite, Rwstat}
use Rattle.p9_fids.specs.Fid.{Fid, fid_at, put_fault}
use Rattle.p9_fids.specs.declared.opened.Opened.{Opened}
use Rattle.p9_step.specs.Answer.{Outcome, outcome_of}
use Rattle.p9_step.specs.Attach.{attach_answer, attached, listed_user}
use Rattle.p9_step.specs.ForestChange.{EditNode, Mark, Overwrite, Touch}
use Rattle.p9_step.specs.Clunk.{clunk_answer, without}
use Rattle.p9_step.specs.Create.{create_answer, creation, permitting}
use Rattle.p9_step.specs.End.{on_end, on_ends, taken_out}
use Rattle.p9_step.specs.Listing.{UnionEntry, listing_behind}
use Rattle.p9_step.specs.Open.{may_open, open_answer, opened_session, truncated, truncation}
use Rattle.p9_step.specs.Opening.{is_plain_read}
use Rattle.p9_step.specs.Qid.{qid_of, stat_of}
use Rattle.p9_step.specs.Read.{cursor_at, entry_bytes, fitting, entries_or_fault, listed_session}
use Rattle.p9_step.specs.Read.{read_answer, read_dir, read_file, readable}
use Rattle.p9_step.specs.Remove.{removal, remove_answer}
use Rattle.p9_step.specs.Rights.{may_write_parent}
use Rattle.p9_step.specs.Stat.{stat_answer}
use Rattle.p9_step.specs.State.{Session, SessionRow, Setting, fid_file, fid_ref, iounit_of}
use Rattle.p9_step.specs.Version.{begun, is_known, msize_min, not_spoken, version_answer}
use Rattle.p9_step.specs.Walk.{ended_walk, moved, newfid_fault, walk_answer, walked}
use Rattle.p9_step.specs.Write.{is_writable, write_answer, write_file, write_offset}
use Rattle.p9_step.specs.Wstat.{rewriting, touched_of, wstat_answer, wstat_fault}
use Rattle.p9_step.specs.declared.opening.Opening.{Opening}
use Rattle.p9_step.proofs.Done.{OnDone, done-err, done-given, done-if, done-need, done-ok}
use Rattle.p9_step.proofs.Done.{done-then, done-unless}
use Rattle.p9_step.proofs.Refused.{IfFault, newfid_fault-of, put_fault-of, walked-of}
use Rattle.p9_step.proofs.Refused.{wstat_fault-of}

-- a version
pub record VersionDone (setting : Setting) (forest : List Server) (session : Session)
    (now msize : ℕ) (o : Outcome) : Type 0 where
  pub enough : nat_le msize_min msize ≡ true
  pub is : (o ≡ record {
    changes = on_ends setting.table now forest session.fids;
    session = record { msize = Some (min msize msize_max); fids = [] };
    reply = Rversion (min msize msize_max) (codes "9P2000");
  })
      ⊎ (o ≡ record {
        changes = [];
        session = session;
        reply = Rversion (min msize msize_max) (codes "unknown");
      })

-- an attach
pub record AttachDone (setting : Setting) (forest : List Server) (session : Session) (fid : ℕ)
    (uname aname : List ℕ) (o : Outcome) : Type 0 where
  pub user : List ℕ
  pub trail : List NodeRef
  pub file : Node
  pub free : put_fault fid session.fids ≡ None
  pub listed : listed_user uname setting.users ≡ Some user
  pub root : is_some (file_of root_place setting.table forest) ≡ true
  pub walked : attach_walk setting forest user aname ≡ Ok trail
  pub there : file_of (here trail) setting.table forest ≡ Some file
  pub directory : is_dir file ≡ true
  pub is : o ≡ record {
    changes = [];
    session = attached fid user (here trail) session;
    reply = Rattach (qid_of (file_ref (here trail) setting.table) file);
  }

-- a walk, to its end or up to a step that is refused
pub record WalkDone (setting : Setting) (forest : List Server) (session : Session)
    (fid newfid : ℕ) (names : List (List ℕ)) (o : Outcome) : Type 0 where
  pub v : Fid
  pub found : fid_at fid session.fids ≡ Some v
  pub shut : v.opened ≡ None
  pub free : newfid_fault fid newfid session.fids ≡ None
  pub is : (o ≡ record {
    changes = [];
    session = moved fid newfid v (walked setting forest v.user v.trail names).trail session;
    reply = Rwalk (walked setting forest v.user v.trail names).qids;
  })
      ⊎ (o ≡ record {
        changes = [];
        session = session;
        reply = Rwalk (walked setting forest v.user v.trail names).qids;
      })

-- an open
pub record OpenDone (setting : Setting) (forest : List Server) (session : Session) (now fid : ℕ)
    (o : Outcome) : Type 0 where
  pub v : Fid
  pub n : Node
  pub opening : Opening
  pub found : fid_at fid session.fids ≡ Some v
  pub shut : v.opened ≡ None
  pub there : fid_file setting.table forest v ≡ Some n
  pub plain : (not (is_dir n) || is_plain_read opening) ≡ true
  pub may : may_open (who_of setting v.user) forest (fid_ref setting.table v) n opening ≡ true
  pub is : o ≡ record {
    changes = truncation v.user now (fid_ref setting.table v) n opening;
    session = opened_session fid opening session;
    reply =
        Ropen (qid_of (fid_ref setting.table v) (truncated v.user now n opening)) (iounit_of session);
  }

-- what holds of a create that no test of its directory refuses
pub record CanCreate (setting : Setting) (forest : List Server) (v : Fid) (name : List ℕ)
    (target : NodeRef) (dir : Node) : Type 0 where
  pub into : is_dir dir ≡ true
  pub writes : may (who_of setting v.user) dir to_write ≡ true
  pub free : child_in target name forest ≡ None
  pub room : next_of target.server forest < next_max
  pub short : length v.trail < places_max

-- a create
pub record CreateDone (setting : Setting) (forest : List Server) (session : Session) (now fid : ℕ)
    (name : List ℕ) (perm : ℕ) (o : Outcome) : Type 0 where
  pub v : Fid
  pub opening : Opening
  pub asked : Mode
  pub member : Member
  pub dir : Node
  pub found : fid_at fid session.fids ≡ Some v
  pub shut : v.opened ≡ None
  pub valid : is_name name ≡ true
  pub means : mode_of perm ≡ Some asked
  pub plain : (not (is_dir_mode asked) || is_plain_read opening) ≡ true
  pub chosen : permitting (members_of (here v.trail) setting.table) ≡ Some member
  pub there : node_of member.node forest ≡ Some dir
  pub can : CanCreate setting forest v name member.node dir
  pub is : Ok o ≡ creation forest session now fid v member.node dir name asked opening

-- a read, of a file or of a directory
pub record ReadDone (setting : Setting) (forest : List Server) (session : Session)
    (now fid offset count : ℕ) (o : Outcome) : Type 0 where
  pub v : Fid
  pub opened : Opened
  pub n : Node
  pub found : fid_at fid session.fids ≡ Some v
  pub held : readable v.opened ≡ Some opened
  pub there : fid_file setting.table forest v ≡ Some n
  pub is : ((is_dir n ≡ false) × (o ≡ record {
    changes = EditNode (fid_ref setting.table v) (Touch now) ∷ [];
    session = session;
    reply = Rread (read_from offset (min count (iounit_of session)) n.bytes);
  }))
      ⊎ ((left : List UnionEntry)
      × (o ≡ record {
        changes = [];
        session =
            listed_session fid opened offset (cursor_at offset opened)
            (fitting (min count (iounit_of session)) left) session;
        reply = Rread (flat_map entry_bytes (fitting (min count (iounit_of session)) left));
      }))

-- a write, of no bytes or of some
pub record WriteDone (setting : Setting) (forest : List Server) (session : Session)
    (now fid offset : ℕ) (bytes : List ℕ) (o : Outcome) : Type 0 where
  pub v : Fid
  pub n : Node
  pub found : fid_at fid session.fids ≡ Some v
  pub held : is_writable v ≡ true
  pub there : fid_file setting.table forest v ≡ Some n
  pub is : ((bytes ≡ []) × (o ≡ record { changes = []; session = session; reply = Rwrite 0 }))
      ⊎ ((write_offset offset n + length bytes ≤ file_max) × (o ≡ record {
        changes =
            EditNode (fid_ref setting.table v) (Overwrite (write_offset offset n) bytes)
            ∷ EditNode (fid_ref setting.table v) (Mark v.user now) ∷ [];
        session = session;
        reply = Rwrite (length bytes);
      }))

-- a clunk
pub record ClunkDone (setting : Setting) (forest : List Server) (session : Session) (now fid : ℕ)
    (o : Outcome) : Type 0 where
  pub v : Fid
  pub found : fid_at fid session.fids ≡ Some v
  pub is : o ≡ record {
    changes = on_end setting.table now forest v;
    session = without fid session;
    reply = Rclunk;
  }

-- a removal, in a session that the fid has left
pub record RemovalDone (setting : Setting) (forest : List Server) (left : Session) (now : ℕ)
    (v : Fid) (o : Outcome) : Type 0 where
  pub n : Node
  pub there : fid_file setting.table forest v ≡ Some n
  pub inner : is_some n.parent ≡ true
  pub may : may_write_parent (who_of setting v.user) forest (fid_ref setting.table v) n ≡ true
  pub empty : has_children_of (fid_ref setting.table v) forest ≡ false
  pub is : o ≡ record {
    changes = taken_out v.user now (fid_ref setting.table v) n;
    session = left;
    reply = Rremove;
  }

-- a remove, whose removal is done or refused
pub record RemoveDone (setting : Setting) (forest : List Server) (session : Session) (now fid : ℕ)
    (o : Outcome) : Type 0 where
  pub v : Fid
  pub found : fid_at fid session.fids ≡ Some v
  pub is : o ≡ outcome_of (without fid session)
      (removal setting forest (without fid session) now v)

-- a stat
pub record StatDone (setting : Setting) (forest : List Server) (session : Session) (fid : ℕ)
    (o : Outcome) : Type 0 where
  pub v : Fid
  pub n : Node
  pub found : fid_at fid session.fids ≡ Some v
  pub there : fid_file setting.table forest v ≡ Some n
  pub is : o ≡ record {
    changes = [];
    session = session;
    reply = Rstat (stat_of (fid_ref setting.table v) n);
  }

-- a wstat
pub record WstatDone (setting : Setting) (forest : List Server) (session : Session) (now fid : ℕ)
    (wanted : StatFields) (o : Outcome) : Type 0 where
  pub v : Fid
  pub n : Node
  pub found : fid_at fid session.fids ≡ Some v
  pub there : fid_file setting.table forest v ≡ Some n
  pub fits : wstat_fault (who_of setting v.user) forest (fid_ref setting.table v) n
      (touched_of (stat_of (fid_ref setting.table v) n) wanted) ≡ None
  pub is : o ≡ record {
    changes =
        rewriting v.user now (fid_ref setting.table v) n
        (touched_of (stat_of (fid_ref setting.table v) n) wanted);
    session = session;
    reply = Rwstat;
  }

pub is_none-None : {X : Type 0} (o : Option X) → is_none o ≡ true → o ≡ None
is_none-None None e = refl
is_none-None (Some x) e = cc

not-true : (b : Bool) → not b ≡ true → b ≡ false
not-true true e = cc
not-true false e = refl

module _ (setting : Setting) (forest : List Server) (session : Session) where
  pub version-done : (now msize : ℕ) (version : List ℕ)
      → OnDone (VersionDone setting forest session now msize)
      (version_answer setting forest session now msize version)
  version-done now msize version =
      done-need (VersionDone setting forest session now msize) _ _ _ refl
      (λ enough. done-if (VersionDone setting forest session now msize) (is_known version)
      (begun setting forest session now (min msize msize_max))
      (not_spoken session (min msize msize_max))
      (λ known. done-ok (VersionDone setting forest session now msize) _ (record {
        enough = enough;
        is = inl refl;
      }))
      (λ other. done-ok (VersionDone setting forest session now msize) _ (record {
        enough = enough;
        is = inr refl;
      })))

  pub attach-done : (fid afid : ℕ) (uname aname : List ℕ)
      → OnDone (AttachDone setting forest session fid uname aname)
      (attach_answer setting forest session fid afid uname aname)
  attach-done fid afid uname aname =
      done-unless (AttachDone setting forest session fid uname aname) _ _
      (put_fault-of fid session.fids)
      (λ free. done-need (AttachDone setting forest session fid uname aname) _ _ _ refl
      (λ none. done-given (AttachDone setting forest session fid uname aname) _ _ _ refl
      (λ user listed. done-need (AttachDone setting forest session fid uname aname) _ _ _ refl
      (λ named. done-need (AttachDone setting forest session fid uname aname) _ _ _ refl
      (λ root. done-then (AttachDone setting forest session fid uname aname)
      (attach_walk setting forest user aname)
      (λ trail. attached_at setting forest session fid user (here trail))
      (walk-of forest setting.table (Some (who_of setting user)) (root_place ∷ [])
      (cleaned_elements aname))
      (λ trail walked. done-given (AttachDone setting forest session fid uname aname) _ _ _ refl
      (λ file there. done-need (AttachDone setting forest session fid uname aname) _ _ _ refl
      (λ directory. done-ok (AttachDone setting forest session fid uname aname) _ (record {
        user = user;
        trail = trail;
        file = file;
        free = free;
        listed = listed;
        root = root;
        walked = walked;
        there = there;
        directory = directory;
        is = refl;
      })))))))))

  pub walk-done : (fid newfid : ℕ) (names : List (List ℕ))
      → OnDone (WalkDone setting forest session fid newfid names)
      (walk_answer setting forest session fid newfid names)
  walk-done fid newfid names =
      done-given (WalkDone setting forest session fid newfid names) _ _ _ refl
      (λ v found. done-need (WalkDone setting forest session fid newfid names) _ _ _ refl
      (λ shut. done-unless (WalkDone setting forest session fid newfid names) _ _
      (newfid_fault-of fid newfid session.fids) (λ free.
      ended v found (is_none-None v.opened shut) free
      (walked setting forest v.user v.trail names).stopped
      (walked-of setting forest v.user v.trail names)
      (walked setting forest v.user v.trail names).qids refl)))
    where
      ended : (v : Fid) → fid_at fid session.fids ≡ Some v → v.opened ≡ None
          → newfid_fault fid newfid session.fids ≡ None → (stopped : Option Fault)
          → IfFault stopped → (qids : List Qid)
          → (walked setting forest v.user v.trail names).qids ≡ qids
          → OnDone (WalkDone setting forest session fid newfid names)
          (ended_walk fid newfid v session (walked setting forest v.user v.trail names).trail
          stopped
          qids)
      ended v found shut free None of qids same =
          done-ok (WalkDone setting forest session fid newfid names) _ (record {
            v = v;
            found = found;
            shut = shut;
            free = free;
            is = inl (rw same refl);
          })
      ended v found shut free (Some fault) of [] same =
          done-err (WalkDone setting forest session fid newfid names) fault (of fault refl)
      ended v found shut free (Some fault) of (qid ∷ qids) same =
          done-ok (WalkDone setting forest session fid newfid names) _ (record {
            v = v;
            found = found;
            shut = shut;
            free = free;
            is = inr (rw same refl);
          })

  pub open-done : (sessions : List SessionRow) (now fid bits : ℕ)
      → OnDone (OpenDone setting forest session now fid)
      (open_answer setting forest sessions session now fid bits)
  open-done sessions now fid bits =
      done-given (OpenDone setting forest session now fid) _ _ _ refl
      (λ v found. done-need (OpenDone setting forest session now fid) _ _ _ refl
      (λ shut. done-given (OpenDone setting forest session now fid) _ _ _ refl
      (λ n there. done-given (OpenDone setting forest session now fid) _ _ _ refl
      (λ opening known. done-need (OpenDone setting forest session now fid) _ _ _ refl
      (λ plain. done-need (OpenDone setting forest session now fid) _ _ _ refl
      (λ may. done-need (OpenDone setting forest session now fid) _ _ _ refl (λ free.
      done-ok (OpenDone setting forest session now fid) _ (record {
        v = v;
        n = n;
        opening = opening;
        found = found;
        shut = is_none-None v.opened shut;
        there = there;
        plain = plain;
        may = may;
        is = refl;
      }))))))))

  pub create-done : (now fid : ℕ) (name : List ℕ) (perm bits : ℕ)
      → OnDone (CreateDone setting forest session now fid name perm)
      (create_answer setting forest session now fid name perm bits)
  create-done now fid name perm bits =
      done-given (CreateDone setting forest session now fid name perm) _ _ _ refl
      (λ v found. done-need (CreateDone setting forest session now fid name perm) _ _ _ refl
      (λ shut. done-need (CreateDone setting forest session now fid name perm) _ _ _ refl
      (λ valid. done-given (CreateDone setting forest session now fid name perm) _ _ _ refl
      (λ opening known. done-given (CreateDone setting forest session now fid name perm) _ _ _ refl
      (λ asked means. done-need (CreateDone setting forest session now fid name perm) _ _ _ refl
      (λ plain. done-need (CreateDone setting forest session now fid name perm) _ _ _ refl
      (λ some. done-need (CreateDone setting forest session now fid name perm) _ _ _ refl
      (λ some_dir. done-given (CreateDone setting forest session now fid name perm) _ _ _ refl
      (λ member chosen. done-given (CreateDone setting forest session now fid name perm) _ _ _ refl
      (λ dir there. done-need (CreateDone setting forest session now fid name perm) _ _ _ refl
      (λ into. done-need (CreateDone setting forest session now fid name perm) _ _ _ refl
      (λ writes. done-need (CreateDone setting forest session now fid name perm) _ _ _ refl
      (λ free. done-need (CreateDone setting forest session now fid name perm) _ _ _ refl
      (λ room. done-need (CreateDone setting forest session now fid name perm) _ _ _ refl
      (λ short. done-ok (CreateDone setting forest session now fid name perm) _ (record {
        v = v;
        opening = opening;
        asked = asked;
        member = member;
        dir = dir;
        found = found;
        shut = is_none-None v.opened shut;
        valid = valid;
        means = means;
        plain = plain;
        chosen = chosen;
        there = there;
        can = record {
          into = into;
          writes = writes;
          free = is_none-None (child_in member.node name forest) free;
          room = grind (arith, nat_tests, room);
          short = grind (arith, nat_tests, short);
        };
        is = refl;
      }))))))))))))))))

  pub read-done : (now fid offset count : ℕ)
      → OnDone (ReadDone setting forest session now fid offset count)
      (read_answer setting forest session now fid offset count)
  read-done now fid offset count =
      done-given (ReadDone setting forest session now fid offset count) _ _ _ refl
      (λ v found. done-given (ReadDone setting forest session now fid offset count) _ _ _ refl
      (λ opened held. done-given (ReadDone setting forest session now fid offset count) _ _ _ refl
      (λ n there. done-if (ReadDone setting forest session now fid offset count) (is_dir n)
      (read_dir setting forest session fid v opened offset (min count (iounit_of session)))
      (read_file session now (fid_ref setting.table v) n offset (min count (iounit_of session)))
      (λ dir. done-need (ReadDone setting forest session now fid offset count) _ _ _ refl
      (λ begins. listed v opened n found held there
      (listing_behind (cursor_at offset opened) setting.table forest (who_of setting v.user) (here v.trail)) _
      refl))
      (λ file. done-ok (ReadDone setting forest session now fid offset count) _ (record {
        v = v;
        opened = opened;
        n = n;
        found = found;
        held = held;
        there = there;
        is = inl (file, refl);
      })))))
    where
      done : (v : Fid) (opened : Opened) (n : Node) → fid_at fid session.fids ≡ Some v
          → readable v.opened ≡ Some opened → fid_file setting.table forest v ≡ Some n
          → (left given : List UnionEntry) → fitting (min count (iounit_of session)) left ≡ given
          → ReadDone setting forest session now fid offset count (record {
            changes = [];
            session =
                listed_session fid opened offset (cursor_at offset opened) given session;
            reply = Rread (flat_map entry_bytes given);
          })
      done v opened n found held there left given same = record {
        v = v;
        opened = opened;
        n = n;
        found = found;
        held = held;
        there = there;
        is = inr (left, rw same refl);
      }

      listed : (v : Fid) (opened : Opened) (n : Node) → fid_at fid session.fids ≡ Some v
          → readable v.opened ≡ Some opened → fid_file setting.table forest v ≡ Some n
          → (left given : List UnionEntry) → fitting (min count (iounit_of session)) left ≡ given
          → OnDone (ReadDone setting forest session now fid offset count)
          (entries_or_fault session fid opened offset (cursor_at offset opened) left given)
      listed v opened n found held there [] given same =
          done-ok (ReadDone setting forest session now fid offset count) _
          (done v opened n found held there [] given same)
      listed v opened n found held there (e ∷ es) [] same =
          done-err (ReadDone setting forest session now fid offset count) _ refl
      listed v opened n found held there (e ∷ es) (g ∷ gs) same =
          done-ok (ReadDone setting forest session now fid offset count) _
          (done v opened n found held there (e ∷ es) (g ∷ gs) same)

  pub write-done : (now fid offset : ℕ) (bytes : List ℕ)
      → OnDone (WriteDone setting forest session now fid offset bytes)
      (write_answer setting forest session now fid offset bytes)
  write-done now fid offset bytes =
      done-given (WriteDone setting forest session now fid offset bytes) _ _ _ refl
      (λ v found. done-need (WriteDone setting forest session now fid offset bytes) _ _ _ refl
      (λ held. done-given (WriteDone setting forest session now fid offset bytes) _ _ _ refl
      (λ n there. write bytes refl v n found held there)))
    where
      write : (bs : List ℕ) → bytes ≡ bs → (v : Fid) (n : Node) → fid_at fid session.fids ≡ Some v
          → is_writable v ≡ true → fid_file setting.table forest v ≡ Some n
          → OnDone (WriteDone setting forest session now fid offset bytes)
          (write_file session now v (fid_ref setting.table v) n offset bs)
      write [] same v n found held there =
          done-ok (WriteDone setting forest session now fid offset bytes) _ (record {
            v = v;
            n = n;
            found = found;
            held = held;
            there = there;
            is = inl (same, refl);
          })
      write (b ∷ bs) same v n found held there =
          done-need (WriteDone setting forest session now fid offset bytes) _ _ _ refl (λ short.
          done-ok (WriteDone setting forest session now fid offset bytes) _ (record {
            v = v;
            n = n;
            found = found;
            held = held;
            there = there;
            is =
                inr (
                  rw same (grind (arith, nat_tests, short)),
                  rw same refl,
                );
          }))

  pub clunk-done : (now fid : ℕ) → OnDone (ClunkDone setting forest session now fid)
      (clunk_answer setting forest session now fid)
  clunk-done now fid =
      done-given (ClunkDone setting forest session now fid) _ _ _ refl (λ v found.
      done-ok (ClunkDone setting forest session now fid) _ (record {
        v = v;
        found = found;
        is = refl;
      }))

  pub removal-done : (now : ℕ) (v : Fid) → OnDone (RemovalDone setting forest session now v)
      (removal setting forest session now v)
  removal-done now v =
      done-given (RemovalDone setting forest session now v) _ _ _ refl
      (λ n there. done-need (RemovalDone setting forest session now v) _ _ _ refl
      (λ inner. done-need (RemovalDone setting forest session now v) _ _ _ refl
      (λ may. done-need (RemovalDone setting forest session now v) _ _ _ refl (λ empty.
      done-ok (RemovalDone setting forest session now v) _ (record {
        n = n;
        there = there;
        inner = inner;
        may = may;
        empty = not-true (has_children_of (fid_ref setting.table v) forest) empty;
        is = refl;
      })))))

  pub remove-done : (now fid : ℕ) → OnDone (RemoveDone setting forest session now fid)
      (remove_answer setting forest session now fid)
  remove-done now fid =
      done-given (RemoveDone setting forest session now fid) _ _ _ refl (λ v found.
      done-ok (RemoveDone setting forest session now fid) _ (record {
        v = v;
        found = found;
        is = refl;
      }))

  pub stat-done : (fid : ℕ) → OnDone (StatDone setting forest session fid)
      (stat_answer setting forest session fid)
  stat-done fid =
      done-given (StatDone setting forest session fid) _ _ _ refl
      (λ v found. done-given (StatDone setting forest session fid) _ _ _ refl (λ n there.
      done-ok (StatDone setting forest session fid) _ (record {
        v = v;
        n = n;
        found = found;
        there = there;
        is = refl;
      })))

  pub wstat-done : (now fid : ℕ) (wanted : StatFields)
      → OnDone (WstatDone setting forest session now fid wanted)
      (wstat_answer setting forest session now fid wanted)
  wstat-done now fid wanted =
      done-given (WstatDone setting forest session now fid wanted) _ _ _ refl
      (λ v found. done-given (WstatDone setting forest session now fid wanted) _ _ _ refl
      (λ n there. done-need (WstatDone setting forest session now fid wanted) _ _ _ refl
      (λ free. done-unless (WstatDone setting forest session now fid wanted) _ _
      (wstat_fault-of (who_of setting v.user) forest (fid_ref setting.table v) n
      (touched_of (stat_of (fid_ref setting.table v) n) wanted)) (λ fits.
      done-ok (WstatDone setting forest session now fid wanted) _ (record {
        v = v;
        n = n;
        found = found;
        there = there;
        fits = fits;
        is = refl;
      })))))
