-- What the outcomes of opens, creates, reads, writes and wstats lead to.
use Rattle.std.proofs.Common.{Bool, List, None, Ok, Option, Some, [], ap, arith, false, inl, inr}
use Rattle.std.proofs.Common.{refl, subst, sym, true, ℕ, ◌++◌, ◌+◌, ◌<◌, ◌||◌, ◌∙◌, ◌∷◌}
use Rattle.std.proofs.Common.{◌≡◌}
use Rattle.std.proofs.lemmas.Bool.{and_parts}
use Rattle.std.proofs.lemmas.Bool.Decides.{nat_tests}
use Rattle.std.specs.Option.{option_map_or}
use Rattle.std.specs.Prelude.{min, not, ◌&&◌}
use Rattle.p9_base.specs.Mode.{is_dir as is_dir_mode}
use Rattle.p9_base.specs.NodeRef.{beside}
use Rattle.p9_base.specs.User.{is_user}
use Rattle.p9_base.specs.declared.node_ref.NodeRef.{NodeRef}
use Rattle.p9_tree.specs.Forest.{IsForest, next_of, node_of, server_at}
use Rattle.p9_tree.specs.Node.{IsTellable, Node, has_number, is_dir}
use Rattle.p9_tree.specs.Server.{Server, added}
use Rattle.p9_tree.proofs.Lookups.{number-node_at}
use Rattle.p9_space.specs.Given.{is_table_given}
use Rattle.p9_space.specs.Rights.{may}
use Rattle.p9_space.specs.Table.{MountRow}
use Rattle.p9_wire.specs.Message.{Rcreate}
use Rattle.p9_fids.specs.Fid.{Fid, fid_at, opened_as}
use Rattle.p9_fids.specs.Opened.{reads, writes}
use Rattle.p9_fids.specs.declared.opened.Cursor.{Cursor}
use Rattle.p9_fids.specs.declared.opened.OpenMode.{OpenMode}
use Rattle.p9_fids.specs.declared.opened.OpenMode.TheVariants.{Execute, Read, ReadWrite, Write}
use Rattle.p9_fids.specs.declared.opened.Opened.{Opened}
use Rattle.p9_step.specs.Answer.{Outcome}
use Rattle.p9_step.specs.ForestChange.{AddNode, ForestChange, Cut, EditNode, Mark, Overwrite, Touch}
use Rattle.p9_step.specs.ForestChange.{all_applied, applied}
use Rattle.p9_step.specs.Create.{created, entered}
use Rattle.p9_step.specs.Listing.{UnionEntry}
use Rattle.p9_step.specs.Open.{is_cut, truncation}
use Rattle.p9_step.specs.Opening.{is_plain_read, is_read, newly_opened}
use Rattle.p9_step.specs.Qid.{qid_of}
use Rattle.p9_step.specs.Read.{cursor_at, fitting, listed_session, readable}
use Rattle.p9_step.specs.Sound.{IsWellOpen, IsFid, IsOpenOn, IsSession}
use Rattle.p9_step.specs.State.{Session, Setting, fid_file, fid_ref, iounit_of}
use Rattle.p9_step.specs.Write.{is_writable, write_offset}
use Rattle.p9_step.specs.declared.opening.Opening.{Opening}
use Rattle.p9_step.proofs.Changes.{evolves-all, keeps-mark}
use Rattle.p9_step.proofs.Evolves.{Evolves, evolves-same, found-evolved}
use Rattle.p9_step.proofs.Found.{server_at-tree_changed_at}
use Rattle.p9_step.proofs.Kept.{IsReady, Kept, fid-of, kept-changes, kept-quiet, session-changed}
use Rattle.p9_step.proofs.Kept.{user-of}
use Rattle.p9_step.proofs.Lawful.{AddFits, AllLawful, EditFits, evolves-lawful, forest-applied}
use Rattle.p9_step.proofs.Lawful.{lawful-cut, lawful-mark, lawful-overwrite, lawful-touch}
use Rattle.p9_step.proofs.Lawful.{node-sound}
use Rattle.p9_step.proofs.Members.{IsMember, found-member, member-joined}
use Rattle.p9_step.proofs.NodeRefs.{here-pushed, member-given, new-file, node_of-given}
use Rattle.p9_step.proofs.Passed.{CanCreate, CreateDone, OpenDone, ReadDone, WriteDone}
use Rattle.p9_step.proofs.Settled.{IsGivenTrail, fid-evolved, trail-pushed}

-- what asks to read, and for nothing else
pub record ReadsAlone (o : Opening) : Type 0 where
  pub mode : o.mode ≡ Read
  pub stays : o.remove_on_close ≡ false

read-mode : (m : OpenMode) → is_read m ≡ true → m ≡ Read
read-mode Read e = refl
read-mode Write e = absurd (cc)
read-mode ReadWrite e = absurd (cc)
read-mode Execute e = absurd (cc)

not-false : (b : Bool) → not b ≡ true → b ≡ false
not-false false e = refl
not-false true e = absurd (cc)

plain_read : (o : Opening) → is_plain_read o ≡ true → ReadsAlone o
plain_read o e =
    let parts = and_parts (is_read o.mode && not o.truncates) (not o.remove_on_close) e in
    let first = and_parts (is_read o.mode) (not o.truncates) parts.0 in
    record { mode = read-mode o.mode first.0; stays = not-false o.remove_on_close parts.1 }

-- a directory is opened so alone
dir-reads : (o : Opening) (dir : Bool) → (not dir || is_plain_read o) ≡ true → dir ≡ true
    → ReadsAlone o
dir-reads o true e is = plain_read o e
dir-reads o false e is = absurd (cc)

-- a fid is opened
fit-opened : (table : List MountRow) (f g : List Server) (v : Fid) (n : Node) (o : Opening)
    → IsForest f → Evolves f g → fid_file table f v ≡ Some n
    → (not (is_dir n) || is_plain_read o) ≡ true → IsWellOpen table g (opened_as (newly_opened o) v)
fit-opened table f g v n o sound evolves found test p is =
    let same : newly_opened o ≡ p = cc in
    let given = node_of-given f (fid_ref table v) n sound found in
    let more = (evolves.server (fid_ref table v).server).next in
    subst (λ q. IsOpenOn table g (opened_as (newly_opened o) v) q) same (record {
      given = omega arith;
      mode = λ m there dir. (reads m there dir).mode;
      stays = λ m there dir. (reads m there dir).stays;
    })
  where
    reads : (m : Node) → node_of (fid_ref table v) g ≡ Some m → is_dir m ≡ true → ReadsAlone o
    reads m there dir =
        let was =
        found-evolved f g (fid_ref table v) m sound evolves
        (node_of-given f (fid_ref table v) n sound found) there in
        let it : Some n ≡ Some was.0 = sym found ∙ was.1 in
        let this : n ≡ was.0 = cc in
        dir-reads o (is_dir n) test (ap is_dir this ∙ was.2 ∙ dir)

-- what is read is open
pub readable-is : (p : Option Opened) (o : Opened) → readable p ≡ Some o → p ≡ Some o
readable-is None o e = e
readable-is (Some q) o e = go (reads q.mode) refl
  where
    go : (b : Bool) → reads q.mode ≡ b → Some q ≡ Some o
    go true r = rw r at e
    go false r = let no : None ≡ Some o = rw r at e in absurd (cc)

module _ (table : List MountRow) (f : List Server) (sound : IsForest f)
    (below : is_table_given f table ≡ true) (target : NodeRef) (dir n : Node) (user : List ℕ)
    (now : ℕ) (there : node_of target f ≡ Some dir)
    (number : n.number ≡ next_of target.server f) where
  abbrev h : List Server
  h = applied (AddNode target.server n) f

  abbrev g : List Server
  g = all_applied (AddNode target.server n ∷ EditNode target (Mark user now) ∷ []) f

  abbrev at : NodeRef
  at = beside target (next_of target.server f)

  server-added : server_at target.server h ≡ added (server_at target.server f) n
  unfolding applied
  server-added = server_at-tree_changed_at target (λ s. added s n) f dir there

  marked-evolves : Evolves h g
  marked-evolves =
      evolves-all h (EditNode target (Mark user now) ∷ []) ((λ m found. keeps-mark user now m), tt)

  next-more : next_of target.server f < next_of target.server g
  next-more =
      let more = (marked-evolves.server target.server).next in
      let next : next_of target.server h ≡ next_of target.server f + 1 =
      ap (λ (s : Server). s.next) server-added in
      omega arith

  -- the node under the new number is the one that was made
  new-kind : (m : Node) → node_of at g ≡ Some m → is_dir m ≡ is_dir n
  new-kind m found =
      let in_g =
      (found-member (λ x. has_number at.number x) (server_at target.server g).nodes m
      found).0 in
      let its : m.number ≡ next_of target.server f =
      number-node_at at.number (server_at target.server g).nodes m found in
      let next : next_of target.server h ≡ next_of target.server f + 1 =
      ap (λ (s : Server). s.next) server-added in
      let in_h = (marked-evolves.server target.server).was m in_g (omega arith) in
      let joined : IsMember in_h.0 (added (server_at target.server f) n).nodes =
      subst (λ (s : Server). IsMember in_h.0 s.nodes) server-added in_h.1 in
      elim (member-joined in_h.0 n (server_at target.server f).nodes joined) [
        | inl old ↦ (let lt = member-given f target.server in_h.0 sound old in let same = in_h.2 in
            absurd (omega arith))
        | inr new ↦ sym in_h.3 ∙ ap is_dir new
      ]

module _ (setting : Setting) (forest : List Server) (session : Session) (now : ℕ)
    (ready : IsReady setting forest session now) where
  lawful-truncation : (at : NodeRef) (n : Node) (user : List ℕ) (o : Opening)
      → is_user user ≡ true → AllLawful forest (truncation user now at n o)
  lawful-truncation at n user o valid = go (is_cut n o) refl
    where
      cut : EditFits forest at (Cut 0)
      cut = lawful-cut forest ready.sound at 0

      go : (b : Bool) → is_cut n o ≡ b → AllLawful forest (truncation user now at n o)
      go true e =
          rw e (
            cut,
            (
              lawful-mark (applied (EditNode at (Cut 0)) forest)
                  (forest-applied forest (EditNode at (Cut 0)) ready.sound cut) at user now valid
                  ready.short,
              tt,
            ),
          )
      go false e = rw e tt

  pub kept-open : (fid : ℕ) (o : Outcome) → OpenDone setting forest session now fid o
      → Kept setting forest o
  kept-open fid o done =
      let v = done.v in
      let changes =
      truncation v.user now (fid_ref setting.table v) done.n done.opening in
      let lawful =
      lawful-truncation (fid_ref setting.table v) done.n v.user done.opening
      (user-of setting forest session now ready fid v done.found) in
      let evolves = evolves-lawful forest changes ready.sound lawful in
      let was =
      fid-evolved setting forest (all_applied changes forest) ready.sound evolves v
      (fid-of setting forest session now ready fid v done.found) in
      subst (Kept setting forest) (sym done.is) (record {
        lawful = lawful;
        session =
            session-changed setting forest session now ready (all_applied changes forest) fid
            (opened_as (newly_opened done.opening)) v evolves done.found (record {
              listed = was.listed;
              trail = was.trail;
              given = was.given;
              opened =
                  fit-opened setting.table forest (all_applied changes forest) v done.n done.opening
                  ready.sound evolves done.there done.plain;
            });
      })

  -- Reads.

  fit-read : (v : Fid) (o p : Opened) → IsWellOpen setting.table forest v → v.opened ≡ Some o
      → p.mode ≡ o.mode → p.remove_on_close ≡ o.remove_on_close
      → IsWellOpen setting.table forest (opened_as p v)
  fit-read v o p old is mode stays q same =
      let this : p ≡ q = cc in
      let kept = old o is in
      subst (λ r. IsOpenOn setting.table forest (opened_as p v) r) this (record {
        given = kept.given;
        mode = λ n found dir. mode ∙ kept.mode n found dir;
        stays = λ n found dir. stays ∙ kept.stays n found dir;
      })

  listed-kept : (fid : ℕ) (v : Fid) (o : Opened) (offset : ℕ) (cursor : Option Cursor)
      (given : List UnionEntry) → fid_at fid session.fids ≡ Some v → v.opened ≡ Some o
      → IsSession setting forest (listed_session fid o offset cursor given session)
  listed-kept fid v o offset cursor given found is =
      let was = fid-of setting forest session now ready fid v found in
      session-changed setting forest session now ready forest fid _ v (evolves-same forest) found
      (record {
        listed = was.listed;
        trail = was.trail;
        given = was.given;
        opened = fit-read v o _ was.opened is refl refl;
      })

  pub kept-read : (fid offset count : ℕ) (o : Outcome)
      → ReadDone setting forest session now fid offset count o → Kept setting forest o
  kept-read fid offset count o done = elim done.is [
    | inl file ↦ subst (Kept setting forest) (sym file.1)
        (kept-changes setting forest session now ready
        (EditNode (fid_ref setting.table done.v) (Touch now) ∷ []) session _
        (lawful-touch forest ready.sound (fid_ref setting.table done.v) now ready.short, tt)
        ready.its)
    | inr dir ↦ subst (Kept setting forest) (sym dir.1)
        (kept-quiet setting forest session now ready
        (listed_session fid done.opened offset (cursor_at offset done.opened)
        (fitting (min count (iounit_of session)) dir.0) session) _
        (listed-kept fid done.v done.opened offset (cursor_at offset done.opened)
        (fitting (min count (iounit_of session)) dir.0) done.found
        (readable-is done.v.opened done.opened done.held)))
  ]

  -- Writes.

  -- what is open for writing is no directory
  written_file : (v : Fid) (n : Node) → IsWellOpen setting.table forest v
      → fid_file setting.table forest v ≡ Some n → is_writable v ≡ true → is_dir n ≡ false
  written_file v n fit found opens = by v.opened refl opens
    where
      go : (o : Opened) → v.opened ≡ Some o → writes o.mode ≡ true → (b : Bool)
          → is_dir n ≡ b → is_dir n ≡ false
      go o is may false e = e
      go o is may true e =
          let reading : writes o.mode ≡ false = ap writes ((fit o is).mode n found e) in
          let no : true ≡ false = sym may ∙ reading in
          absurd (cc)

      by : (o : Option Opened) → v.opened ≡ o → option_map_or (λ p. writes p.mode) o false ≡ true
          → is_dir n ≡ false
      by None is t = let no : false ≡ true = t in absurd (cc)
      by (Some o) is t = go o is t (is_dir n) refl

  pub kept-write : (fid offset : ℕ) (bytes : List ℕ) (o : Outcome)
      → WriteDone setting forest session now fid offset bytes o → Kept setting forest o
  kept-write fid offset bytes o done = elim done.is [
    | inl none ↦ subst (Kept setting forest) (sym none.1)
        (kept-quiet setting forest session now ready session _ ready.its)
    | inr some ↦ (let v = done.v in
        let at = fid_ref setting.table v in
        let place = write_offset offset done.n in
        let first : EditFits forest at (Overwrite place bytes) =
        lawful-overwrite forest ready.sound at done.n place bytes done.there
        (written_file v done.n (fid-of setting forest session now ready fid v done.found).opened
        done.there done.held) some.0 in
        subst (Kept setting forest) (sym some.1)
        (kept-changes setting forest session now ready
        (EditNode at (Overwrite place bytes) ∷ EditNode at (Mark v.user now) ∷ []) session _ (
          first,
          (
            lawful-mark (applied (EditNode at (Overwrite place bytes)) forest)
                (forest-applied forest (EditNode at (Overwrite place bytes)) ready.sound first) at
                v.user now (user-of setting forest session now ready fid v done.found) ready.short,
            tt,
          ),
        ) ready.its))
  ]

  -- Creates.

  pub kept-create : (fid : ℕ) (name : List ℕ) (perm : ℕ) (o : Outcome)
      → CreateDone setting forest session now fid name perm o → Kept setting forest o
  kept-create fid name perm o done = subst (Kept setting forest) same (record {
    lawful = lawful;
    session =
        session-changed setting forest session now ready after fid _ v evolves done.found (record {
          listed = was.listed;
          trail = trail.sizes;
          given = trail.given;
          opened = fit;
        });
  })
    where
      v : Fid
      v = done.v

      target : NodeRef
      target = done.member.node

      node : Node
      node = created v.user now (next_of target.server forest) done.dir name done.asked

      changes : List ForestChange
      changes = AddNode target.server node ∷ EditNode target (Mark v.user now) ∷ []

      after : List Server
      after = all_applied changes forest

      place : NodeRef
      place = beside target (next_of target.server forest)

      outcome : Outcome
      outcome = record {
        changes = changes;
        session = entered fid (v.trail ++ place ∷ []) done.opening session;
        reply = Rcreate (qid_of place node) (iounit_of session);
      }

      same : outcome ≡ o
      same = let e : Ok outcome ≡ Ok o = sym done.is in cc

      can : CanCreate setting forest v name target done.dir
      can = done.can

      user : is_user v.user ≡ true
      user = user-of setting forest session now ready fid v done.found

      told : IsTellable done.dir
      told = (node-sound forest ready.sound target done.dir done.there).tellable

      add : AddFits forest target.server node
      add = record {
        dir = target.number;
        can = record {
          number_left = can.room;
          into = ap (λ q. option_map_or is_dir q false) done.there ∙ can.into;
          free = can.free;
          small = omega arith;
          empty_dir = λ _. refl;
        };
        number = refl;
        parent =
            ap Some
            (number-node_at target.number (server_at target.server forest).nodes done.dir
            done.there);
        name = done.valid;
        told = ((user, told.0.1, user), (omega arith, ready.short, ready.short));
      }

      lawful : AllLawful forest changes
      lawful = (
        add,
        (
          lawful-mark (applied (AddNode target.server node) forest)
              (forest-applied forest (AddNode target.server node) ready.sound add) target v.user now
              user ready.short,
          tt,
        ),
      )

      evolves : Evolves forest after
      evolves = evolves-lawful forest changes ready.sound lawful

      was : IsFid setting after v
      was =
          fid-evolved setting forest after ready.sound evolves v
          (fid-of setting forest session now ready fid v done.found)

      more : next_of target.server forest < next_of target.server after
      more =
          next-more setting.table forest ready.sound ready.given target done.dir node v.user now
          done.there refl

      trail : IsGivenTrail after (v.trail ++ place ∷ [])
      trail =
          trail-pushed after v.trail place (record { sizes = was.trail; given = was.given })
          can.short (grind (arith, nat_tests, more))

      stands : fid_ref setting.table (record v {
        trail = v.trail ++ place ∷ [];
        opened = Some (newly_opened done.opening);
      }) ≡ place
      stands =
          rw (here-pushed v.trail place)
          (new-file forest setting.table place ready.given refl)

      fit : IsWellOpen setting.table after (record v {
        trail = v.trail ++ place ∷ [];
        opened = Some (newly_opened done.opening);
      })
      fit p is =
          let its : newly_opened done.opening ≡ p = cc in
          let kind =
          new-kind setting.table forest ready.sound ready.given target done.dir node v.user now
          done.there refl in
          subst (λ q. IsOpenOn setting.table after (record v {
            trail = v.trail ++ place ∷ [];
            opened = Some (newly_opened done.opening);
          }) q) its (record {
            given = rw stands more;
            mode =
                λ m in_place dir'. let here_is = rw stands at in_place in
                (dir-reads done.opening (is_dir_mode done.asked) done.plain
                (sym (kind m here_is) ∙ dir')).mode;
            stays =
                λ m in_place dir'. let here_is = rw stands at in_place in
                (dir-reads done.opening (is_dir_mode done.asked) done.plain
                (sym (kind m here_is) ∙ dir')).stays;
          })
