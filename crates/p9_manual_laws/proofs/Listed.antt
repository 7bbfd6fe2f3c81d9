-- Reads of a directory give all entries.
use Rattle.std.proofs.Common.{◌≡◌, ℕ, ◌+◌, ◌<◌, Bool, true, false, List, [], ◌∷◌, ◌++◌, Option, Some}
use Rattle.std.proofs.Common.{None, refl, ap, sym, ◌∙◌, subst, arith, filter, length}
use Rattle.std.specs.Prelude.{◌==◌, ◌||◌, min, if◌then◌else◌}
use Rattle.std.specs.List.{flat_map}
use Rattle.std.specs.Option.{option_map}
use Rattle.std.proofs.lemmas.Bool.Decides.{nat_tests}
use Rattle.std.proofs.lemmas.Grind.{flat_map-append}
use Rattle.std.proofs.lemmas.List.Concat.{flat_map-cons}
use Rattle.std.proofs.lemmas.List.{append_assoc, length-append}
use Rattle.p9_base.specs.NodeRef.{beside}
use Rattle.p9_base.specs.Results.{obtain, need}
use Rattle.p9_tree.specs.Node.{Node, is_dir}
use Rattle.p9_tree.specs.Server.{Server}
use Rattle.p9_space.specs.Place.{file_of}
use Rattle.p9_space.specs.Table.{members_of}
use Rattle.p9_space.specs.Trail.{here}
use Rattle.p9_wire.specs.Fields.{stat_len}
use Rattle.p9_wire.proofs.Lengths.{length-stat_bytes}
use Rattle.p9_wire.specs.Message.{RMessage, Rread, Tread}
use Rattle.p9_wire.specs.Message.{Rattach, Rclunk, Rcreate, Rerror, Rflush, Ropen, Rremove, Rstat, Rversion, Rwalk, Rwrite, Rwstat}
use Rattle.p9_fids.specs.declared.opened.Cursor.{Cursor}
use Rattle.p9_fids.specs.declared.opened.Opened.{Opened}
use Rattle.p9_fids.specs.Fid.{Fid, fid_at, opened_as}
use Rattle.p9_fids.specs.Opened.{reads}
use Rattle.p9_step.specs.Answer.{Answer, Outcome, outcome_of}
use Rattle.p9_step.specs.Listing.{UnionEntry, is_behind, listing, listing_behind}
use Rattle.p9_step.specs.Qid.{stat_of}
use Rattle.p9_step.specs.Read.{cursor_after, cursor_at, entries_answer, entries_or_fault}
use Rattle.p9_step.specs.Read.{entry_bytes, fitting}
use Rattle.p9_step.specs.Read.{listed_session, read_answer, readable}
use Rattle.p9_step.specs.State.{Session, SessionRow, Setting, State, changed_session, fid_file, iounit_of}
use Rattle.p9_step.specs.State.{session_at, who_of}
use Rattle.p9_manual_laws.specs.Asked.{Asked, after_outcome, asked}
use Rattle.p9_manual_laws.specs.Listings.{ReadAt, ReadsGiveAll, data_before, reads_from}
use Rattle.p9_manual_laws.proofs.Entries.{InOrder, behind_given, fitting_first, order_from}
use Rattle.p9_manual_laws.proofs.Sessions.{fid_at-changed, session_at-changed}

-- an entry has bytes
entry_length : (e : UnionEntry)
    → length (entry_bytes e) ≡ stat_len (stat_of (beside e.member e.node.number) e.node)
unfolding entry_bytes
entry_length e = length-stat_bytes (stat_of (beside e.member e.node.number) e.node)

some_bytes : (e : UnionEntry) (es : List UnionEntry) → 0 < length (flat_map entry_bytes (e ∷ es))
some_bytes e es =
    let one = entry_length e in
    let both =
    ap length (flat_map-cons entry_bytes e es)
    ∙ length-append (entry_bytes e) (flat_map entry_bytes es) in
    omega (arith, one, both)

-- where the next read goes on
next_cursor : (offset : ℕ) (opened : Opened) (given : List UnionEntry)
    → cursor_at (offset + length (flat_map entry_bytes given)) (record opened {
      next_offset = offset + length (flat_map entry_bytes given);
      cursor = cursor_after (cursor_at offset opened) given;
    }) ≡ cursor_after (cursor_at offset opened) given
next_cursor offset opened [] = go (offset == 0) refl
  where
    go : (b : Bool) → (offset == 0) ≡ b
        → (if (offset + 0) == 0 then None else cursor_at offset opened) ≡ cursor_at offset opened
    go true e =
        let again : ((offset + 0) == 0) ≡ true = grind (arith, nat_tests, e) in rw (e, again) refl
    go false e =
        let again : ((offset + 0) == 0) ≡ false = grind (arith, nat_tests, e) in rw (e, again) refl
next_cursor offset opened (g ∷ gs) =
    let some = some_bytes g gs in
    let past : ((offset + length (flat_map entry_bytes (g ∷ gs))) == 0) ≡ false =
    grind (arith, nat_tests, some) in
    rw past refl

-- a read that is not refused gives those that have room, and none only at the end
given_gives : (session : Session) (fid : ℕ) (opened : Opened) (offset : ℕ) (cursor : Option Cursor)
    (left given : List UnionEntry) (bytes : List ℕ)
    → (outcome_of session (entries_or_fault session fid opened offset cursor left given)).reply
    ≡ Rread bytes
    → (entries_or_fault session fid opened offset cursor left given
    ≡ entries_answer session fid opened offset cursor given)
    × (given ≡ [] → left ≡ [])
given_gives session fid opened offset cursor [] given bytes told = (refl, λ e. refl)
given_gives session fid opened offset cursor (e ∷ es) [] bytes told = absurd (cc)
given_gives session fid opened offset cursor (e ∷ es) (g ∷ gs) bytes told =
    (refl, λ none. absurd (cc))

readable-is : (o : Option Opened) (opened : Opened) → readable o ≡ Some opened → o ≡ Some opened
readable-is None opened e = e
readable-is (Some p) opened e = go (reads p.mode) refl
  where
    go : (b : Bool) → reads p.mode ≡ b → Some p ≡ Some opened
    go true is = rw is at e
    go false is = let no : None ≡ Some opened = rw is at e in absurd (cc)

-- reads go on behind a read that was answered
answered_with : (r : Option RMessage) (rest : List ℕ → Option (List (List ℕ)))
    (parts : List (List ℕ)) → data_before r rest ≡ Some parts
    → (bytes : List ℕ) × (r ≡ Some (Rread bytes))
    × (option_map (λ ps. bytes ∷ ps) (rest bytes) ≡ Some parts)
answered_with (Some (Rread bytes)) rest parts e = (bytes, refl, e)
answered_with None rest parts e = absurd (cc)
answered_with (Some (Rversion x y)) rest parts e = absurd (cc)
answered_with (Some (Rattach x)) rest parts e = absurd (cc)
answered_with (Some (Rerror x)) rest parts e = absurd (cc)
answered_with (Some Rflush) rest parts e = absurd (cc)
answered_with (Some (Rwalk x)) rest parts e = absurd (cc)
answered_with (Some (Ropen x y)) rest parts e = absurd (cc)
answered_with (Some (Rcreate x y)) rest parts e = absurd (cc)
answered_with (Some (Rwrite x)) rest parts e = absurd (cc)
answered_with (Some Rclunk) rest parts e = absurd (cc)
answered_with (Some Rremove) rest parts e = absurd (cc)
answered_with (Some (Rstat x)) rest parts e = absurd (cc)
answered_with (Some Rwstat) rest parts e = absurd (cc)

-- where no entry was given there are no bytes, and the other way round
no_bytes : (given : List UnionEntry) → flat_map entry_bytes given ≡ [] → given ≡ []
no_bytes [] e = refl
no_bytes (g ∷ gs) e =
    let some = some_bytes g gs in let none : length (flat_map entry_bytes (g ∷ gs)) ≡ 0 = ap length e
    in absurd (omega (arith, some, none))

module _ (setting : Setting) (forest : List Server) (name fid : ℕ) (v : Fid) (n : Node)
    (there : fid_file setting.table forest v ≡ Some n) (dir : is_dir n ≡ true) (all : List UnionEntry)
    (all_is : listing setting.table forest (who_of setting v.user) (here v.trail) ≡ all)
    (order : InOrder all) where
  abbrev at : List SessionRow → State
  at rows = record { setting = setting; forest = forest; sessions = rows }

  -- of a fid that is read: at an offset these entries are left
  record Stands (rows : List SessionRow) (offset : ℕ) (left : List UnionEntry) : Type 0 where
    session : Session
    w : Fid
    before : List UnionEntry
    session_is : session_at name rows ≡ Some session
    fid_is : fid_at fid session.fids ≡ Some w
    user_is : w.user ≡ v.user
    trail_is : w.trail ≡ v.trail
    all_are : before ++ left ≡ all
    left_are : (opened : Opened) → w.opened ≡ Some opened
        → filter (is_behind (cursor_at offset opened)) all ≡ left

  -- of a read that was answered: these were given, and the others are left
  record Goes (rows : List SessionRow) (offset now count : ℕ) (left : List UnionEntry) (bytes : List ℕ)
      : Type 0 where
    after : List SessionRow
    given : List UnionEntry
    others : List UnionEntry
    state_is : (asked (at rows) name now (Tread fid offset count)).state ≡ at after
    bytes_are : bytes ≡ flat_map entry_bytes given
    left_is : left ≡ given ++ others
    end : given ≡ [] → left ≡ []
    stands : Stands after (offset + length bytes) others

  goes : (rows : List SessionRow) (offset now count : ℕ) (left : List UnionEntry) (bytes : List ℕ)
      → Stands rows offset left
      → (asked (at rows) name now (Tread fid offset count)).reply ≡ Some (Rread bytes)
      → Goes rows offset now count left bytes
  unfolding obtain need
  goes rows offset now count left bytes s told = by_opened (readable s.w.opened) refl
    where
      room : ℕ
      room = min count (iounit_of s.session)

      answer : Answer
      answer = read_answer setting forest s.session now fid offset count

      is : asked (at rows) name now (Tread fid offset count)
          ≡ after_outcome (at rows) name (outcome_of s.session answer)
      is = rw s.session_is refl

      reply_is : (outcome_of s.session answer).reply ≡ Rread bytes
      reply_is =
          let one : Some (outcome_of s.session answer).reply ≡ Some (Rread bytes) =
          sym (ap (λ (a : Asked). a.reply) is) ∙ told in
          cc

      there_w : fid_file setting.table forest s.w ≡ Some n
      there_w = ap (λ t. file_of (here t) setting.table forest) s.trail_is ∙ there

      found : (opened : Opened) → readable s.w.opened ≡ Some opened
          → answer
          ≡ entries_or_fault s.session fid opened offset (cursor_at offset opened) left
          (fitting room left)
          → Goes rows offset now count left bytes
      found opened held answer_is =
          let cursor = cursor_at offset opened in
          let given : List UnionEntry = fitting room left in
          let gave =
          given_gives s.session fid opened offset cursor left given bytes
          (ap (λ a. (outcome_of s.session a).reply) (sym answer_is) ∙ reply_is) in
          let new : Session = listed_session fid opened offset cursor given s.session in
          let outcome_is = ap (outcome_of s.session) (answer_is ∙ gave.0) in
          let said : Rread bytes ≡ Rread (flat_map entry_bytes given) =
          sym reply_is ∙ ap (λ (o : Outcome). o.reply) outcome_is in
          let bytes_are : bytes ≡ flat_map entry_bytes given = cc in
          let first = fitting_first room left in
          let others : List UnionEntry = first.0 in
          let split : s.before ++ (given ++ others) ≡ all =
          ap (λ xs. s.before ++ xs) (sym first.1) ∙ s.all_are in
          let next : Opened = record opened {
            next_offset = offset + length (flat_map entry_bytes given);
            cursor = cursor_after cursor given;
          } in
          let behind : filter (is_behind (cursor_after cursor given)) all ≡ others =
          ap (λ xs. filter (is_behind (cursor_after cursor given)) xs) (sym split)
          ∙ behind_given s.before given others cursor (subst InOrder (sym split) order)
          (ap (λ xs. filter (is_behind cursor) xs) split
          ∙ s.left_are opened (readable-is s.w.opened opened held) ∙ first.1) in
          record {
            after = changed_session name new rows;
            given = given;
            others = others;
            state_is =
                ap (λ (a : Asked). a.state) is
                ∙ ap (λ o. (after_outcome (at rows) name o).state) outcome_is;
            bytes_are = bytes_are;
            left_is = first.1;
            end = gave.1;
            stands = record {
              session = new;
              w = opened_as next s.w;
              before = s.before ++ given;
              session_is = session_at-changed (at rows) name s.session new s.session_is;
              fid_is = fid_at-changed fid (opened_as next) s.session.fids s.w s.fid_is;
              user_is = s.user_is;
              trail_is = s.trail_is;
              all_are = append_assoc s.before given others ∙ split;
              left_are = λ opened' its.
                  let same : next ≡ opened' = cc in
                  ap (λ p. filter (is_behind (cursor_at (offset + length bytes) p)) all) (sym same)
                  ∙ ap (λ bs. filter (is_behind (cursor_at (offset + length bs) next)) all) bytes_are
                  ∙ ap (λ c. filter (is_behind c) all) (next_cursor offset opened given)
                  ∙ behind;
            };
          }

      left_there : (opened : Opened) → readable s.w.opened ≡ Some opened
          → listing_behind (cursor_at offset opened) setting.table forest (who_of setting s.w.user)
          (here s.w.trail) ≡ left
      left_there opened held =
          let cursor = cursor_at offset opened in
          ap (λ u. listing_behind cursor setting.table forest (who_of setting u) (here s.w.trail))
          s.user_is
          ∙ ap (λ t. listing_behind cursor setting.table forest (who_of setting v.user) (here t))
          s.trail_is
          ∙ ap (λ xs. filter (is_behind cursor) xs) all_is
          ∙ s.left_are opened (readable-is s.w.opened opened held)

      by_test : (opened : Opened) → readable s.w.opened ≡ Some opened
          → (b : Bool) → (offset == 0 || offset == opened.next_offset) ≡ b
          → Goes rows offset now count left bytes
      by_test opened held true e =
          found opened held (rw (s.fid_is, held, there_w, dir, e)
          (ap (λ xs. entries_or_fault s.session fid opened offset (cursor_at offset opened) xs
          (fitting room xs)) (left_there opened held)))
      by_test opened held false e =
          let told_so = rw (s.fid_is, held, there_w, dir, e) at reply_is in absurd (cc)

      by_opened : (o : Option Opened) → readable s.w.opened ≡ o
          → Goes rows offset now count left bytes
      by_opened None e = let told_so = rw (s.fid_is, e) at reply_is in absurd (cc)
      by_opened (Some opened) e =
          by_test opened e (offset == 0 || offset == opened.next_offset) refl

  -- reads that go on give what is left
  gives_further : (offset now count : ℕ) (rows : List SessionRow) (left : List UnionEntry)
      (bytes : List ℕ) (rest : List (List ℕ)) (parts : List (List ℕ))
      (g : Goes rows offset now count left bytes) → bytes ∷ rest ≡ parts ++ [] ∷ []
      → ((ps : List (List ℕ)) → rest ≡ ps ++ [] ∷ []
      → flat_map (λ part. part) ps ≡ flat_map entry_bytes g.others)
      → flat_map (λ part. part) parts ≡ flat_map entry_bytes left
  gives_further offset now count rows left bytes rest [] g same later =
      let none : bytes ≡ [] = cc in
      let ended : left ≡ [] = g.end (no_bytes g.given (sym g.bytes_are ∙ none)) in
      ap (flat_map entry_bytes) (sym ended)
  gives_further offset now count rows left bytes rest (p ∷ ps) g same later =
      let first : bytes ≡ p = cc in
      let others : rest ≡ ps ++ [] ∷ [] = cc in
      ap (λ x. x ++ flat_map (λ part. part) ps) (sym first ∙ g.bytes_are)
      ∙ ap (λ x. flat_map entry_bytes g.given ++ x) (later ps others)
      ∙ sym (flat_map-append entry_bytes g.given g.others)
      ∙ ap (flat_map entry_bytes) (sym g.left_is)

  gives_all : (reads : List ReadAt) (rows : List SessionRow) (offset : ℕ) (left : List UnionEntry)
      (parts : List (List ℕ))
      → Stands rows offset left
      → reads_from (at rows) name fid offset reads ≡ Some (parts ++ [] ∷ [])
      → flat_map (λ part. part) parts ≡ flat_map entry_bytes left
  gives_all [] rows offset left [] s is = absurd (cc)
  gives_all [] rows offset left (p ∷ ps) s is = absurd (cc)
  gives_all (read ∷ reads) rows offset left parts s is =
      by (asked (at rows) name read.clock (Tread fid offset read.count)).reply refl
      (λ after next others. gives_all reads after next others)
    where
      after : Asked
      after = asked (at rows) name read.clock (Tread fid offset read.count)

      by_rest : (bytes : List ℕ) (r : Option (List (List ℕ)))
          → option_map (λ ps. bytes ∷ ps) r ≡ Some (parts ++ [] ∷ [])
          → (rest : List (List ℕ)) × (r ≡ Some rest) × (bytes ∷ rest ≡ parts ++ [] ∷ [])
      by_rest bytes None e = absurd (cc)
      by_rest bytes (Some rest) e = (rest, refl, cc)

      by : (r : Option RMessage) → after.reply ≡ r
          → ((rows' : List SessionRow) (next : ℕ) (others : List UnionEntry) (ps : List (List ℕ))
          → Stands rows' next others
          → reads_from (at rows') name fid next reads ≡ Some (ps ++ [] ∷ [])
          → flat_map (λ part. part) ps ≡ flat_map entry_bytes others)
          → flat_map (λ part. part) parts ≡ flat_map entry_bytes left
      by r e later =
          let one = answered_with r _ _ (ap (λ x. data_before x (λ bytes. reads_from after.state name
          fid (offset + length bytes) reads)) (sym e) ∙ is) in
          let bytes : List ℕ = one.0 in
          let g = goes rows offset read.clock read.count left bytes s (e ∙ one.1) in
          let rest = by_rest bytes
          (reads_from after.state name fid (offset + length bytes) reads) one.2 in
          gives_further offset read.clock read.count rows left bytes rest.0 parts g rest.2 (λ ps same.
          later g.after (offset + length bytes) g.others ps g.stands
          (ap (λ st. reads_from st name fid (offset + length bytes) reads) (sym g.state_is)
          ∙ rest.1 ∙ ap (λ x. Some x) same))

pub reads_give_all : ReadsGiveAll
reads_give_all state name session fid v n reads parts sound has there dir is =
    gives_all state.setting state.forest name fid v n there dir
    (listing state.setting.table state.forest (who_of state.setting v.user) (here v.trail)) refl
    (order_from state.forest sound.forest (who_of state.setting v.user) 0
    (members_of (here v.trail) state.setting.table)).0
    reads state.sessions 0
    (listing state.setting.table state.forest (who_of state.setting v.user) (here v.trail)) parts
    (record {
      session = session;
      w = v;
      before = [];
      session_is = has.session_is;
      fid_is = has.fid_is;
      user_is = refl;
      trail_is = refl;
      all_are = refl;
      left_are = λ opened held. all_behind
          (listing state.setting.table state.forest (who_of state.setting v.user) (here v.trail));
    }) is
  where
    all_behind : (es : List UnionEntry) → filter (is_behind None) es ≡ es
    all_behind [] = refl
    all_behind (e ∷ es) = ap (λ xs. e ∷ xs) (all_behind es)
