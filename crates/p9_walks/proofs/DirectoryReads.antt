-- What a read answers.
use Rattle.std.proofs.Common.{◌≡◌, ℕ, ◌≤◌, Bool, true, false, List, [], ◌∷◌}
use Rattle.std.proofs.Common.{length, take, Some, Result, Ok, Err, refl, sym, ap, ◌∙◌}
use Rattle.std.proofs.Common.{inl}
use Rattle.std.specs.Prelude.{◌++◌, min, if◌then◌else◌}
use Rattle.std.proofs.lemmas.List.{take-append-le}
use Rattle.p9_base.specs.declared.fault.Fault.{Fault}
use Rattle.p9_base.specs.declared.fault.Fault.TheVariants.{FidNotOpen}
use Rattle.p9_base.specs.declared.fault.Fault.TheVariants.{PhaseError}
use Rattle.p9_base.specs.declared.fault.Fault.TheVariants.{UnknownFid}
use Rattle.p9_base.specs.Results.{obtain, need}
use Rattle.p9_tree.specs.Bytes.{read_from}
use Rattle.p9_tree.specs.Forest.{forest_changed_at}
use Rattle.p9_tree.specs.Node.{Node, is_dir, touched}
use Rattle.p9_tree.specs.Server.{Server}
use Rattle.p9_wire.specs.Message.{Rread}
use Rattle.p9_fids.specs.declared.opened.Opened.{Opened}
use Rattle.p9_fids.specs.Fid.{Fid, changed_fid, fid_at, opened_as}
use Rattle.p9_step.specs.State.{Setting, Session, fid_file, fid_ref, iounit_of}
use Rattle.p9_step.specs.Answer.{Answer}
use Rattle.p9_walks.specs.Answers.{Answers, data_reply, replied}
use Rattle.p9_walks.specs.Listing.{list_answer}
use Rattle.p9_step.specs.ForestChange.{EditNode, Touch, applied, edited}
use Rattle.p9_step.specs.Read.{read_answer, read_dir, read_file, readable}

-- What a fid that is open for reading is on.
pub record IsReadable (setting : Setting) (forest : List Server) (session : Session) (fid : ℕ)
    (v : Fid) (o : Opened) (n : Node) : Type 0 where
  pub there : fid_at fid session.fids ≡ Some v
  pub open_as : readable v.opened ≡ Some o
  pub alive : fid_file setting.table forest v ≡ Some n

module _ (setting : Setting) (forest : List Server) (session : Session) (now fid offset count : ℕ)
    (v : Fid) (o : Opened) (n : Node) (r : IsReadable setting forest session fid v o n) where
  abbrev by_kind : Bool → Answer
  by_kind dir =
      if dir then read_dir setting forest session fid v o offset (min count (iounit_of session))
      else read_file session now (fid_ref setting.table v) n offset (min count (iounit_of session))

  reads_by_kind : read_answer setting forest session now fid offset count ≡ by_kind (is_dir n)
  unfolding obtain need
  reads_by_kind =
      ap (λ w. obtain w UnknownFid
      (λ v. obtain (readable v.opened) FidNotOpen
      (λ o. obtain (fid_file setting.table forest v) PhaseError
      (λ n. if is_dir n
      then read_dir setting forest session fid v o offset (min count (iounit_of session))
      else read_file session now (fid_ref setting.table v) n offset
      (min count (iounit_of session)))))) r.there
      ∙ ap (λ w. obtain w FidNotOpen
      (λ o. obtain (fid_file setting.table forest v) PhaseError
      (λ n. if is_dir n
      then read_dir setting forest session fid v o offset (min count (iounit_of session))
      else read_file session now (fid_ref setting.table v) n offset
      (min count (iounit_of session))))) r.open_as
      ∙ ap (λ w. obtain w PhaseError
      (λ n. if is_dir n
      then read_dir setting forest session fid v o offset (min count (iounit_of session))
      else read_file session now (fid_ref setting.table v) n offset
      (min count (iounit_of session)))) r.alive

  -- a directory
  reads_dir : (room : ℕ) → is_dir n ≡ true → room ≡ min count (iounit_of session)
      → read_answer setting forest session now fid offset count
      ≡ read_dir setting forest session fid v o offset room
  reads_dir room dir room_is =
      reads_by_kind ∙ ap by_kind dir
      ∙ ap (λ k. read_dir setting forest session fid v o offset k) (sym room_is)

  pub dir_read : (room size : ℕ) (opened : Opened) (sub rest : List ℕ) (session' : Session)
      → is_dir n ≡ true → room ≡ min count (iounit_of session) → size ≤ length sub
      → read_dir setting forest session fid v o offset room
      ≡ list_answer session fid opened (take size sub)
      → session' ≡ record session { fids = changed_fid fid (opened_as opened) session.fids }
      → Answers (read_answer setting forest session now fid offset count) false forest forest
      session session' (Ok (data_reply (sub ++ rest) size))
  dir_read room size opened sub rest session' dir room_is within is went =
      rw (reads_dir room dir room_is ∙ is, went, take-append-le size sub rest within) (refl, refl)

  pub dir_refused : (room : ℕ) (fault : Fault) (result : Result ℕ Fault) (buffer : List ℕ)
      → is_dir n ≡ true → room ≡ min count (iounit_of session)
      → read_dir setting forest session fid v o offset room ≡ Err fault → result ≡ Err fault
      → Answers (read_answer setting forest session now fid offset count) false forest forest
      session session (replied (data_reply buffer) result)
  dir_refused room fault result buffer dir room_is is err =
      rw err (inl (reads_dir room dir room_is ∙ is), refl, refl)

  -- a file
  pub reads_file : (room size : ℕ) (buffer : List ℕ) (forest' : List Server) → is_dir n ≡ false
      → room ≡ min count (iounit_of session)
      → take size buffer ≡ read_from offset room n.bytes
      → forest' ≡ forest_changed_at (fid_ref setting.table v) (touched now) forest
      → Answers (read_answer setting forest session now fid offset count) false forest forest'
      session session (Ok (Rread (take size buffer)))
  unfolding applied edited
  reads_file room size buffer forest' plain room_is bytes changed =
      let is : read_answer setting forest session now fid offset count ≡ Ok (record {
        changes = EditNode (fid_ref setting.table v) (Touch now) ∷ [];
        session = session;
        reply = Rread (take size buffer);
      }) =
      reads_by_kind ∙ ap by_kind plain
      ∙ ap (λ k. read_file session now (fid_ref setting.table v) n offset k) (sym room_is)
      ∙ ap (λ bs. Ok (record {
        changes = EditNode (fid_ref setting.table v) (Touch now) ∷ [];
        session = session;
        reply = Rread bs;
      })) (sym bytes) in
      rw is (refl, changed)
