-- What was written is read back.
use Rattle.std.proofs.Common.{◌≡◌, ℕ, ◌+◌, Bool, true, false, List, [], ◌∷◌, ◌++◌, Some}
use Rattle.std.proofs.Common.{refl, ap, sym, ◌∙◌, subst, arith, length, take, drop}
use Rattle.std.specs.Prelude.{min, nat_le}
use Rattle.std.proofs.Math.Seq.{take-append_seam, drop-append_seam}
use Rattle.std.proofs.lemmas.List.{append_assoc, length-append, length-replicate, length-take}
use Rattle.p9_base.specs.declared.node_ref.NodeRef.{NodeRef}
use Rattle.p9_base.specs.Results.{obtain, need}
use Rattle.p9_base.specs.Text.{padded}
use Rattle.p9_tree.specs.Bytes.{file_max, overwritten, read_from}
use Rattle.p9_tree.specs.Forest.{forest_changed_at, node_of}
use Rattle.p9_tree.specs.Node.{Node, is_dir, marked, with_bytes}
use Rattle.p9_tree.specs.Server.{Server}
use Rattle.p9_tree.proofs.Changed.{keeps-marked, keeps-with_bytes}
use Rattle.p9_wire.specs.Message.{Rread, Rwrite, Tread, Twrite}
use Rattle.p9_fids.specs.declared.opened.Opened.{Opened}
use Rattle.p9_fids.specs.Fid.{Fid, fid_at}
use Rattle.p9_step.specs.Answer.{Outcome, outcome_of}
use Rattle.p9_step.specs.ForestChange.{all_applied, applied, edited}
use Rattle.p9_step.specs.Open.{is_append_only}
use Rattle.p9_step.specs.Read.{readable}
use Rattle.p9_step.specs.State.{Session, Setting, State, changed_session, fid_file, fid_ref, iounit_of}
use Rattle.p9_step.specs.State.{session_at}
use Rattle.p9_step.specs.Write.{is_writable, write_answer, write_file}
use Rattle.p9_step.proofs.Found.{node_of-changed}
use Rattle.p9_manual_laws.specs.Asked.{Asked, Has, after_outcome, asked}
use Rattle.p9_manual_laws.specs.Files.{WrittenIsReadBack}
use Rattle.p9_manual_laws.proofs.Sessions.{changed-same}

-- the bytes of a write are read where they were written
read-overwritten : (offset : ℕ) (bytes old : List ℕ)
    → read_from offset (length bytes) (overwritten offset bytes old) ≡ bytes
read-overwritten offset bytes old =
    let front : List ℕ = take offset (padded offset old) in
    let rest : List ℕ = drop (offset + length bytes) old in
    let full : length front ≡ offset =
    simp (length-take, length-append, length-replicate) (omega arith) in
    ap (λ xs. take (length bytes) (drop offset xs)) (append_assoc front bytes rest)
    ∙ ap (λ k. take (length bytes) (drop k (front ++ (bytes ++ rest)))) (sym full)
    ∙ ap (λ xs. take (length bytes) xs) (drop-append_seam front (bytes ++ rest))
    ∙ take-append_seam bytes rest

-- of a write that was not refused: the session is unchanged, and the file has the bytes
record Lands (forest : List Server) (at : NodeRef) (session : Session) (offset : ℕ)
    (bytes : List ℕ) (n : Node) (o : Outcome) : Type 0 where
  same : o.session ≡ session
  node : Node
  found : node_of at (all_applied o.changes forest) ≡ Some node
  kind : is_dir node ≡ is_dir n
  bytes_are : read_from offset (length bytes) node.bytes ≡ bytes

file_lands : (forest : List Server) (session : Session) (now : ℕ) (v : Fid) (at : NodeRef)
    (n : Node) (offset : ℕ) (bytes : List ℕ) → node_of at forest ≡ Some n
    → is_append_only n ≡ false
    → (outcome_of session (write_file session now v at n offset bytes)).reply
    ≡ Rwrite (length bytes)
    → Lands forest at session offset bytes n
    (outcome_of session (write_file session now v at n offset bytes))
unfolding applied edited need
file_lands forest session now v at n offset [] there plain accepted = record {
  same = refl;
  node = n;
  found = there;
  kind = refl;
  bytes_are = refl;
}
file_lands forest session now v at n offset (b ∷ bs) there plain accepted =
    go (nat_le (offset + length (b ∷ bs)) file_max) refl
  where
    put : Node
    put = with_bytes (overwritten offset (b ∷ bs)) n

    go : (test : Bool) → nat_le (offset + length (b ∷ bs)) file_max ≡ test
        → Lands forest at session offset (b ∷ bs) n
        (outcome_of session (write_file session now v at n offset (b ∷ bs)))
    go true e = rw (plain, e) (record {
      same = refl;
      node = marked v.user now put;
      found =
          node_of-changed at (marked v.user now)
          (forest_changed_at at (with_bytes (overwritten offset (b ∷ bs))) forest) put
          (keeps-marked v.user now)
          (node_of-changed at (with_bytes (overwritten offset (b ∷ bs))) forest n
          (keeps-with_bytes (overwritten offset (b ∷ bs))) there);
      kind = refl;
      bytes_are = read-overwritten offset (b ∷ bs) n.bytes;
    })
    go false e = let told = rw (plain, e) at accepted in absurd (cc)

write_lands : (setting : Setting) (forest : List Server) (session : Session) (now fid offset : ℕ)
    (bytes : List ℕ) (v : Fid) (n : Node) → fid_at fid session.fids ≡ Some v
    → fid_file setting.table forest v ≡ Some n → is_append_only n ≡ false
    → (outcome_of session (write_answer setting forest session now fid offset bytes)).reply
    ≡ Rwrite (length bytes)
    → Lands forest (fid_ref setting.table v) session offset bytes n
    (outcome_of session (write_answer setting forest session now fid offset bytes))
unfolding obtain need
write_lands setting forest session now fid offset bytes v n found there plain accepted =
    go (is_writable v) refl
  where
    go : (test : Bool) → is_writable v ≡ test
        → Lands forest (fid_ref setting.table v) session offset bytes n
        (outcome_of session (write_answer setting forest session now fid offset bytes))
    go true e =
        let told = rw (found, e, there) at accepted in
        rw (found, e, there)
        (file_lands forest session now v (fid_ref setting.table v) n offset bytes there plain told)
    go false e = let told = rw (found, e) at accepted in absurd (cc)

-- a read of a file gives its bytes
pub read_gives : (state : State) (name : ℕ) (session : Session) (fid now offset count : ℕ) (v : Fid)
    (opened : Opened) (n : Node) → Has state name session fid v → readable v.opened ≡ Some opened
    → fid_file state.setting.table state.forest v ≡ Some n → is_dir n ≡ false
    → (asked state name now (Tread fid offset count)).reply
    ≡ Some (Rread (read_from offset (min count (iounit_of session)) n.bytes))
unfolding obtain
read_gives state name session fid now offset count v opened n has held there file =
    rw (has.session_is, has.fid_is, held, there, file) refl

pub written_is_read_back : WrittenIsReadBack
written_is_read_back state writer reader writer_session reader_session fid other_fid now later v w n
    opened offset bytes writing reading same found file plain held short =
    let o : Outcome =
    outcome_of writer_session
    (write_answer state.setting state.forest writer_session now fid offset bytes) in
    let is : asked state writer now (Twrite fid offset bytes) ≡ after_outcome state writer o =
    rw writing.session_is refl in
    subst (λ (after : Asked). after.reply ≡ Some (Rwrite (length bytes))
    → (asked after.state reader later (Tread other_fid offset (length bytes))).reply
    ≡ Some (Rread bytes)) (sym is) (λ accepted.
    let told : o.reply ≡ Rwrite (length bytes) = cc in
    let lands =
    write_lands state.setting state.forest writer_session now fid offset bytes v n writing.fid_is
    found plain told in
    let after : State = (after_outcome state writer o).state in
    let has : Has after reader reader_session other_fid w = record {
      session_is =
          ap (λ s. session_at reader (changed_session writer s state.sessions)) lands.same
          ∙ ap (session_at reader) (changed-same state writer writer_session writing.session_is)
          ∙ reading.session_is;
      fid_is = reading.fid_is;
    } in
    let there_now : fid_file after.setting.table after.forest w ≡ Some lands.node =
    ap (λ at. node_of at after.forest) same ∙ lands.found in
    let whole : min (length bytes) (iounit_of reader_session) ≡ length bytes = omega (arith, short) in
    read_gives after reader reader_session other_fid later offset (length bytes) w opened lands.node
    has held there_now (lands.kind ∙ file)
    ∙ ap (λ k. Some (Rread (read_from offset k lands.node.bytes))) whole
    ∙ ap (λ xs. Some (Rread xs)) lands.bytes_are)
