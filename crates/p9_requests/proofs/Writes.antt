-- The answer to a write to a file that has room for it.
use Rattle.std.proofs.Common.{◌≡◌, ℕ, ◌+◌, Bool, true, false, List, [], ◌∷◌, Option, Some, None}
use Rattle.std.proofs.Common.{Result, Ok, Err, IsFalse, length, refl, ap, inr}
use Rattle.std.specs.Prelude.{◌==◌, nat_le}
use Rattle.p9_base.specs.declared.fault.Fault.{Fault}
use Rattle.p9_base.specs.declared.fault.Fault.TheVariants.{OutOfMemory}
use Rattle.p9_base.specs.declared.node_ref.NodeRef.{NodeRef}
use Rattle.p9_base.specs.Results.{obtain, need}
use Rattle.p9_tree.specs.Bytes.{overwritten, file_max}
use Rattle.p9_tree.specs.Node.{Node, is_dir, marked, with_bytes}
use Rattle.p9_tree.specs.Server.{Server}
use Rattle.p9_tree.specs.Forest.{forest_changed_at, is_dir_of, node_of}
use Rattle.p9_space.specs.Table.{MountRow}
use Rattle.p9_wire.specs.Message.{RMessage, Rwrite}
use Rattle.p9_fids.specs.declared.opened.Opened.{Opened}
use Rattle.p9_fids.specs.Opened.{writes}
use Rattle.p9_fids.specs.Fid.{Fid, fid_at}
use Rattle.p9_step.specs.State.{Setting, Session, fid_ref}
use Rattle.p9_step.specs.Answer.{Answer, Outcome}
use Rattle.p9_step.specs.ForestChange.{applied, edited}
use Rattle.p9_walks.specs.Answers.{Answers, replied}
use Rattle.p9_step.specs.Memory.{is_done}
use Rattle.p9_step.specs.Sound.{IsWellOpen, IsOpenOn}
use Rattle.p9_step.specs.Write.{is_writable, write_answer, write_offset, written}

module _ (table : List MountRow) (forest : List Server) (v : Fid) (n : Node)
    (found : node_of (fid_ref table v) forest ≡ Some n) where
  is_file : (o : Opened) → IsOpenOn table forest v o → writes o.mode ≡ true → is_dir n ≡ false
  is_file o on may = go (is_dir n) refl
    where
      go : (b : Bool) → is_dir n ≡ b → is_dir n ≡ false
      go false e = e
      go true e = let no : writes o.mode ≡ false = ap writes (on.mode n found e) in cc

  by_opened : (o : Option Opened) → v.opened ≡ o → IsWellOpen table forest v → is_writable v ≡ true
      → is_dir n ≡ false
  by_opened None e fit opens = let no : false ≡ true = rw e at opens in cc
  by_opened (Some o) e fit opens =
      let may : writes o.mode ≡ true = rw e at opens in is_file o (fit o e) may

  -- what is open for writing is no directory
  pub writable_file : IsWellOpen table forest v → is_writable v ≡ true
      → IsFalse (is_dir_of (fid_ref table v) forest)
  writable_file fit opens = let file = by_opened v.opened refl fit opens in rw found file

-- where every test passes, the bytes are written
pub write_answer-done : (setting : Setting) (forest : List Server) (session : Session)
    (now fid offset : ℕ) (bytes : List ℕ) (v : Fid) (n : Node) (at : NodeRef) (place : ℕ)
    → at ≡ fid_ref setting.table v → place ≡ write_offset offset n
    → fid_at fid session.fids ≡ Some v → is_writable v ≡ true → node_of at forest ≡ Some n
    → (length bytes == 0) ≡ false → nat_le (place + length bytes) file_max ≡ true
    → write_answer setting forest session now fid offset bytes
    ≡ written session now v at place bytes
unfolding need obtain
write_answer-done setting forest session now fid offset [] v n at place at_is place_is found opens
    there some fits = let no : true ≡ false = some in cc
write_answer-done setting forest session now fid offset (b ∷ bs) v n at place at_is place_is found
    opens there some fits =
    let there' : node_of (fid_ref setting.table v) forest ≡ Some n = rw (← at_is) there in
    let fits' : nat_le (write_offset offset n + length (b ∷ bs)) file_max ≡ true =
    rw (← place_is) fits in
    rw (at_is, place_is, found, opens, there', fits') refl

-- and the file is marked
pub write-did : (answer : Answer) (forest forest' : List Server) (session : Session) (now : ℕ)
    (bytes : List ℕ) (v : Fid) (at : NodeRef) (place : ℕ)
    → answer ≡ written session now v at place bytes
    → forest' ≡ forest_changed_at at (marked v.user now)
    (forest_changed_at at (with_bytes (overwritten place bytes)) forest)
    → Answers answer (is_done answer) forest forest' session session (Ok (Rwrite (length bytes)))
unfolding applied edited
write-did answer forest forest' session now bytes v at place done changed = rw done (refl, changed)

-- an allocation failed where no refusal is due
pub memory_refused : {X : Type 0} (reply : X → RMessage) (answer : Answer) (o : Outcome)
    (forest forest' : List Server) (old new : Session) (result : Result X Fault) (fault : Fault)
    → answer ≡ Ok o → result ≡ Err fault → fault ≡ OutOfMemory → forest' ≡ forest → new ≡ old
    → Answers answer (is_done answer) forest forest' old new (replied reply result)
memory_refused reply answer o forest forest' old new result fault done refused memory same kept =
    rw (done, refused) (inr (memory, refl), same, kept)
