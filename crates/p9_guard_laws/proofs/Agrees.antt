-- An answer that is the same without what is inside, and keeps what a guard keeps.
use Rattle.std.proofs.Common.{◌≡◌, ℕ, Bool, true, false, List, [], Option, Some, None, Result, Ok}
use Rattle.std.proofs.Common.{Err, refl, ap, subst}
use Rattle.std.specs.Prelude.{if◌then◌else◌}
use Rattle.std.specs.Ordering.{nat_cmp}
use Rattle.std.specs.BTreeMap.{is_at}
use Rattle.p9_base.specs.declared.fault.Fault.{Fault}
use Rattle.p9_base.specs.Results.{and_then, obtain, need, unless}
use Rattle.p9_base.proofs.Rows.{each-lookup, each-set}
use Rattle.p9_tree.specs.Server.{Server}
use Rattle.p9_wire.specs.Message.{RMessage}
use Rattle.p9_fids.specs.Fid.{Fid, FidRow, changed_fid, fid_at}
use Rattle.p9_step.specs.State.{Session}
use Rattle.p9_step.specs.ForestChange.{ForestChange, all_applied}
use Rattle.p9_step.specs.Answer.{Answer, Outcome, outcome_of}
use Rattle.p9_guard_laws.specs.Guarded.{Premises}
use Rattle.p9_guard_laws.specs.Grown.{Start}
use Rattle.p9_guard_laws.proofs.Scene.{SafeFids, Scene, premises_in}
use Rattle.p9_guard_laws.proofs.Held.{HeldFid, HeldFids}
use Rattle.p9_guard_laws.proofs.Moves.{Lawful}
use Rattle.p9_guard_laws.proofs.Good.{fids-all}

module _ (scene : Scene) where
  -- the changes of an outcome are lawful, and its fids are safe after them
  pub record IsKeeping (outcome : Outcome) : Type 0 where
    pub lawful : Lawful (premises_in scene) scene.forest outcome.changes
    pub fids : HeldFids (premises_in scene) scene.start (all_applied outcome.changes scene.forest)
        outcome.session.fids

  -- x is the answer in the forest without what is inside, y in the forest
  pub record Agrees (x y : Answer) : Type 0 where
    pub same : x ≡ y
    pub done : (o : Outcome) → y ≡ Ok o → IsKeeping o

  pub agrees_ok : (o : Outcome) → IsKeeping o → Agrees (Ok o) (Ok o)
  agrees_ok o keeping = record {
    same = refl;
    done = λ p e. let same : o ≡ p = cc in subst IsKeeping same keeping;
  }

  pub agrees_err : (fault : Fault) → Agrees (Err fault) (Err fault)
  agrees_err fault = record {
    same = refl;
    done = λ p e. let no : Err fault ≡ Ok p = e in absurd (cc);
  }

  -- an outcome that changes nothing in the forest
  pub agrees_quiet : (session : Session) (reply : RMessage) → SafeFids scene session.fids
      → Agrees (Ok (record { changes = []; session = session; reply = reply }))
      (Ok (record { changes = []; session = session; reply = reply }))
  agrees_quiet session reply h = agrees_ok _ (record { lawful = tt; fids = h })

  -- one whose changes are lawful, with fids that were safe
  pub agrees_changes : (changes : List ForestChange) (session : Session) (reply : RMessage)
      → Lawful (premises_in scene) scene.forest changes → SafeFids scene session.fids
      → Agrees (Ok (record { changes = changes; session = session; reply = reply }))
      (Ok (record { changes = changes; session = session; reply = reply }))
  agrees_changes changes session reply l h =
      agrees_ok _ (record {
        lawful = l;
        fids =
            fids-all (premises_in scene) scene.start scene.forest scene.good changes l session.fids h;
      })

  pub agrees_need : (b : Bool) (fault : Fault) (x y : Answer) → (b ≡ true → Agrees x y)
      → Agrees (need b fault x) (need b fault y)
  unfolding need
  agrees_need true fault x y h = h refl
  agrees_need false fault x y h = agrees_err fault

  pub agrees_given : {X : Type 0} (o : Option X) (fault : Fault) (x y : X → Answer)
      → ((v : X) → o ≡ Some v → Agrees (x v) (y v)) → Agrees (obtain o fault x) (obtain o fault y)
  unfolding obtain
  agrees_given (Some v) fault x y h = h v refl
  agrees_given None fault x y h = agrees_err fault

  pub agrees_unless : (o : Option Fault) (x y : Answer) → (o ≡ None → Agrees x y)
      → Agrees (unless o x) (unless o y)
  unfolding unless
  agrees_unless None x y h = h refl
  agrees_unless (Some fault) x y h = agrees_err fault

  pub agrees_then : {X : Type 0} (r : Result X Fault) (x y : X → Answer)
      → ((v : X) → r ≡ Ok v → Agrees (x v) (y v)) → Agrees (and_then r x) (and_then r y)
  agrees_then (Ok v) x y h = h v refl
  agrees_then (Err fault) x y h = agrees_err fault

  pub agrees_if : (b : Bool) (x y x' y' : Answer) → (b ≡ true → Agrees x y)
      → (b ≡ false → Agrees x' y') → Agrees (if b then x else x') (if b then y else y')
  agrees_if true x y x' y' t e = t refl
  agrees_if false x y x' y' t e = e refl

  -- what is kept where an answer's refusal is answered too
  pub keeping_of : (left : Session) (x y : Answer) → SafeFids scene left.fids
      → Agrees x y → IsKeeping (outcome_of left y)
  keeping_of left x y h a = go y refl
    where
      go : (z : Answer) → y ≡ z → IsKeeping (outcome_of left z)
      go (Ok o) e = a.done o e
      go (Err fault) e = record { lawful = tt; fids = h }

  -- a refusal that is answered too
  pub agrees_outcome : (left : Session) (x y : Answer) → SafeFids scene left.fids
      → Agrees x y → Agrees (Ok (outcome_of left x)) (Ok (outcome_of left y))
  agrees_outcome left x y h a = record {
    same = ap (λ z. Ok (outcome_of left z)) a.same;
    done =
        λ o e. let same : outcome_of left y ≡ o = cc in
        subst IsKeeping same (keeping_of left x y h a);
  }

module _ (premises : Premises) (start : Start) (f : List Server) where
  pub fid_found : (fids : List FidRow) (fid : ℕ) (v : Fid) → HeldFids premises start f fids
      → fid_at fid fids ≡ Some v → HeldFid premises start f v
  fid_found fids fid v h at = each-lookup (HeldFid premises start f) (is_at (nat_cmp fid)) fids v h at

  pub fids_changed : (fids : List FidRow) (fid : ℕ) (g : Fid → Fid) (v : Fid)
      → fid_at fid fids ≡ Some v → HeldFid premises start f (g v) → HeldFids premises start f fids
      → HeldFids premises start f (changed_fid fid g fids)
  fids_changed fids fid g v at new h =
      rw at (each-set (HeldFid premises start f) (is_at (nat_cmp fid)) fids (g v) new h)
