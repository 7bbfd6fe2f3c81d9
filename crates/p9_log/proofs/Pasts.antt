-- A device in memory meets the contract of a device: what its contents have been.
use Rattle.std.proofs.Common.{◌≡◌, ◌⊎◌, inl, inr, ⊎_elim, ℕ, zero, suc, ◌+◌, ◌≤◌, min, List, [], ◌∷◌, ◌++◌, length, take, drop, Vec}
use Rattle.std.proofs.Common.{refl, sym, ap, subst, ◌∙◌, append_assoc, arith, length-append, length-drop, take-append-drop}
use Rattle.std.proofs.lemmas.List.{append-nil, take_all, take_at, take_min, take-take, drop_at, length-take-le}
use Rattle.p9_log.specs.declared.crash.Crash.{Crash}
use Rattle.p9_log.specs.declared.crash.Crash.TheVariants.{Killed, Stopped}
use Rattle.p9_log.specs.Device.{Holds, IsCut, IsWritten, Passes}
use Rattle.p9_log.specs.Past.{HadBeen}

-- a write that is done whole
pub written-whole : (how : Crash) (old new bytes : List ℕ) (at : ℕ) → at ≤ length old → Holds old at bytes new → IsWritten how at bytes old new
written-whole Killed old new bytes at le holds =
    (length bytes, subst (λ b. Holds old at b new) (sym (take_all (length bytes) bytes (omega arith))) holds)
written-whole Stopped old new bytes at le holds =
    let front : length (take at old) ≡ at = length-take-le at old le in
    let both : length (take at old ++ bytes) ≡ at + length bytes = omega (arith, front, length-append (take at old) bytes) in
    let whole = length-append (take at old ++ bytes) (drop (at + length bytes) old) in
    let rest = length-drop (at + length bytes) old in
    let lesser : min at (length old) ≡ at = omega arith in
    record {
      before = ap (λ (k : ℕ). take k new) lesser ∙ ap (take at) (holds ∙ append_assoc (take at old) bytes (drop (at + length bytes) old)) ∙ take_at (take at old) (bytes ++ drop (at + length bytes) old) at front;
      after = ap (drop (at + length bytes)) holds ∙ drop_at (take at old ++ bytes) (drop (at + length bytes) old) (at + length bytes) both;
      no_shorter = omega (arith, ap length holds);
      no_longer = omega (arith, ap length holds);
    }

-- a write that is not done
pub written-none : (how : Crash) (file bytes : List ℕ) (at : ℕ) → IsWritten how at bytes file file
written-none Killed file bytes at =
    (0, sym (take-append-drop at file) ∙ ap (λ (bs : List ℕ). bs ++ drop at file) (sym (append-nil (take at file))) ∙ ap (λ (k : ℕ). take at file ++ [] ++ drop k file) (omega arith))
written-none Stopped file bytes at = record { before = take_min at file; after = refl; no_shorter = omega arith; no_longer = omega arith }

-- a cut that is done
pub cut-whole : (how : Crash) (old new : List ℕ) (n : ℕ) → n ≤ length old → new ≡ take n old → IsCut how n old new
cut-whole Killed old new n le is = inr is
cut-whole Stopped old new n le is =
    let long : length new ≡ n = ap length is ∙ length-take-le n old le in
    let least : min n (length old) ≡ n = omega arith in
    record {
      no_shorter = omega arith;
      no_longer = omega arith;
      before = ap (λ (k : ℕ). take k new) least ∙ ap (take n) is ∙ take-take n n old (omega arith);
    }

keeps : {A : Type 0} (past : List (Vec ℕ A)) (v : Vec ℕ A) (c : List ℕ) → HadBeen past c → HadBeen (past ++ v ∷ []) c
keeps [] v c had = absurd had
keeps (p ∷ past) v c (inl here) = inl here
keeps (p ∷ past) v c (inr there) = inr (keeps past v c there)

adds : {A : Type 0} (past : List (Vec ℕ A)) (v : Vec ℕ A) (c : List ℕ) → HadBeen (past ++ v ∷ []) c → HadBeen past c ⊎ (c ≡ v.items)
adds [] v c (inl here) = inr here
adds [] v c (inr none) = absurd none
adds (p ∷ past) v c (inl here) = inl (inl here)
adds (p ∷ past) v c (inr there) = ⊎_elim (λ had. inl (inr had)) (λ new. inr new) (adds past v c there)

newest : {A : Type 0} (past : List (Vec ℕ A)) (v : Vec ℕ A) (c : List ℕ) → c ≡ v.items → HadBeen (past ++ v ∷ []) c
newest [] v c is = inl is
newest (p ∷ past) v c is = inr (newest past v c is)

drop_push : {A : Type 0} (t : ℕ) (past : List (Vec ℕ A)) (v : Vec ℕ A) → t ≤ length past → drop t (past ++ v ∷ []) ≡ drop t past ++ v ∷ []
drop_push zero past v le = refl
drop_push (suc t) [] v le = absurd (omega arith)
drop_push (suc t) (p ∷ past) v le = drop_push t past v (omega arith)

module _ {D A : Type 0} (bytes : D → List ℕ) (past : D → List (Vec ℕ A)) (how : Crash) (step : List ℕ → List ℕ → Type 0) (old new : D) where
  abbrev Since : D → Crash → ℕ → List ℕ → Type 0
  Since m kind t c = (c ≡ bytes m) ⊎ HadBeen (drop t (past m)) c

  -- a call that changes nothing
  pub passes-same : bytes new ≡ bytes old → past new ≡ past old → step (bytes old) (bytes old)
      → Passes (λ m. length (past m)) (λ m kind c. c ≡ bytes m) Since how step old new
  passes-same same kept stays = record {
    later = omega (arith, ap length kept);
    now = λ c is. (bytes old, refl, subst (step (bytes old)) (sym (is ∙ same)) stays);
    within = λ t c le left. inl (⊎_elim (λ is. inl (is ∙ same)) (λ had. inr (subst (λ p. HadBeen (drop t p) c) kept had)) left);
    keeps = λ t c le left. ⊎_elim (λ is. inl (is ∙ sym same)) (λ had. inr (subst (λ p. HadBeen (drop t p) c) (sym kept) had)) left;
  }

  -- a call that puts other bytes in their place
  pub passes-next : (v : Vec ℕ A) → v.items ≡ bytes old → past new ≡ past old ++ v ∷ [] → step (bytes old) (bytes new)
      → Passes (λ m. length (past m)) (λ m kind c. c ≡ bytes m) Since how step old new
  passes-next v was longer done = record {
    later = omega (arith, ap length longer, length-append (past old) (v ∷ []));
    now = λ c is. (bytes old, refl, subst (step (bytes old)) (sym is) done);
    within = λ t c le left.
        ⊎_elim (λ is. inr (bytes old, refl, subst (step (bytes old)) (sym is) done))
        (λ had. inl (⊎_elim (λ before. inr before) (λ now. inl (now ∙ was))
        (adds (drop t (past old)) v c (subst (λ p. HadBeen p c) (ap (drop t) longer ∙ drop_push t (past old) v le) had)))) left;
    keeps = λ t c le left.
        inr (subst (λ p. HadBeen p c) (sym (ap (drop t) longer ∙ drop_push t (past old) v le))
        (⊎_elim (λ is. newest (drop t (past old)) v c (is ∙ sym was)) (keeps (drop t (past old)) v c) left));
  }
