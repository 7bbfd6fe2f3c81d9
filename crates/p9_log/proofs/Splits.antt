-- What a crash leaves of a file whose parts are known.
use Rattle.std.proofs.Common.{◌≡◌, inl, inr, ⊎_elim, ℕ, zero, suc, ◌+◌, Bool, true, false, eqb}
use Rattle.std.proofs.Common.{List, [], ◌∷◌, ◌++◌, length, get_or, take, drop, refl, sym, ap, subst}
use Rattle.std.proofs.Common.{◌∙◌, append_assoc, arith, take-append-drop, length-append, length-drop}
use Rattle.std.proofs.lemmas.Bool.{eqb-true}
use Rattle.std.proofs.lemmas.List.{take_at, length-take-le}
use Rattle.p9_log.specs.declared.crash.Crash.{Crash}
use Rattle.p9_log.specs.declared.crash.Crash.TheVariants.{Killed, Stopped}
use Rattle.p9_log.specs.Blocks.{number, content_in}
use Rattle.p9_log.specs.Device.{After, Holds, IsWritten, Only, Torn}
use Rattle.p9_log.specs.Log.{IsKept}
use Rattle.p9_log.specs.Rest.{Begin, Runs, between, IsSplit, IsAtRest}
use Rattle.p9_log.proofs.Readings.{length-number, closed, shut}
use Rattle.p9_log.proofs.Rest.{runs-stop, stopped-front, parts-fresh, split-killed, split-stopped, is_split, at_rest}
use Rattle.p9_log.proofs.Writes.{holds-at, killed-at, killed-gate, held-gate, torn-gate, torn-front, as-long}

-- a mark, and the gates of the next block
abbrev pub marks : List ℕ
marks = 0 ∷ 1 ∷ 0 ∷ 0 ∷ 0 ∷ 0 ∷ 0 ∷ 0 ∷ 0 ∷ 0 ∷ 1 ∷ 0 ∷ []

pub marks-are : marks ≡ (0 ∷ 1 ∷ number 0) ++ 1 ∷ 0 ∷ []
unfolding number
marks-are = refl

-- what a crash of this kind leaves: what is seen, or what begins so
abbrev pub Known : ℕ → List ℕ → Crash → (List ℕ → Type 0) → Type 0
Known n file Killed outcomes = Only file outcomes
Known n file Stopped outcomes = Begin n file outcomes

-- a mark behind open blocks, and anything behind it
module _ (front content file : List ℕ) (end : ℕ) (runs : (how : Crash) → Runs how front content how)
    (size : length front ≡ end) (more : List ℕ) (is : file ≡ front ++ (marks ++ more)) where
  grouped : file ≡ (front ++ 0 ∷ 1 ∷ number 0) ++ 1 ∷ 0 ∷ more
  grouped =
      is ∙ ap (λ (bs : List ℕ). front ++ (bs ++ more)) marks-are
      ∙ ap (λ (bs : List ℕ). front ++ bs) (append_assoc (0 ∷ 1 ∷ number 0) (1 ∷ 0 ∷ []) more)
      ∙ sym (append_assoc front (0 ∷ 1 ∷ number 0) (1 ∷ 0 ∷ more))

  pub fresh-killed : content_in Killed file ≡ content
  fresh-killed = ap (content_in Killed) grouped ∙ split-killed 0 front (1 ∷ number 0) (1 ∷ 0 ∷ more) content content (parts-fresh front content runs) refl (shut Stopped 1 more)

  pub fresh-stopped : content_in Stopped file ≡ content
  fresh-stopped = ap (content_in Stopped) grouped ∙ split-stopped 0 front (1 ∷ number 0) (1 ∷ 0 ∷ more) content content (parts-fresh front content runs) refl (shut Stopped 1 more)

  pub fresh-rest : IsAtRest file end (end + 10)
  fresh-rest =
      let nine : length (number 0) ≡ 8 = length-number 0 in
      let s = is_split 0 front (1 ∷ number 0) (1 ∷ 0 ∷ more) content content (parts-fresh front content runs) refl (shut Stopped 1 more) file end (end + 10) grouped (sym size) (omega arith) in
      at_rest file end (end + 10) more s.0 s.1

module _ (file : List ℕ) (kept end : ℕ) (s : IsSplit file kept end) where
  abbrev front : List ℕ
  front = take kept file

  abbrev gate : ℕ
  gate = get_or file kept 0

  abbrev rest : List ℕ
  rest = between kept end file

  abbrev tail : List ℕ
  tail = drop end file

  pub front-long : length front ≡ kept
  front-long = let o = s.order in let z = s.size in length-take-le kept file (omega arith)

  pub blocks-long : length (front ++ gate ∷ rest) ≡ end
  blocks-long = let z = s.size in omega (arith, ap length s.whole, length-append (front ++ gate ∷ rest) tail, length-drop end file)

  parted : file ≡ front ++ gate ∷ (rest ++ tail)
  parted = s.whole ∙ append_assoc front (gate ∷ rest) tail

  -- the front, and its gate
  pub front-taken : (more : List ℕ) → take (kept + 1) (front ++ gate ∷ more) ≡ front ++ gate ∷ []
  front-taken more =
      let long : length (front ++ gate ∷ []) ≡ kept + 1 = omega (arith, front-long, length-append front (gate ∷ [])) in
      ap (take (kept + 1)) (sym (append_assoc front (gate ∷ []) more))
      ∙ take_at (front ++ gate ∷ []) more (kept + 1) long

  -- what begins so
  pub front-stopped : (c : List ℕ) → take (kept + 1) c ≡ take (kept + 1) file → content_in Stopped c ≡ content_in Stopped file
  front-stopped c same =
      let there : take (kept + 1) file ≡ front ++ gate ∷ [] =
      ap (take (kept + 1)) parted ∙ front-taken (rest ++ tail) in
      let whole : c ≡ front ++ gate ∷ drop (kept + 1) c =
      sym (take-append-drop (kept + 1) c) ∙ ap (λ bs. bs ++ drop (kept + 1) c) (same ∙ there)
      ∙ append_assoc front (gate ∷ []) (drop (kept + 1) c) in
      ap (content_in Stopped) whole
      ∙ stopped-front front (content_in Stopped file) (drop (kept + 1) c) gate s.parts.kept s.gate

  -- a write over the tail, which a kill cuts short
  pub tail-killed : (bytes c : List ℕ) → IsWritten Killed end (0 ∷ bytes) file c → content_in Killed c ≡ content_in Killed file
  tail-killed bytes c written =
      let at = killed-at (front ++ gate ∷ rest) tail (0 ∷ bytes) c end blocks-long (subst (λ f. IsWritten Killed end (0 ∷ bytes) f c) s.whole written) in
      go at.0 at.1
    where
      go : (n : ℕ) → c ≡ (front ++ gate ∷ rest) ++ (take n (0 ∷ bytes) ++ drop (length (take n (0 ∷ bytes))) tail)
          → content_in Killed c ≡ content_in Killed file
      go zero e = ap (content_in Killed) (e ∙ sym s.whole)
      go (suc n) e =
          ap (content_in Killed) e
          ∙ runs-stop Killed Stopped (front ++ gate ∷ rest) (content_in Killed file)
          (0 ∷ take n bytes ++ drop (length (take (suc n) (0 ∷ bytes))) tail) s.parts.written
          (closed 0 _ refl)

  -- the mark over the tail, and what is left of that behind it
  abbrev pub marked_tail : List ℕ
  marked_tail = marks ++ drop 12 tail

  pub marked : List ℕ
  marked = front ++ gate ∷ (rest ++ marked_tail)

  pub marked-is : (new : List ℕ) → Holds file end marks new → new ≡ marked
  unfolding marked
  marked-is new holds =
      holds-at (front ++ gate ∷ rest) tail marks new end blocks-long (subst (λ f. Holds f end marks new) s.whole holds)
      ∙ append_assoc front (gate ∷ rest) marked_tail

  opened : List ℕ
  opened = (front ++ 1 ∷ rest) ++ marked_tail

  opened-long : length (front ++ 1 ∷ rest) ≡ end
  opened-long = omega (arith, blocks-long, length-append front (1 ∷ rest), length-append front (gate ∷ rest))

  -- then the gate
  pub opened-is : (new : List ℕ) → Holds marked kept (1 ∷ []) new → new ≡ (front ++ 1 ∷ rest) ++ marked_tail
  unfolding marked
  opened-is new holds =
      held-gate front (rest ++ marked_tail) new gate 1 kept front-long holds ∙ sym (append_assoc front (1 ∷ rest) marked_tail)

  pub opened-rest : (new : List ℕ) → Holds marked kept (1 ∷ []) new
      → IsAtRest new end (end + 10) × (content_in Killed new ≡ content_in Killed file) × (content_in Stopped new ≡ content_in Killed file)
  opened-rest new holds = (
    fresh-rest (front ++ 1 ∷ rest) (content_in Killed file) new end s.parts.opened opened-long (drop 12 tail) (opened-is new holds),
    fresh-killed (front ++ 1 ∷ rest) (content_in Killed file) new end s.parts.opened opened-long (drop 12 tail) (opened-is new holds),
    fresh-stopped (front ++ 1 ∷ rest) (content_in Killed file) new end s.parts.opened opened-long (drop 12 tail) (opened-is new holds),
  )

  gate-any : (any : ℕ) (c : List ℕ) → c ≡ front ++ any ∷ (rest ++ marked_tail) → IsKept Stopped file c
  gate-any any c is = go (eqb any 1) refl
    where
      go : (b : Bool) → eqb any 1 ≡ b → IsKept Stopped file c
      go false e = inl (ap (content_in Stopped) is ∙ stopped-front front (content_in Stopped file) (rest ++ marked_tail) any s.parts.kept e)
      go true e =
          let one : c ≡ (front ++ 1 ∷ rest) ++ marked_tail = is ∙ ap (λ (g : ℕ). front ++ g ∷ (rest ++ marked_tail)) (eqb-true any 1 e) ∙ sym (append_assoc front (1 ∷ rest) marked_tail) in
          inr (fresh-stopped (front ++ 1 ∷ rest) (content_in Killed file) c end s.parts.opened opened-long (drop 12 tail) one)

  pub gate-torn : (c : List ℕ) → Torn kept 1 marked c → IsKept Stopped file c
  unfolding marked
  gate-torn c torn =
      let any = torn-gate front (rest ++ marked_tail) c gate kept front-long torn in gate-any any.0 c any.1

  pub gate-killed : (c : List ℕ) → IsWritten Killed kept (1 ∷ []) marked c → content_in Killed c ≡ content_in Killed file
  unfolding marked
  gate-killed c written =
      ⊎_elim
      (λ e. ap (content_in Killed) (e ∙ sym (append_assoc front (gate ∷ rest) marked_tail))
      ∙ runs-stop Killed Stopped (front ++ gate ∷ rest) (content_in Killed file) marked_tail s.parts.written (closed 0 (drop 1 marked_tail) refl))
      (λ e. fresh-killed (front ++ 1 ∷ rest) (content_in Killed file) c end s.parts.opened opened-long (drop 12 tail) (e ∙ sym (append_assoc front (1 ∷ rest) marked_tail)))
      (killed-gate front (rest ++ marked_tail) c gate 1 kept front-long written)

  -- for each kind of crash: while the mark is written, and while the gate is opened
  pub mark-crash : (how : Crash) (outcomes : List ℕ → Type 0) → Known (kept + 1) file how outcomes
      → (c : List ℕ) → After (IsWritten how end marks) outcomes c → IsKept how file c
  mark-crash Killed outcomes known c after =
      tail-killed (drop 1 marks) c (subst (λ f. IsWritten Killed end marks f c) (known after.0 after.1) after.2)
  mark-crash Stopped outcomes known c after =
      let o = s.order in
      let same = known after.0 after.1 in
      inl (front-stopped c (torn-front (kept + 1) end 12 after.0 c (omega arith) (as-long (kept + 1) file after.0 (omega (arith, s.size)) same) after.2 ∙ same))

  pub gate-crash : (how : Crash) (outcomes : List ℕ → Type 0) → Only marked outcomes
      → (c : List ℕ) → After (IsWritten how kept (1 ∷ [])) outcomes c → IsKept how file c
  gate-crash Killed outcomes only c after =
      gate-killed c (subst (λ f. IsWritten Killed kept (1 ∷ []) f c) (only after.0 after.1) after.2)
  gate-crash Stopped outcomes only c after =
      gate-torn c (subst (λ f. Torn kept 1 f c) (only after.0 after.1) after.2)
