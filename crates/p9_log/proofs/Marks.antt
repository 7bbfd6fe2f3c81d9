-- What a crash leaves while a mark is written behind open blocks.
use Rattle.std.proofs.Common.{min, ◌≡◌, ℕ, zero, suc, ◌+◌, ◌-◌, ◌<◌, List, [], ◌∷◌, ◌++◌, length, take, drop}
use Rattle.std.proofs.Common.{refl, sym, ap, subst, ◌∙◌, ⊎_elim, append_assoc, arith, take-append-drop, length-append, length-drop}
use Rattle.std.proofs.lemmas.Bool.{cases_lt}
use Rattle.std.proofs.lemmas.List.{append-nil, take_at, take_all, drop_all, length-take}
use Rattle.p9_log.specs.declared.crash.Crash.{Crash}
use Rattle.p9_log.specs.declared.crash.Crash.TheVariants.{Killed, Stopped}
use Rattle.p9_log.specs.Blocks.{number, content_in}
use Rattle.p9_log.specs.Device.{After, Holds, IsSame, IsWritten, LeavesOnly, Only, Passes, Torn}
use Rattle.p9_log.specs.Log.{StillHas}
use Rattle.p9_log.specs.Rest.{block, Begin, IsAtRest, Runs}
use Rattle.p9_log.proofs.Kept.{only}
use Rattle.p9_log.proofs.Moments.{begins, goes_on}
use Rattle.p9_log.proofs.Readings.{content-stop, short, closed, length-number}
use Rattle.p9_log.proofs.Rest.{runs-block, runs-stop}
use Rattle.p9_log.proofs.Splits.{marks, marks-are, fresh-killed, fresh-stopped, fresh-rest}
use Rattle.p9_log.proofs.Writes.{holds-at, killed-at, after-same}

-- the front of a list and of one behind it
pub take_past : (xs ys : List ℕ) (m n : ℕ) → m ≡ length xs + n → take m (xs ++ ys) ≡ xs ++ take n ys
take_past [] ys m n is = let same : m ≡ n = omega arith in ap (λ (k : ℕ). take k ys) same
take_past (x ∷ xs) ys zero n is = absurd (omega arith)
take_past (x ∷ xs) ys (suc m) n is = ap (λ (l : List ℕ). x ∷ l) (take_past xs ys m n (omega arith))

-- what is behind the gate of a mark
abbrev pub behind_gate : List ℕ
behind_gate = 1 ∷ 0 ∷ 0 ∷ 0 ∷ 0 ∷ 0 ∷ 0 ∷ 0 ∷ 0 ∷ 1 ∷ 0 ∷ []

-- no front of a mark has any content
mark-front : (n : ℕ) → content_in Killed (take n marks) ≡ []
mark-front n =
    ⊎_elim
    (λ less. content-stop Killed (take n marks) (short Killed (take n marks) (omega (arith, length-take n marks))))
    (λ more.
    let nil : block 0 [] ≡ 0 ∷ 1 ∷ number 0 = ap (λ (bs : List ℕ). 0 ∷ 1 ∷ bs) (append-nil (number 0)) in
    let whole : marks ≡ block 0 [] ++ 1 ∷ 0 ∷ [] = marks-are ∙ ap (λ (bs : List ℕ). bs ++ 1 ∷ 0 ∷ []) (sym nil) in
    let eight = length-number 0 in
    let ten : length (block 0 []) ≡ 10 = omega (arith, ap length nil) in
    let rest : List ℕ = take (n - 10) (1 ∷ 0 ∷ []) in
    ap (λ (bs : List ℕ). content_in Killed (take n bs)) whole
    ∙ ap (content_in Killed) (take_past (block 0 []) (1 ∷ 0 ∷ []) n (n - 10) (omega arith))
    ∙ runs-block Killed 0 [] (omega arith) refl rest
    ∙ content-stop Stopped rest (short Stopped rest (omega (arith, length-take {A = ℕ} (n - 10) (1 ∷ 0 ∷ [])))))
    (cases_lt n 10)

module _ (front content : List ℕ) (end : ℕ) (size : length front ≡ end) (runs : (how : Crash) → Runs how front content how) where
  few : (next : Crash) (more : List ℕ) → length more < 10 → content_in next (front ++ more) ≡ content
  few next more less = runs-stop next next front content more (runs next) (short next more less)

  still : (kind : Crash) (c : List ℕ) → ((next : Crash) → content_in next c ≡ content) → StillHas kind content c
  still Killed c has = has
  still Stopped c has = has Stopped

  -- one byte behind the blocks
  one-killed : (c : List ℕ) → IsWritten Killed end (0 ∷ []) front c → (next : Crash) → content_in next c ≡ content
  one-killed c written next =
      let at = killed-at front [] (0 ∷ []) c end size (subst (λ f. IsWritten Killed end (0 ∷ []) f c) (sym (append-nil front)) written) in
      let more : List ℕ = take at.0 (0 ∷ []) ++ drop (length (take at.0 (0 ∷ []))) [] in
      ap (content_in next) at.1
      ∙ few next more (omega (
        arith,
        length-append {A = ℕ} (take at.0 (0 ∷ [])) (drop (length {A = ℕ} (take at.0 (0 ∷ []))) []),
        length-take {A = ℕ} at.0 (0 ∷ []),
        length-drop {A = ℕ} (length {A = ℕ} (take at.0 (0 ∷ []))) [],
      ))

  one-torn : (c : List ℕ) → Torn end 1 front c → (next : Crash) → content_in next c ≡ content
  one-torn c torn next =
      let all_front : end ≡ min end (length front) = omega arith in
      let whole : c ≡ front ++ drop end c =
      sym (take-append-drop end c) ∙ ap (λ (bs : List ℕ). bs ++ drop end c) (ap (λ (k : ℕ). take k c) all_front ∙ torn.before ∙ take_all end front (omega arith)) in
      ap (content_in next) whole ∙ few next (drop end c) (omega (arith, length-drop end c, torn.no_longer))

  pub gate-crash : (kind : Crash) (outcomes : List ℕ → Type 0) → Only front outcomes
      → (c : List ℕ) → After (IsWritten kind end (0 ∷ [])) outcomes c → StillHas kind content c
  gate-crash Killed outcomes all c after =
      one-killed c (subst (λ f. IsWritten Killed end (0 ∷ []) f c) (all after.0 after.1) after.2)
  gate-crash Stopped outcomes all c after =
      one-torn c (subst (λ f. Torn end 1 f c) (all after.0 after.1) after.2) Stopped

  pub gate-is : (new : List ℕ) → Holds front end (0 ∷ []) new → new ≡ front ++ 0 ∷ []
  gate-is new holds =
      holds-at front [] (0 ∷ []) new end size (subst (λ f. Holds f end (0 ∷ []) new) (sym (append-nil front)) holds)

  gate-long : length (front ++ 0 ∷ []) ≡ end + 1
  gate-long = omega (arith, size, length-append front (0 ∷ []))

  -- the rest of the mark
  rest-killed : (c : List ℕ) → IsWritten Killed (end + 1) behind_gate (front ++ 0 ∷ []) c → (next : Crash) → content_in next c ≡ content
  rest-killed c written next =
      let at = killed-at (front ++ 0 ∷ []) [] behind_gate c (end + 1) gate-long (subst (λ f. IsWritten Killed (end + 1) behind_gate f c) (sym (append-nil (front ++ 0 ∷ []))) written) in
      let parted : c ≡ front ++ take (suc at.0) marks =
      at.1 ∙ append_assoc front (0 ∷ []) (take at.0 behind_gate ++ drop (length (take at.0 behind_gate)) [])
      ∙ ap (λ (bs : List ℕ). front ++ 0 ∷ (take at.0 behind_gate ++ bs)) (drop_all (length (take at.0 behind_gate)) [] (omega arith))
      ∙ ap (λ (bs : List ℕ). front ++ 0 ∷ bs) (append-nil (take at.0 behind_gate)) in
      ap (content_in next) parted ∙ runs next (take (suc at.0) marks)
      ∙ ap (λ (bs : List ℕ). content ++ bs) (none next at.0) ∙ append-nil content
    where
      none : (next : Crash) (n : ℕ) → content_in next (take (suc n) marks) ≡ []
      none Killed n = mark-front (suc n)
      none Stopped n = content-stop Stopped (take (suc n) marks) (closed 0 (take n behind_gate) refl)

  front-stopped : (c : List ℕ) → take (end + 1) c ≡ front ++ 0 ∷ [] → content_in Stopped c ≡ content
  front-stopped c same =
      let whole : c ≡ front ++ 0 ∷ drop (end + 1) c =
      sym (take-append-drop (end + 1) c) ∙ ap (λ (bs : List ℕ). bs ++ drop (end + 1) c) same
      ∙ append_assoc front (0 ∷ []) (drop (end + 1) c) in
      ap (content_in Stopped) whole
      ∙ runs-stop Stopped Stopped front content (0 ∷ drop (end + 1) c) (runs Stopped) (closed 0 (drop (end + 1) c) refl)

  pub rest-front : (c : List ℕ) → Torn (end + 1) 11 (front ++ 0 ∷ []) c → take (end + 1) c ≡ front ++ 0 ∷ []
  rest-front c torn =
      let all_front : end + 1 ≡ min (end + 1) (length (front ++ 0 ∷ [])) = omega (arith, gate-long) in
      ap (λ (k : ℕ). take k c) all_front ∙ torn.before ∙ take_all (end + 1) (front ++ 0 ∷ []) (omega (arith, gate-long))

  pub rest-crash : (kind : Crash) (outcomes : List ℕ → Type 0) → Only (front ++ 0 ∷ []) outcomes
      → (c : List ℕ) → After (IsWritten kind (end + 1) behind_gate) outcomes c → StillHas kind content c
  rest-crash Killed outcomes all c after =
      rest-killed c (subst (λ f. IsWritten Killed (end + 1) behind_gate f c) (all after.0 after.1) after.2)
  rest-crash Stopped outcomes all c after =
      front-stopped c (rest-front c (subst (λ f. Torn (end + 1) 11 f c) (all after.0 after.1) after.2))

  pub marked-is : (new : List ℕ) → Holds (front ++ 0 ∷ []) (end + 1) behind_gate new → new ≡ front ++ marks
  marked-is new holds =
      holds-at (front ++ 0 ∷ []) [] behind_gate new (end + 1) gate-long (subst (λ f. Holds f (end + 1) behind_gate new) (sym (append-nil (front ++ 0 ∷ []))) holds)
      ∙ append_assoc front (0 ∷ []) behind_gate

  pub marked-taken : take (end + 1) (front ++ marks) ≡ front ++ 0 ∷ []
  marked-taken = ap (take (end + 1)) (sym (append_assoc front (0 ∷ []) behind_gate)) ∙ take_at (front ++ 0 ∷ []) behind_gate (end + 1) gate-long

module _ {D : Type 0} (seen : D → List ℕ) (moment : D → ℕ) (may_leave : D → Crash → List ℕ → Type 0)
    (left_since : D → Crash → ℕ → List ℕ → Type 0)
    (alive : (file : D) → Only (seen file) (may_leave file Killed))
    (end : ℕ) (start : D) (size : length (seen start) ≡ end)
    (runs : (how : Crash) → Runs how (seen start) (content_in Stopped (seen start)) how)
    (durable : Only (seen start) (may_leave start Stopped)) (one : D)
    (first : (how : Crash) → Passes moment may_leave left_since how (IsWritten how end (0 ∷ [])) start one) where
  abbrev P : Crash → List ℕ → Type 0
  P kind = StillHas kind (content_in Stopped (seen start))

  here : (kind : Crash) (c : List ℕ) → After (IsWritten kind end (0 ∷ [])) (may_leave start kind) c → P kind c
  here kind =
      gate-crash (seen start) (content_in Stopped (seen start)) end size runs kind (may_leave start kind)
      (only seen moment may_leave left_since alive start durable kind)

  pub after-gate : (kind : Crash) → LeavesOnly moment left_since kind (P kind) start one
  after-gate kind = begins moment may_leave left_since kind (P kind) start one (IsWritten kind end (0 ∷ [])) (first kind) (here kind)

  module _ (written : Holds (seen start) end (0 ∷ []) (seen one)) (two : D)
      (second : (how : Crash) → Passes moment may_leave left_since how IsSame one two) where
    pub after-sync : (kind : Crash) → LeavesOnly moment left_since kind (P kind) start two
    after-sync kind =
        goes_on moment may_leave left_since kind (P kind) start one two IsSame (after-gate kind) (second kind)
        (after-same (P kind) (may_leave one kind) (λ c now. here kind c ((first kind).now c now)))

    module _ (same : seen two ≡ seen one) (synced : Only (seen one) (may_leave two Stopped)) (three : D)
        (third : (how : Crash) → Passes moment may_leave left_since how (IsWritten how (end + 1) behind_gate) two three) where
      is : seen two ≡ seen start ++ 0 ∷ []
      is = same ∙ gate-is (seen start) (content_in Stopped (seen start)) end size runs (seen one) written

      all : (kind : Crash) → Only (seen start ++ 0 ∷ []) (may_leave two kind)
      all kind =
          subst (λ f. Only f (may_leave two kind)) is
          (only seen moment may_leave left_since alive two (subst (λ f. Only f (may_leave two Stopped)) (sym same) synced) kind)

      pub after-all : (kind : Crash) → LeavesOnly moment left_since kind (P kind) start three
      after-all kind =
          goes_on moment may_leave left_since kind (P kind) start two three (IsWritten kind (end + 1) behind_gate) (after-sync kind) (third kind)
          (rest-crash (seen start) (content_in Stopped (seen start)) end size runs kind (may_leave two kind) (all kind))

      pub record IsMarked : Type 0 where
        pub at_rest : IsAtRest (seen three) end (end + 10)
        pub content : (how : Crash) → content_in how (seen three) ≡ content_in Stopped (seen start)
        pub front : Begin (end + 1) (seen three) (may_leave three Stopped)

      pub at_last : Holds (seen two) (end + 1) behind_gate (seen three) → IsMarked
      at_last holds =
          let last : seen three ≡ seen start ++ marks =
          marked-is (seen start) (content_in Stopped (seen start)) end size runs (seen three) (subst (λ f. Holds f (end + 1) behind_gate (seen three)) is holds) in
          record {
            at_rest = fresh-rest (seen start) (content_in Stopped (seen start)) (seen three) end runs size [] last;
            content = has last;
            front = λ c now.
                let from = (third Stopped).now c now in
                rest-front (seen start) (content_in Stopped (seen start)) end size runs c
                (subst (λ f. Torn (end + 1) 11 f c) (all Stopped from.0 from.1) from.2)
                ∙ sym (ap (take (end + 1)) last ∙ marked-taken (seen start) (content_in Stopped (seen start)) end size runs);
          }
        where
          has : seen three ≡ seen start ++ marks → (how : Crash) → content_in how (seen three) ≡ content_in Stopped (seen start)
          has last Killed = fresh-killed (seen start) (content_in Stopped (seen start)) (seen three) end runs size [] last
          has last Stopped = fresh-stopped (seen start) (content_in Stopped (seen start)) (seen three) end runs size [] last
