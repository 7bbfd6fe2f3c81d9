-- Rounds with the same from outside are the same, and so is the end.
use Rattle.std.proofs.Common.{◌≡◌, ℕ, zero, suc, ◌+◌, ◌≤◌, ◌<◌, ◌^◌, ◌==◌, Bool, true, false, List}
use Rattle.std.proofs.Common.{[], ◌∷◌, ◌++◌, Option, Some, None, refl, sym, ap, ◌∙◌, subst, arith}
use Rattle.std.proofs.Common.{length, cond}
use Rattle.std.proofs.lemmas.Bool.{eqb-true}
use Rattle.std.proofs.lemmas.List.{get_or_past, length-set}
use Rattle.std.proofs.lemmas.List.Sums.{sum_by-cons}
use Rattle.std.specs.Option.{option_map}
use Rattle.std.specs.Prelude.{◌||◌, count_by, is_some, map}
use Rattle.p9_conn.specs.Conn.{Connection}
use Rattle.p9_guard.specs.Guard.{Guarded}
use Rattle.p9_clients.specs.Serving.{EndAt, Ended, IsFinished, Serving, has_nobody, slot_at}
use Rattle.p9_serve.specs.Life.{HasRounds}
use Rattle.p9_serve.specs.Pace.{is_due, pacing_after}
use Rattle.p9_serve.specs.Rounds.{AcceptsIf, HasRound, Running, accepts_now, new_server, tally_of}
use Rattle.p9_serve.specs.Rounds.{untold}
use Rattle.p9_serve.specs.Served.{last_after}
use Rattle.p9_serve.specs.declared.server.Round.{Round}
use Rattle.p9_serve_laws.specs.Accounts.{Account, Beginning, account_of, accounts_of, arrival_in}
use Rattle.p9_serve_laws.specs.Beside.{AreAlikeGuards, AreBeside, AreRunningBeside, link_at}
use Rattle.p9_serve_laws.specs.Beside.{without_stream}
use Rattle.p9_serve_laws.specs.Decided.{AreRoundsChosen, AreTurnsChosen, ChoosersSeeTheSameRounds}
use Rattle.p9_serve_laws.specs.Decided.{RoundChooser, ChoosersAreServedTheSame}
use Rattle.p9_serve_laws.specs.Decided.{TheOutsideDecidesRounds, TheOutsideDecidesTheEnd}
use Rattle.p9_serve_laws.specs.Decided.{TheOutsideDecidesTurns}
use Rattle.p9_serve_laws.specs.Outside.{RoundOutside, round_outside}
use Rattle.p9_serve_laws.proofs.Keys.{beside-here, ended-same, taken-same}
use Rattle.p9_serve_laws.proofs.Likewise.{last-small}
use Rattle.p9_serve_laws.proofs.Moments.{same-head, same-tail}
use Rattle.p9_serve_laws.proofs.Turns.{Agree, and_more, and_more-is, chosen-agree, given-agree}
use Rattle.p9_serve_laws.proofs.Turns.{tally-same}

-- Whether there is a client.

-- none of the slots has one
none-there : {S : Type 0} (slots : List (Option (Connection S))) → count_by is_some slots ≡ 0
    → (key : ℕ) → slot_at slots key ≡ None
none-there [] none key = get_or_past [] key None (omega arith)
none-there (None ∷ slots) none zero = refl
none-there (None ∷ slots) none (suc key) = none-there slots (omega (arith, none)) key
none-there (Some conn ∷ slots) none key =
    let one : count_by is_some (Some conn ∷ slots) ≡ 1 + count_by is_some slots =
    sum_by-cons (λ o. cond (is_some o) 1 0) (Some conn) slots in absurd (omega (arith, one, none))

count-none : {S : Type 0} (slots : List (Option (Connection S)))
    → ((key : ℕ) → slot_at slots key ≡ None) → count_by is_some slots ≡ 0
count-none [] none = refl
count-none (None ∷ slots) none =
    let more = count-none slots (λ key. none (suc key)) in omega (arith, more)
count-none (Some conn ∷ slots) none =
    let no : Some conn ≡ None = none 0 in absurd (cc)

-- a slot that shows nothing is free
shows-none : {S : Type 0} (o : Option (Connection S)) → option_map without_stream o ≡ None
    → o ≡ None
shows-none None e = refl
shows-none (Some conn) e = absurd (cc)

nobody-too : {S T : Type 0} (a : Serving S) (b : Serving T)
    → ((key : ℕ) → link_at b key ≡ link_at a key) → has_nobody a ≡ true → has_nobody b ≡ true
nobody-too a b links e =
    let none : count_by is_some a.slots ≡ 0 = eqb-true (count_by is_some a.slots) 0 e in
    let none' : count_by is_some b.slots ≡ 0 = count-none b.slots (λ key.
    shows-none (slot_at b.slots key)
    (links key ∙ ap (option_map without_stream) (none-there a.slots none key))) in
    ap (λ (n : ℕ). n == 0) none'

same-nobody : {S T : Type 0} (a : Serving S) (b : Serving T)
    → ((key : ℕ) → link_at b key ≡ link_at a key) → has_nobody b ≡ has_nobody a
same-nobody a b links = go (has_nobody a) (has_nobody b) refl refl
  where
    go : (x y : Bool) → has_nobody a ≡ x → has_nobody b ≡ y → has_nobody b ≡ has_nobody a
    go true y is is' = nobody-too a b links is ∙ sym is
    go false false is is' = is' ∙ sym is
    go false true is is' = is' ∙ sym (nobody-too b a (λ key. sym (links key)) is')

module _ {S T : Type 0} (remaining contents : S → Option (List ℕ))
    (remaining' contents' : T → Option (List ℕ)) where
  -- Accepts.

  same-accepts : (old : Running S) (old' : Running T) → AreRunningBeside old old'
      → accepts_now old' ≡ accepts_now old
  same-accepts old old' beside =
      λ i. is_due (beside.pace i)
      || same-nobody old.serving old'.serving beside.serving.links i

  accept-same : (made : Bool) (old new : Serving S) (old' new' : Serving T) (accepted accepted' : ℕ)
      → AreBeside old old' → (t : AcceptsIf made old new accepted)
      → (t' : AcceptsIf made old' new' accepted')
      → arrival_in made old' new' accepted' t' ≡ arrival_in made old new accepted t
      → (accepted' ≡ accepted) × AreBeside new new'
  accept-same true old new old' new' zero zero beside t t' same =
      (refl, beside-here old new old' new' beside t t')
  accept-same true old new old' new' zero (suc zero) beside t t' same =
      let no : Some t'.1.key ≡ None = same in absurd (cc)
  accept-same true old new old' new' zero (suc (suc more)) beside t t' same = absurd t'
  accept-same true old new old' new' (suc zero) zero beside t t' same =
      let no : None ≡ Some t.1.key = same in absurd (cc)
  accept-same true old new old' new' (suc zero) (suc zero) beside t t' same =
      let some : Some t'.1.key ≡ Some t.1.key = same in (
        refl,
        taken-same remaining contents remaining' contents' t.0 t'.0 old new old' new' beside t.1
            t'.1 (cc),
      )
  accept-same true old new old' new' (suc zero) (suc (suc more)) beside t t' same = absurd t'
  accept-same true old new old' new' (suc (suc more)) accepted' beside t t' same = absurd t
  accept-same false old new old' new' accepted accepted' beside t t' same =
      (t'.1 ∙ sym t.1, beside-here old new old' new' beside t.0 t'.0)

  -- Rounds.

  round-same : (clock : ℕ) (old new : Running S) (old' new' : Running T) (round round' : Round)
      → AreRunningBeside old old' → (t : HasRound remaining contents clock old new round)
      → (t' : HasRound remaining' contents' clock old' new' round')
      → (account_of remaining' contents' clock old' new' round' t').beginning.arrival
      ≡ (account_of remaining contents clock old new round t).beginning.arrival
      → Agree (account_of remaining contents clock old new round t).turns
      (account_of remaining' contents' clock old' new' round' t').turns
      → (account_of remaining' contents' clock old' new' round' t'
      ≡ account_of remaining contents clock old new round t) × AreRunningBeside new new'
  round-same clock old new old' new' round round' beside t t' arrival agree =
      let made = accepts_now old in
      let arrival-of = arrival_in made old.serving t.between round.accepted t.accepted in
      let there : (a : AcceptsIf made old'.serving t'.between round'.accepted)
      × (arrival_in made old'.serving t'.between round'.accepted a ≡ arrival-of) =
      subst (λ (m : Bool). (a : AcceptsIf m old'.serving t'.between round'.accepted)
      × (arrival_in m old'.serving t'.between round'.accepted a ≡ arrival-of))
      (same-accepts old old' beside) (t'.accepted, arrival) in
      let accept = accept-same made old.serving t.between old'.serving t'.between round.accepted
      round'.accepted beside.serving t.accepted there.0 there.1 in
      let turns = tally-same remaining contents remaining' contents' clock t.between new.serving
      t'.between new'.serving (tally_of round) (tally_of round') accept.1 t.turned t'.turned agree
      in
      let round-is : round' ≡ round = λ i. record {
        accepted = accept.0 i;
        moved = (turns.1 i).moved;
        closed = (turns.1 i).closed;
      } in (
        (λ i. record {
          beginning = record { clock = clock; arrival = arrival i };
          turns = turns.0 i;
          round = round-is i;
        }),
        record {
          serving = turns.2;
          pace = t'.pace_is ∙ (λ i. pacing_after (beside.pace i) (round-is i)) ∙ sym t.pace_is;
        },
      )

  -- at readings of the clock that are equal
  round-beside : (clock clock' : ℕ) (old new : Running S) (old' new' : Running T)
      (round round' : Round)
      → AreRunningBeside old old' → (t : HasRound remaining contents clock old new round)
      → (t' : HasRound remaining' contents' clock' old' new' round')
      → (account_of remaining' contents' clock' old' new' round' t').beginning
      ≡ (account_of remaining contents clock old new round t).beginning
      → Agree (account_of remaining contents clock old new round t).turns
      (account_of remaining' contents' clock' old' new' round' t').turns
      → (account_of remaining' contents' clock' old' new' round' t'
      ≡ account_of remaining contents clock old new round t) × AreRunningBeside new new'
  round-beside clock clock' old new old' new' round round' beside t t' begins agree =
      let account' = account_of remaining' contents' clock' old' new' round' t' in
      let account = account_of remaining contents clock old new round t in
      let there : (u : HasRound remaining' contents' clock old' new' round')
      × (account_of remaining' contents' clock old' new' round' u ≡ account') =
      subst (λ (c : ℕ). (u : HasRound remaining' contents' c old' new' round')
      × (account_of remaining' contents' c old' new' round' u ≡ account'))
      (ap (λ (b : Beginning). b.clock) begins) (t', refl) in
      let same = round-same clock old new old' new' round round' beside t there.0
      (ap (λ (a : Account). a.beginning.arrival) there.1
      ∙ ap (λ (b : Beginning). b.arrival) begins)
      (λ past x y xs ys is is'. agree past x y xs ys is
      (sym (ap (λ (a : Account). a.turns) there.1) ∙ is')) in
      (sym there.1 ∙ same.0, same.1)

  running-here : (old new : Running S) (old' new' : Running T) → AreRunningBeside old old'
      → new ≡ old → new' ≡ old' → AreRunningBeside new new'
  running-here old new old' new' beside same same' =
      subst (λ (r : Running S). AreRunningBeside r new') (sym same)
      (subst (λ (r : Running T). AreRunningBeside old r) (sym same') beside)

  pub rounds-same : (clocks clocks' : List ℕ) (old new : Running S) (old' new' : Running T)
      → AreRunningBeside old old' → (t : HasRounds remaining contents clocks old new)
      → (t' : HasRounds remaining' contents' clocks' old' new')
      → map round_outside (accounts_of remaining' contents' clocks' old' new' t')
      ≡ map round_outside (accounts_of remaining contents clocks old new t)
      → (accounts_of remaining' contents' clocks' old' new' t'
      ≡ accounts_of remaining contents clocks old new t) × AreRunningBeside new new'
  rounds-same [] [] old new old' new' beside t t' given =
      (refl, running-here old new old' new' beside t t')
  rounds-same [] (clock' ∷ clocks') old new old' new' beside t t' given = absurd (cc)
  rounds-same (clock ∷ clocks) [] old new old' new' beside t t' given = absurd (cc)
  rounds-same (clock ∷ clocks) (clock' ∷ clocks') old new old' new' beside t t' given =
      let head = same-head _ _ _ _ given in
      let first = round-beside clock clock' old t.0 old' t'.0 t.1 t'.1 beside t.2 t'.2
      (ap (λ (o : RoundOutside). o.beginning) head)
      (given-agree _ _ (ap (λ (o : RoundOutside). o.given) head)) in
      let more = rounds-same clocks clocks' t.0 new t'.0 new' first.1 t.3 t'.3
      (same-tail _ _ _ _ given) in
      ((λ i. first.0 i ∷ more.0 i), more.1)

  pub rounds-chosen : (choose : RoundChooser) (past : List Account) (clocks clocks' : List ℕ)
      (old new : Running S) (old' new' : Running T) → AreRunningBeside old old'
      → (t : HasRounds remaining contents clocks old new)
      → (t' : HasRounds remaining' contents' clocks' old' new')
      → AreRoundsChosen choose past (accounts_of remaining contents clocks old new t)
      → AreRoundsChosen choose past (accounts_of remaining' contents' clocks' old' new' t')
      → length clocks' ≡ length clocks
      → (accounts_of remaining' contents' clocks' old' new' t'
      ≡ accounts_of remaining contents clocks old new t) × AreRunningBeside new new'
  rounds-chosen choose past [] [] old new old' new' beside t t' c c' long =
      (refl, running-here old new old' new' beside t t')
  rounds-chosen choose past [] (clock' ∷ clocks') old new old' new' beside t t' c c' long =
      absurd (omega arith)
  rounds-chosen choose past (clock ∷ clocks) [] old new old' new' beside t t' c c' long =
      absurd (omega arith)
  rounds-chosen choose past (clock ∷ clocks) (clock' ∷ clocks') old new old' new' beside t t' c c'
      long =
      let account = account_of remaining contents clock old t.0 t.1 t.2 in
      let account' = account_of remaining' contents' clock' old' t'.0 t'.1 t'.2 in
      let begins : account'.beginning ≡ account.beginning = c'.0 ∙ sym c.0 in
      let first = round-beside clock clock' old t.0 old' t'.0 t.1 t'.1 beside t.2 t'.2 begins
      (chosen-agree (choose.gives past account.beginning) account.turns account'.turns c.1
      (subst (λ (b : Beginning). AreTurnsChosen (choose.gives past b) [] account'.turns) begins
      c'.1)) in
      let later = accounts_of remaining' contents' clocks' t'.0 new' t'.3 in
      let more = rounds-chosen choose (past ++ account ∷ []) clocks clocks' t.0 new t'.0 new'
      first.1
      t.3 t'.3 c.2
      (subst (λ (a : Account). AreRoundsChosen choose (past ++ a ∷ []) later) first.0 c'.2)
      (omega arith) in
      ((λ i. first.0 i ∷ more.0 i), more.1)

-- The end.

module _ {S : Type 0} (clock : ℕ) where
  end-length : (key : ℕ) (o : Option (Connection S)) (old new : Serving S)
      → EndAt clock key o old new → length new.slots ≡ length old.slots
  end-length key None old new t = ap (λ (s : Serving S). length s.slots) t
  end-length key (Some conn) old new t = ap length t.slots_are ∙ length-set old.slots key None

  ended-length : (keys : ℕ) (old new : Serving S) → Ended clock keys old new
      → length new.slots ≡ length old.slots
  ended-length zero old new t = ap (λ (s : Serving S). length s.slots) t
  ended-length (suc key) old new t =
      end-length key (slot_at t.0.slots key) t.0 new t.2 ∙ ended-length key old t.0 t.1

  ended-longer : (more keys : ℕ) (old new : Serving S) → Ended clock keys old new
      → length new.slots ≤ keys → Ended clock (and_more more keys) old new
  ended-longer zero keys old new t few = t
  ended-longer (suc more) keys old new t few =
      let key = and_more more keys in
      let past : length new.slots ≤ key = omega (arith, and_more-is more keys) in
      let none : slot_at new.slots key ≡ None = get_or_past new.slots key None past in (
        new,
        ended-longer more keys old new t few,
        subst (λ (o : Option (Connection S)). EndAt clock key o new new) (sym none) refl,
      )

module _ {S T : Type 0} (remaining contents : S → Option (List ℕ))
    (remaining' contents' : T → Option (List ℕ)) (clock : ℕ) (small : clock < 2 ^ 32) where
  end-same : (key : ℕ) (o : Option (Connection S)) (o' : Option (Connection T))
      (old new : Serving S) (old' new' : Serving T)
      → slot_at old.slots key ≡ o → slot_at old'.slots key ≡ o' → AreBeside old old'
      → EndAt clock key o old new → EndAt clock key o' old' new' → AreBeside new new'
  end-same key None None old new old' new' is is' beside t t' =
      beside-here old new old' new' beside t t'
  end-same key None (Some conn') old new old' new' is is' beside t t' =
      let no : Some (without_stream conn') ≡ None =
      sym (ap (option_map without_stream) is') ∙ beside.links key
      ∙ ap (option_map without_stream) is in absurd (cc)
  end-same key (Some conn) None old new old' new' is is' beside t t' =
      let no : None ≡ Some (without_stream conn) =
      sym (ap (option_map without_stream) is') ∙ beside.links key
      ∙ ap (option_map without_stream) is in absurd (cc)
  end-same key (Some conn) (Some conn') old new old' new' is is' beside t t' =
      ended-same remaining contents remaining' contents' clock key conn conn' old new old' new'
      small
      beside is is' t t'

  ends-same : (keys : ℕ) (old new : Serving S) (old' new' : Serving T) → AreBeside old old'
      → Ended clock keys old new → Ended clock keys old' new' → AreBeside new new'
  ends-same zero old new old' new' beside t t' =
      beside-here old new old' new' beside t t'
  ends-same (suc key) old new old' new' beside t t' =
      end-same key (slot_at t.0.slots key) (slot_at t'.0.slots key) t.0 new t'.0 new' refl refl
      (ends-same key old t.0 old' t'.0 beside t.1 t'.1) t.2 t'.2

pub the-outside-decides-rounds : {S T : Type 0} → TheOutsideDecidesRounds S T
the-outside-decides-rounds remaining contents remaining' contents' clocks clocks' old new old' new'
    beside had had' given =
    rounds-same remaining contents remaining' contents' clocks clocks' old new old' new' beside had
    had' given

pub choosers-see-the-same-rounds : {S T : Type 0} → ChoosersSeeTheSameRounds S T
choosers-see-the-same-rounds choose remaining contents remaining' contents' clocks clocks' old new
    old' new' beside had had' chosen chosen' long =
    rounds-chosen remaining contents remaining' contents' choose [] clocks clocks' old new old' new'
    beside had had' chosen chosen' long

pub the-outside-decides-the-end : {S T : Type 0} → TheOutsideDecidesTheEnd S T
the-outside-decides-the-end {S} {T} last old old' left left' beside small t t' =
    let bound = t.bound in
    let bound' = t'.bound in
    let few : length t.last.slots ≤ bound =
    omega (arith, t.all, ended-length last bound old t.last t.ended) in
    let few' : length t'.last.slots ≤ bound' =
    omega (arith, t'.all, ended-length last bound' old' t'.last t'.ended) in
    let keys : and_more bound bound' ≡ and_more bound' bound =
    omega (arith, and_more-is bound bound', and_more-is bound' bound) in
    let long = ended-longer last bound' bound old t.last t.ended few in
    let long' = subst (λ (n : ℕ). Ended last n old' t'.last) keys
    (ended-longer last bound bound' old' t'.last t'.ended few') in
    let same = ends-same {S = S} {T = T} untold untold untold untold last small
    (and_more bound' bound) old t.last old' t'.last beside long long' in
    subst (λ (g : Guarded). AreAlikeGuards g left') (sym t.guard_is)
    (subst (λ (g : Guarded). AreAlikeGuards t.last.guard g) (sym t'.guard_is) same.guards)

pub the-outside-decides-turns : {S T : Type 0} → TheOutsideDecidesTurns S T
the-outside-decides-turns remaining contents remaining' contents' clock old new old' new' tally
    tally' beside had had' given =
    tally-same remaining contents remaining' contents' clock old new old' new' tally tally' beside
    had
    had' (given-agree _ _ given)

-- Serving.

-- the readings of the clock in rounds
clocks-in : {S : Type 0} (remaining contents : S → Option (List ℕ)) (clocks : List ℕ)
    (old new : Running S) (t : HasRounds remaining contents clocks old new)
    → map (λ (a : Account). a.beginning.clock) (accounts_of remaining contents clocks old new t)
    ≡ clocks
clocks-in remaining contents [] old new t = refl
clocks-in remaining contents (clock ∷ clocks) old new t =
    ap (λ (more : List ℕ). clock ∷ more) (clocks-in remaining contents clocks t.0 new t.3)

pub choosers-are-served-the-same : {S T : Type 0} → ChoosersAreServedTheSame S T
choosers-are-served-the-same {S} {T} choose remaining contents remaining' contents' guard guard'
    left left' rounds before after before' after' alike served served' chosen chosen' =
    let old : Serving S = record { guard = guard; slots = [] } in
    let old' : Serving T = record { guard = guard'; slots = [] } in
    let beside : AreRunningBeside (new_server old) (new_server old') = record {
      serving = record {
        guards = record { guarded = served.guarded; alike = alike };
        links = λ key. refl;
      };
      pace = refl;
    } in
    let had = served.had in
    let had' = served'.had in
    let same = rounds-chosen remaining contents remaining' contents' choose [] had.readings
    had'.readings (new_server old) served.running (new_server old') served'.running beside
    had.happened had'.happened chosen chosen' (had'.count ∙ sym had.count) in
    let readings : had'.readings ≡ had.readings =
    sym (clocks-in remaining' contents' had'.readings (new_server old') served'.running
    had'.happened)
    ∙ ap (map (λ (a : Account). a.beginning.clock)) same.0
    ∙ clocks-in remaining contents had.readings (new_server old) served.running had.happened in
    let last : served'.last ≡ served.last =
    had'.last_is ∙ ap (last_after 0) readings ∙ sym had.last_is in
    let small : served.last < 2 ^ 32 =
    subst (λ (n : ℕ). n < 2 ^ 32) (sym had.last_is)
    (last-small 0 had.readings (omega arith) had.small) in
    let finished' : IsFinished served.last served'.running.serving left' =
    subst (λ (n : ℕ). IsFinished n served'.running.serving left') last served'.finished in (
      same.0,
      the-outside-decides-the-end {S = S} {T = T} served.last served.running.serving
          served'.running.serving left left' same.1.serving small served.finished finished',
    )
