-- The turns of a round of two servers, with the same from outside.
use Rattle.std.proofs.Common.{◌≡◌, ℕ, zero, suc, ◌+◌, ◌≤◌, List, [], ◌∷◌, ◌++◌, Option, Some, None}
use Rattle.std.proofs.Common.{refl, sym, ap, ◌∙◌, subst, append-nil, append_assoc, arith, length}
use Rattle.std.proofs.lemmas.List.{get_or_past, length-set}
use Rattle.std.specs.Option.{option_map}
use Rattle.std.specs.Prelude.{count_by, map}
use Rattle.p9_conn.specs.Conn.{Connection}
use Rattle.p9_conn.specs.Turn.{phase_of}
use Rattle.p9_conn.specs.declared.conn.Turn.{Turn}
use Rattle.p9_clients.specs.Serving.{HasTurns, Serving, TurnAt, Turned, is_closed, is_moved}
use Rattle.p9_clients.specs.Serving.{slot_at, turns_of}
use Rattle.p9_clients.specs.declared.clients.Tally.{Tally}
use Rattle.p9_serve_laws.specs.Beside.{AreBeside, without_stream}
use Rattle.p9_serve_laws.specs.Decided.{AreTurnsChosen}
use Rattle.p9_serve_laws.specs.Accounts.{TurnAccount, turns_below, turns_at, turns_in}
use Rattle.p9_serve_laws.specs.Outside.{Given, given_to}
use Rattle.p9_serve_laws.proofs.Keys.{beside-here, conn-same, turns-at-same}
use Rattle.p9_serve_laws.proofs.Moments.{same-head, same-tail}

-- two lists of turns, whose next ones are given the same as long as those so far are the same
abbrev pub Agree : List TurnAccount → List TurnAccount → Type 0
Agree turns turns' =
    (past : List TurnAccount) (x y : TurnAccount) (xs ys : List TurnAccount)
    → turns ≡ past ++ x ∷ xs
    → turns' ≡ past ++ y ∷ ys → given_to y ≡ given_to x

-- so are two that are given the same throughout
behind-same : (past : List TurnAccount) (x y : TurnAccount) (xs ys : List TurnAccount)
    → map given_to (past ++ y ∷ ys) ≡ map given_to (past ++ x ∷ xs) → given_to y ≡ given_to x
behind-same [] x y xs ys e = same-head _ _ _ _ e
behind-same (p ∷ past) x y xs ys e = behind-same past x y xs ys (same-tail _ _ _ _ e)

pub given-agree : (turns turns' : List TurnAccount) → map given_to turns' ≡ map given_to turns
    → Agree turns turns'
given-agree turns turns' e past x y xs ys is is' =
    behind-same past x y xs ys (sym (ap (map given_to) is') ∙ e ∙ ap (map given_to) is)

-- and two with the same chooser
chosen-at : (choose : List TurnAccount → Given) (before past : List TurnAccount) (x : TurnAccount)
    (xs : List TurnAccount)
    → AreTurnsChosen choose before (past ++ x ∷ xs) → given_to x ≡ choose (before ++ past)
chosen-at choose before [] x xs chosen = chosen.0 ∙ ap choose (sym (append-nil before))
chosen-at choose before (p ∷ past) x xs chosen =
    chosen-at choose (before ++ p ∷ []) past x xs chosen.1
    ∙ ap choose (append_assoc before (p ∷ []) past)

pub chosen-agree : (choose : List TurnAccount → Given) (turns turns' : List TurnAccount)
    → AreTurnsChosen choose [] turns → AreTurnsChosen choose [] turns' → Agree turns turns'
chosen-agree choose turns turns' chosen chosen' past x y xs ys is is' =
    chosen-at choose [] past y ys
    (subst (λ (l : List TurnAccount). AreTurnsChosen choose [] l) is' chosen')
    ∙ sym (chosen-at choose [] past x xs
    (subst (λ (l : List TurnAccount). AreTurnsChosen choose [] l) is chosen))

-- More keys than there are slots.

abbrev pub and_more : (more keys : ℕ) → ℕ
and_more zero keys = keys
and_more (suc more) keys = suc (and_more more keys)

pub and_more-is : (more keys : ℕ) → and_more more keys ≡ more + keys
and_more-is zero keys = omega arith
and_more-is (suc more) keys = let e = and_more-is more keys in omega (arith, e)

module _ {S : Type 0} (remaining contents : S → Option (List ℕ)) (clock : ℕ) where
  turn-length : (key : ℕ) (o : Option (Connection S)) (old new : Serving S) (turn : Option Turn)
      → TurnAt remaining contents clock key o old new turn → length new.slots ≡ length old.slots
  turn-length key None old new turn t = ap (λ (s : Serving S). length s.slots) t.0
  turn-length key (Some conn) old new None t = absurd t
  turn-length key (Some conn) old new (Some turn) t =
      ap length t.slots_are ∙ length-set old.slots key _

  pub turned-length : (keys : ℕ) (old new : Serving S) (turns : List Turn)
      → Turned remaining contents clock keys old new turns → length new.slots ≡ length old.slots
  turned-length zero old new turns t = ap (λ (s : Serving S). length s.slots) t.0
  turned-length (suc key) old new turns t =
      turn-length key (slot_at t.0.slots key) t.0 new t.2 t.4
      ∙ turned-length key old t.0 t.1 t.3

  none-at : (key : ℕ) (o : Option (Connection S)) (old new : Serving S)
      (t : TurnAt remaining contents clock key o old new None)
      → turns_at remaining contents clock key o old new None t ≡ []
  none-at key None old new t = refl
  none-at key (Some conn) old new t = refl

  -- these turns are had by so many keys
  pub record Longer (keys : ℕ) (old new : Serving S) (turns : List Turn)
      (hads : List TurnAccount) : Type 0
    where
      pub turned : Turned remaining contents clock keys old new turns
      pub hads_are : turns_below remaining contents clock keys old new turns turned ≡ hads

  pub longer : (more keys : ℕ) (old new : Serving S) (turns : List Turn)
      → (t : Turned remaining contents clock keys old new turns) → length new.slots ≤ keys
      → Longer (and_more more keys) old new turns
      (turns_below remaining contents clock keys old new turns t)
  longer zero keys old new turns t few = record { turned = t; hads_are = refl }
  longer (suc more) keys old new turns t few =
      let l = longer more keys old new turns t few in
      let key = and_more more keys in
      let past : length new.slots ≤ key = omega (arith, and_more-is more keys) in
      let none : slot_at new.slots key ≡ None = get_or_past new.slots key None past in
      let at : TurnAt remaining contents clock key (slot_at new.slots key) new new None =
      subst (λ (o : Option (Connection S)). TurnAt remaining contents clock key o new new None)
      (sym none) (refl, refl) in
      record {
        turned = (new, turns, None, l.turned, at, sym (append-nil turns));
        hads_are = ap (λ (zs : List TurnAccount).
            turns_below remaining contents clock key old new turns l.turned ++ zs)
            (none-at key (slot_at new.slots key) new new at)
            ∙ append-nil _ ∙ l.hads_are;
      }

module _ {S T : Type 0} (remaining contents : S → Option (List ℕ))
    (remaining' contents' : T → Option (List ℕ)) (clock : ℕ) where
  record AtSame (new : Serving S) (new' : Serving T) (turn turn' : Option Turn)
      (hads hads' : List TurnAccount) : Type 0 where
    hads_are : hads' ≡ hads
    turn_is : turn' ≡ turn
    beside : AreBeside new new'

  at-same : (key : ℕ) (o : Option (Connection S)) (o' : Option (Connection T))
      (old new : Serving S) (old' new' : Serving T) (turn turn' : Option Turn)
      → slot_at old.slots key ≡ o → slot_at old'.slots key ≡ o' → AreBeside old old'
      → (t : TurnAt remaining contents clock key o old new turn)
      → (t' : TurnAt remaining' contents' clock key o' old' new' turn')
      → ((x y : TurnAccount) → turns_at remaining contents clock key o old new turn t ≡ x ∷ []
      → turns_at remaining' contents' clock key o' old' new' turn' t' ≡ y ∷ []
      → given_to y ≡ given_to x)
      → AtSame new new' turn turn' (turns_at remaining contents clock key o old new turn t)
      (turns_at remaining' contents' clock key o' old' new' turn' t')
  at-same key None None old new old' new' turn turn' is is' beside t t' agree = record {
    hads_are = refl;
    turn_is = t'.1 ∙ sym t.1;
    beside = beside-here old new old' new' beside t.0 t'.0;
  }
  at-same key None (Some conn') old new old' new' turn turn' is is' beside t t' agree =
      let no : Some (without_stream conn') ≡ None =
      sym (ap (option_map without_stream) is') ∙ beside.links key
      ∙ ap (option_map without_stream) is in absurd (cc)
  at-same key (Some conn) None old new old' new' turn turn' is is' beside t t' agree =
      let no : None ≡ Some (without_stream conn) =
      sym (ap (option_map without_stream) is') ∙ beside.links key
      ∙ ap (option_map without_stream) is in absurd (cc)
  at-same key (Some conn) (Some conn') old new old' new' None turn' is is' beside t t' agree =
      absurd t
  at-same key (Some conn) (Some conn') old new old' new' (Some turn) None is is' beside t t' agree =
      absurd t'
  at-same key (Some conn) (Some conn') old new old' new' (Some turn) (Some turn') is is' beside t t'
      agree =
      let shown = conn-same old old' key conn conn' (beside.links key) is is' in
      let same = turns-at-same remaining contents remaining' contents' clock key conn conn' old new
      old' new' turn turn' beside is is' t t' (agree _ _ refl refl) in
      record {
        hads_are = λ i. (record {
          phase = phase_of (shown i).1;
          happening = record { session = key; clock = clock; deeds = same.deeds_are i };
        }) ∷ [];
        turn_is = ap Some same.turn_is;
        beside = same.beside;
      }

  -- the same came of the turns of so many keys
  pub record AllSame (new : Serving S) (new' : Serving T) (turns turns' : List Turn)
      (hads hads' : List TurnAccount) : Type 0 where
    pub hads_are : hads' ≡ hads
    pub turns_are : turns' ≡ turns
    pub beside : AreBeside new new'

  pub all-same : (keys : ℕ) (old new : Serving S) (old' new' : Serving T) (turns turns' : List Turn)
      → AreBeside old old' → (t : Turned remaining contents clock keys old new turns)
      → (t' : Turned remaining' contents' clock keys old' new' turns')
      → Agree (turns_below remaining contents clock keys old new turns t)
      (turns_below remaining' contents' clock keys old' new' turns' t')
      → AllSame new new' turns turns' (turns_below remaining contents clock keys old new turns t)
      (turns_below remaining' contents' clock keys old' new' turns' t')
  all-same zero old new old' new' turns turns' beside t t' agree = record {
    hads_are = refl;
    turns_are = t'.1 ∙ sym t.1;
    beside = beside-here old new old' new' beside t.0 t'.0;
  }
  all-same (suc key) old new old' new' turns turns' beside t t' agree =
      let hads = turns_below remaining contents clock key old t.0 t.1 t.3 in
      let hads' = turns_below remaining' contents' clock key old' t'.0 t'.1 t'.3 in
      let last = turns_at remaining contents clock key (slot_at t.0.slots key) t.0 new t.2 t.4 in
      let last' = turns_at remaining' contents' clock key (slot_at t'.0.slots key) t'.0 new' t'.2
      t'.4
      in
      let front : Agree hads hads' = λ past x y xs ys is is'.
      agree past x y (xs ++ last) (ys ++ last')
      (ap (λ (zs : List TurnAccount). zs ++ last) is ∙ append_assoc past (x ∷ xs) last)
      (ap (λ (zs : List TurnAccount). zs ++ last') is' ∙ append_assoc past (y ∷ ys) last') in
      let first = all-same key old t.0 old' t'.0 t.1 t'.1 beside t.3 t'.3 front in
      let next = at-same key (slot_at t.0.slots key) (slot_at t'.0.slots key) t.0 new t'.0 new' t.2
      t'.2 refl refl first.beside t.4 t'.4
      (λ x y is is'. agree hads x y [] [] (ap (λ (zs : List TurnAccount). hads ++ zs) is)
      (λ i. first.hads_are i ++ is' i)) in
      record {
        hads_are = λ i. first.hads_are i ++ next.hads_are i;
        turns_are = t'.5 ∙ (λ i. first.turns_are i ++ turns_of (next.turn_is i)) ∙ sym t.5;
        beside = next.beside;
      }

  -- a turn of each connection
  pub tally-same : (old new : Serving S) (old' new' : Serving T) (tally tally' : Tally)
      → AreBeside old old' → (t : HasTurns remaining contents clock old new tally)
      → (t' : HasTurns remaining' contents' clock old' new' tally')
      → Agree (turns_in remaining contents clock old new tally t)
      (turns_in remaining' contents' clock old' new' tally' t')
      → (turns_in remaining' contents' clock old' new' tally' t'
      ≡ turns_in remaining contents clock old new tally t)
      × (tally' ≡ tally) × AreBeside new new'
  tally-same old new old' new' tally tally' beside t t' agree =
      let few : length new.slots ≤ t.bound =
      omega (arith, t.all, turned-length remaining contents clock t.bound old new t.turns t.turned)
      in
      let few' : length new'.slots ≤ t'.bound =
      omega (
        arith,
        t'.all,
        turned-length remaining' contents' clock t'.bound old' new' t'.turns t'.turned,
      ) in
      let keys : and_more t.bound t'.bound ≡ and_more t'.bound t.bound =
      omega (arith, and_more-is t.bound t'.bound, and_more-is t'.bound t.bound) in
      let long = longer remaining contents clock t'.bound t.bound old new t.turns t.turned few in
      let long' = subst (λ (n : ℕ). Longer remaining' contents' clock n old' new' t'.turns
      (turns_in remaining' contents' clock old' new' tally' t')) keys
      (longer remaining' contents' clock t.bound t'.bound old' new' t'.turns t'.turned few') in
      let all = all-same (and_more t'.bound t.bound) old new old' new' t.turns t'.turns beside
      long.turned long'.turned
      (λ past x y xs ys is is'. agree past x y xs ys (sym long.hads_are ∙ is)
      (sym long'.hads_are ∙ is')) in (
        sym long'.hads_are ∙ all.hads_are ∙ long.hads_are,
        (λ i. record {
          moved = (t'.moved ∙ ap (count_by is_moved) all.turns_are ∙ sym t.moved) i;
          closed = (t'.closed ∙ ap (count_by is_closed) all.turns_are ∙ sym t.closed) i;
        }),
        all.beside,
      )
