-- Moments with the same from outside are the same.
use Rattle.std.proofs.Common.{◌≡◌, ℕ, List, [], ◌∷◌, ◌++◌, Option, Some, length, take, refl, sym}
use Rattle.std.proofs.Common.{ap, ◌∙◌, subst, arith}
use Rattle.std.specs.List.{AllByRecursion}
use Rattle.p9_conn.specs.Conn.{Connection}
use Rattle.p9_conn.specs.Turn.{Deeds, phase_of}
use Rattle.p9_conn.specs.declared.conn.Turn.{Turn}
use Rattle.p9_clients.specs.Serving.{HasEndedAt, HasTurnAt, Serving, slot_at}
use Rattle.p9_serve.specs.Life.{Acts, Arrives, HasActed, Leaves, Moment, Pass, Passes}
use Rattle.p9_serve_laws.specs.Beside.{AreBeside}
use Rattle.p9_serve_laws.specs.Decided.{AreChosen, Chooser, ChoosersSeeTheSameMoments}
use Rattle.p9_serve_laws.specs.Decided.{TheOutsideDecidesMoments}
use Rattle.p9_serve_laws.specs.Outside.{HasTurn, given_in, outside, outsides}
use Rattle.p9_serve_laws.specs.Twins.{IsTimely}
use Rattle.p9_serve_laws.proofs.Keys.{beside-here, ended-same, taken-same, turns-at-same}

pub same-tail : {A : Type 0} (x y : A) (xs ys : List A) → (y ∷ ys) ≡ (x ∷ xs) → ys ≡ xs
same-tail x y xs ys e = cc

pub same-head : {A : Type 0} (x y : A) (xs ys : List A) → (y ∷ ys) ≡ (x ∷ xs) → y ≡ x
same-head x y xs ys e = cc

module _ {S T : Type 0} (remaining contents : S → Option (List ℕ))
    (remaining' contents' : T → Option (List ℕ)) where
  -- two turns that happened
  acts-same : (key key' clock clock' : ℕ) (old new : Serving S) (old' new' : Serving T)
      (deeds deeds' : Deeds) → AreBeside old old'
      → (t : HasActed remaining contents
      (record { session = key; clock = clock; deeds = deeds }) old new)
      → (t' : HasActed remaining' contents'
      (record { session = key'; clock = clock'; deeds = deeds' }) old' new')
      → HasTurn key' clock' (given_in (phase_of t'.conn.link) deeds')
      ≡ HasTurn key clock (given_in (phase_of t.conn.link) deeds)
      → (Acts (record { session = key'; clock = clock'; deeds = deeds' })
      ≡ Acts (record { session = key; clock = clock; deeds = deeds })) × AreBeside new new'
  acts-same key key' clock clock' old new old' new' deeds deeds' beside t t' given =
      let key-is : key' ≡ key = cc in
      let clock-is : clock' ≡ clock = cc in
      let given-is : given_in (phase_of t'.conn.link) deeds'
      ≡ given_in (phase_of t.conn.link) deeds = cc in
      let there' : slot_at old'.slots key ≡ Some t'.conn =
      subst (λ (k : ℕ). slot_at old'.slots k ≡ Some t'.conn) key-is t'.there in
      let had' = moved key key' clock clock' t'.conn old' new' t'.turn deeds' key-is clock-is t'.had
      t'.deeds_are in
      let same = turns-at-same remaining contents remaining' contents' clock key t.conn t'.conn old
      new old' new' t.turn t'.turn beside t.there there' t.had had'.0
      (ap (given_in (phase_of t'.conn.link)) had'.1 ∙ given-is
      ∙ sym (ap (given_in (phase_of t.conn.link)) t.deeds_are)) in
      let deeds-are : deeds' ≡ deeds = sym had'.1 ∙ same.deeds_are ∙ t.deeds_are in (
        (λ i. Acts (record { session = key-is i; clock = clock-is i; deeds = deeds-are i })),
        same.beside,
      )
    where
      moved : (key key' clock clock' : ℕ) (conn : Connection T) (a b : Serving T) (turn : Turn)
          (deeds : Deeds) → key' ≡ key → clock' ≡ clock
          → (had : HasTurnAt remaining' contents' clock' key' conn a b turn)
          → had.turned.deeds ≡ deeds
          → (too : HasTurnAt remaining' contents' clock key conn a b turn)
          × (too.turned.deeds ≡ deeds)
      moved key key' clock clock' conn a b turn deeds key-is clock-is had is =
          subst (λ (c : ℕ). (too : HasTurnAt remaining' contents' c key conn a b turn)
          × (too.turned.deeds ≡ deeds)) clock-is
          (subst (λ (k : ℕ). (too : HasTurnAt remaining' contents' clock' k conn a b turn)
          × (too.turned.deeds ≡ deeds)) key-is (had, is))

  moment-same : (m m' : Moment) (old new : Serving S) (old' new' : Serving T) → AreBeside old old'
      → IsTimely m → (t : Passes remaining contents m old new)
      → (t' : Passes remaining' contents' m' old' new')
      → outside remaining' contents' m' old' new' t' ≡ outside remaining contents m old new t
      → (m' ≡ m) × AreBeside new new'
  moment-same (Arrives key) (Arrives key') old new old' new' beside timely t t' given =
      let key-is : key' ≡ key = cc in (
        ap Arrives key-is,
        taken-same remaining contents remaining' contents' t.stream t'.stream old new old' new'
            beside t.taken t'.taken (t'.key_is ∙ key-is ∙ sym t.key_is),
      )
  moment-same (Arrives key) (Acts h') old new old' new' beside timely t t' given = absurd (cc)
  moment-same (Arrives key) (Leaves key' clock') old new old' new' beside timely t t' given =
      absurd (cc)
  moment-same (Acts h) (Arrives key') old new old' new' beside timely t t' given = absurd (cc)
  moment-same (Acts h) (Acts h') old new old' new' beside timely t t' given =
      acts-same h.session h'.session h.clock h'.clock old new old' new' h.deeds h'.deeds beside t t'
      given
  moment-same (Acts h) (Leaves key' clock') old new old' new' beside timely t t' given = absurd (cc)
  moment-same (Leaves key clock) (Arrives key') old new old' new' beside timely t t' given =
      absurd (cc)
  moment-same (Leaves key clock) (Acts h') old new old' new' beside timely t t' given = absurd (cc)
  moment-same (Leaves key clock) (Leaves key' clock') old new old' new' beside timely t t' given =
      let key-is : key' ≡ key = cc in
      let clock-is : clock' ≡ clock = cc in (
        (λ i. Leaves (key-is i) (clock-is i)),
        ended-same remaining contents remaining' contents' clock key t.conn t'.conn old new old'
            new'
            timely beside t.there
            (subst (λ (k : ℕ). slot_at old'.slots k ≡ Some t'.conn) key-is t'.there) t.ended
            (subst (λ (c : ℕ). HasEndedAt c key old' new') clock-is
            (subst (λ (k : ℕ). HasEndedAt clock' k old' new') key-is t'.ended)),
      )

  pub moments-same : (ms ms' : List Moment) (old new : Serving S) (old' new' : Serving T)
      → AreBeside old old' → AllByRecursion IsTimely ms
      → (t : Pass remaining contents ms old new) (t' : Pass remaining' contents' ms' old' new')
      → outsides remaining' contents' ms' old' new' t' ≡ outsides remaining contents ms old new t
      → (ms' ≡ ms) × AreBeside new new'
  moments-same [] [] old new old' new' beside timely t t' given =
      (refl, beside-here old new old' new' beside t t')
  moments-same [] (m' ∷ ms') old new old' new' beside timely t t' given = absurd (cc)
  moments-same (m ∷ ms) [] old new old' new' beside timely t t' given = absurd (cc)
  moments-same (m ∷ ms) (m' ∷ ms') old new old' new' beside timely t t' given =
      let first = moment-same m m' old t.0 old' t'.0 beside timely.0 t.1 t'.1
      (same-head _ _ _ _ given) in
      let more = moments-same ms ms' t.0 new t'.0 new' first.1 timely.1 t.2 t'.2
      (same-tail _ _ _ _ given) in
      ((λ i. first.0 i ∷ more.0 i), more.1)

  pub choosers-same : (choose : Chooser) (past ms ms' : List Moment) (old new : Serving S)
      (old' new' : Serving T) → AreBeside old old' → AllByRecursion IsTimely ms
      → (t : Pass remaining contents ms old new) (t' : Pass remaining' contents' ms' old' new')
      → AreChosen remaining contents choose past ms old new t
      → AreChosen remaining' contents' choose past ms' old' new' t'
      → (take (length ms) ms' ≡ take (length ms') ms)
      × (length ms' ≡ length ms → AreBeside new new')
  choosers-same choose past [] [] old new old' new' beside timely t t' c c' =
      (refl, λ long. beside-here old new old' new' beside t t')
  choosers-same choose past [] (m' ∷ ms') old new old' new' beside timely t t' c c' =
      (refl, λ long. absurd (omega arith))
  choosers-same choose past (m ∷ ms) [] old new old' new' beside timely t t' c c' =
      (refl, λ long. absurd (omega arith))
  choosers-same choose past (m ∷ ms) (m' ∷ ms') old new old' new' beside timely t t' c c' =
      let first = moment-same m m' old t.0 old' t'.0 beside timely.0 t.1 t'.1 (c'.0 ∙ sym c.0) in
      let chosen : AreChosen remaining' contents' choose (past ++ m ∷ []) ms' t'.0 new' t'.2 =
      subst
      (λ (z : Moment). AreChosen remaining' contents' choose (past ++ z ∷ []) ms' t'.0 new' t'.2)
      first.0 c'.1 in
      let more = choosers-same choose (past ++ m ∷ []) ms ms' t.0 new t'.0 new' first.1 timely.1 t.2
      t'.2 c.1 chosen in
      ((λ i. first.0 i ∷ more.0 i), λ long. more.1 (omega arith))

pub the-outside-decides-moments : {S T : Type 0} → TheOutsideDecidesMoments S T
the-outside-decides-moments remaining contents remaining' contents' moments moments' old new old'
    new' beside timely pass pass' given =
    moments-same remaining contents remaining' contents' moments moments' old new old' new' beside
    timely pass pass' given

pub choosers-see-the-same-moments : {S T : Type 0} → ChoosersSeeTheSameMoments S T
choosers-see-the-same-moments choose remaining contents remaining' contents' moments moments' old
    new old' new' beside timely pass pass' chosen chosen' =
    choosers-same remaining contents remaining' contents' choose [] moments moments' old new old'
    new' beside timely pass pass' chosen chosen'
