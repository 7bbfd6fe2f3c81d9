-- What one server may do, its twin may do.
use Rattle.std.proofs.Common.{◌≡◌, ℕ, zero, suc, ◌<◌, ◌^◌, Bool, true, false, List, [], ◌∷◌, ◌++◌}
use Rattle.std.proofs.Common.{Option, Some, None, refl, sym, ap, ◌∙◌, subst, arith, ◌≤◌, length}
use Rattle.std.specs.Prelude.{◌==◌, ◌||◌, count_by, is_some, slice_set, if◌then◌else◌}
use Rattle.std.specs.List.{AllByRecursion}
use Rattle.p9_step.specs.Event.{Close, Event, IsEvent, Open}
use Rattle.p9_step.specs.State.{session_at}
use Rattle.p9_step.specs.Step.{step}
use Rattle.p9_guard.specs.Guard.{Guarded}
use Rattle.p9_guard_laws.specs.Alike.{AreAlike}
use Rattle.p9_guard_laws.specs.Guarded.{IsGuardedState}
use Rattle.p9_guard_laws.proofs.Guards.{alike_guarded}
use Rattle.p9_conn.specs.Conn.{Connection, scene}
use Rattle.p9_conn.specs.Turn.{Deeds, phase_of}
use Rattle.p9_conn.specs.declared.conn.Turn.{Turn}
use Rattle.p9_clients.specs.Serving.{EndAt, Ended, HasEndedAt, HasTurnAt, IsTakenIn, Serving}
use Rattle.p9_clients.specs.Serving.{TurnAt, Turned, in_state, slot_at}
use Rattle.p9_serve.specs.Life.{Acts, Arrives, HasRounds, Leaves, Moment, Pass, Passes}
use Rattle.p9_serve.specs.Rounds.{AcceptsIf, HasRound, Running, accepts_now, new_server, untold}
use Rattle.p9_serve.specs.Served.{last_after}
use Rattle.p9_serve.specs.Pace.{Pacing, is_due, pacing_after}
use Rattle.p9_serve.specs.declared.server.Round.{Round}
use Rattle.p9_serve_laws.specs.Accounts.{TurnAccount, account_of, accounts_of, turns_below}
use Rattle.p9_serve_laws.specs.Accounts.{arrival_in, turns_at}
use Rattle.p9_serve_laws.specs.Beside.{AreAlikeGuards, AreRunningTwins, AreTwins}
use Rattle.p9_serve_laws.specs.Twins.{AlikeGuardsMayBeServedTheSame, IsTimely, TwinsMayEndTheSame}
use Rattle.p9_serve_laws.specs.Twins.{TwinsMayHaveTheSameRound, TwinsMayHaveTheSameRounds}
use Rattle.p9_serve_laws.specs.Twins.{TwinsMayPassTheSameMoments}
use Rattle.p9_serve_laws.proofs.Steps.{AreBoth, both-step, turns-too}

-- alike guards, and their states
pub both-of : (a b : Guarded) → AreAlikeGuards a b → AreBoth a.hidden a.start a.state b.state
both-of a b guards = record { guarded = guards.guarded; alike = guards.alike }

pub guards-of : (old new other : Guarded) → new ≡ in_state old new.state
    → AreBoth old.hidden old.start new.state other.state → AreAlikeGuards new other
guards-of old new other is both = record {
  guarded = subst (λ (g : Guarded). IsGuardedState g.hidden g.start new.state) (sym is)
      both.guarded;
  alike = subst (λ (g : Guarded). AreAlike g.hidden new.state other.state) (sym is) both.alike;
}

-- a guard after one event
pub guards-step : (old new old' new' : Guarded) (event : Event) → AreAlikeGuards old old'
    → IsEvent event → new ≡ in_state old (step old.state event false).state
    → new' ≡ in_state old' (step old'.state event false).state → AreAlikeGuards new new'
guards-step old new old' new' event guards fine is is' =
    let both = both-step old.hidden old.start old.state old'.state event false
    (both-of old old' guards) fine in
    subst (λ (g : Guarded). AreAlikeGuards g new') (sym is)
    (subst (λ (g : Guarded). AreAlikeGuards (in_state old (step old.state event false).state) g)
    (sym is')
    (record { guarded = both.guarded; alike = both.alike }))

module _ {S : Type 0} (remaining contents : S → Option (List ℕ)) where
  twins-here : (old new old' : Serving S) → new ≡ old → AreTwins old old' → AreTwins new old'
  twins-here old new old' same twins = subst (λ (s : Serving S). AreTwins s old') (sym same) twins

  -- Turns.

  record TurnsAtToo (clock key : ℕ) (conn : Connection S) (new old' : Serving S) (turn : Turn)
      (deeds : Deeds) : Type 0 where
    other : Serving S
    had : HasTurnAt remaining contents clock key conn old' other turn
    deeds_are : had.turned.deeds ≡ deeds
    twins : AreTwins new other

  turns-at-too : (clock key : ℕ) (conn : Connection S) (old new old' : Serving S) (turn : Turn)
      → AreTwins old old' → (t : HasTurnAt remaining contents clock key conn old new turn)
      → TurnsAtToo clock key conn new old' turn t.turned.deeds
  turns-at-too clock key conn old new old' turn twins t =
      let turned = t.turned in
      let too = turns-too old.guard.hidden old.guard.start (phase_of conn.link) conn.session clock
      (scene conn old.guard) (scene t.after new.guard) old'.guard.state turned.deeds
      (both-of old.guard old'.guard twins.guards) turned.turn in
      let other : Serving S =
      record { guard = in_state old'.guard too.other; slots = new.slots } in
      record {
        other = other;
        had = record {
          after = t.after;
          turned = record {
            deeds = turned.deeds;
            turn = too.turn;
            stream = turned.stream;
            session_is = turned.session_is;
            guard_is = refl;
            result_is = turned.result_is;
          };
          slots_are = t.slots_are
              ∙ ap
              (λ slots. slice_set slots key (if t.after.link.closed then None else Some t.after))
              (sym twins.slots);
        };
        deeds_are = refl;
        twins = record {
          guards = guards-of old.guard new.guard other.guard turned.guard_is too.both;
          slots = refl;
        };
      }

  -- the same turn at a key, or none
  record TurnToo (clock key : ℕ) (o : Option (Connection S)) (new old' : Serving S)
      (turn : Option Turn) (hads : List TurnAccount) : Type 0 where
    other : Serving S
    at : TurnAt remaining contents clock key o old' other turn
    hads_are : turns_at remaining contents clock key o old' other turn at ≡ hads
    twins : AreTwins new other

  turn-too : (clock key : ℕ) (o : Option (Connection S)) (old new old' : Serving S)
      (turn : Option Turn) → AreTwins old old'
      → (t : TurnAt remaining contents clock key o old new turn)
      → TurnToo clock key o new old' turn (turns_at remaining contents clock key o old new turn t)
  turn-too clock key None old new old' turn twins t = record {
    other = old';
    at = (refl, t.1);
    hads_are = refl;
    twins = twins-here old new old' t.0 twins;
  }
  turn-too clock key (Some conn) old new old' None twins t = absurd t
  turn-too clock key (Some conn) old new old' (Some turn) twins t =
      let too = turns-at-too clock key conn old new old' turn twins t in
      record {
        other = too.other;
        at = too.had;
        hads_are = ap (λ (deeds : Deeds).
            let had : TurnAccount = record {
              phase = phase_of conn.link;
              happening = record { session = key; clock = clock; deeds = deeds };
            } in had ∷ []) too.deeds_are;
        twins = too.twins;
      }

  record TurnedToo (clock keys : ℕ) (new old' : Serving S) (turns : List Turn)
      (hads : List TurnAccount)
      : Type 0 where
    other : Serving S
    turned : Turned remaining contents clock keys old' other turns
    hads_are : turns_below remaining contents clock keys old' other turns turned ≡ hads
    twins : AreTwins new other

  turned-too : (clock keys : ℕ) (old new old' : Serving S) (turns : List Turn) → AreTwins old old'
      → (t : Turned remaining contents clock keys old new turns)
      → TurnedToo clock keys new old' turns
      (turns_below remaining contents clock keys old new turns t)
  turned-too clock zero old new old' turns twins t = record {
    other = old';
    turned = (refl, t.1);
    hads_are = refl;
    twins = twins-here old new old' t.0 twins;
  }
  turned-too clock (suc key) old new old' turns twins t =
      let first = turned-too clock key old t.0 old' t.1 twins t.3 in
      let next = turn-too clock key (slot_at t.0.slots key) t.0 new first.other t.2 first.twins t.4
      in
      let hads = turns_at remaining contents clock key (slot_at t.0.slots key) t.0 new t.2 t.4 in
      let here : TurnToo clock key (slot_at first.other.slots key) new first.other t.2 hads =
      subst (λ (o : Option (Connection S)). TurnToo clock key o new first.other t.2 hads)
      (ap (λ slots. slot_at slots key) (sym first.twins.slots)) next in
      record {
        other = here.other;
        turned = (first.other, t.1, t.2, first.turned, here.at, t.5);
        hads_are = λ i. first.hads_are i ++ here.hads_are i;
        twins = here.twins;
      }

  -- Arrivals.

  taken-too : (stream : S) (old new old' : Serving S) → AreTwins old old'
      → (t : IsTakenIn stream old new)
      → (new' : Serving S) × (too : IsTakenIn stream old' new') × (too.key ≡ t.key)
      × AreTwins new new'
  taken-too stream old new old' twins t =
      let other : Serving S = record {
        guard = in_state old'.guard (step old'.guard.state (Open t.key) false).state;
        slots = new.slots;
      } in (
        other,
        record {
          key = t.key;
          was_free = ap (λ slots. slot_at slots t.key) twins.slots ∙ t.was_free;
          was_closed = ap (λ sessions. session_at t.key sessions) twins.guards.alike.sessions
              ∙ t.was_closed;
          here = t.here;
          others = λ k ne. t.others k ne ∙ ap (λ slots. slot_at slots k) (sym twins.slots);
          guard_is = refl;
        },
        refl,
        record {
          guards = guards-step old.guard new.guard old'.guard other.guard (Open t.key)
              twins.guards tt t.guard_is refl;
          slots = refl;
        },
      )

  -- the same accept, if one is made
  record AcceptToo (made : Bool) (new old' : Serving S) (accepted : ℕ) (arrival : Option ℕ) : Type 0
    where
      other : Serving S
      accepts : AcceptsIf made old' other accepted
      arrival_is : arrival_in made old' other accepted accepts ≡ arrival
      twins : AreTwins new other

  accept-too : (made : Bool) (old new old' : Serving S) (accepted : ℕ) → AreTwins old old'
      → (t : AcceptsIf made old new accepted)
      → AcceptToo made new old' accepted (arrival_in made old new accepted t)
  accept-too true old new old' zero twins t = record {
    other = old';
    accepts = refl;
    arrival_is = refl;
    twins = twins-here old new old' t twins;
  }
  accept-too true old new old' (suc zero) twins t =
      let too = taken-too t.0 old new old' twins t.1 in
      record {
        other = too.0;
        accepts = (t.0, too.1);
        arrival_is = ap (λ (key : ℕ). Some key) too.2;
        twins = too.3;
      }
  accept-too true old new old' (suc (suc more)) twins t = absurd t
  accept-too false old new old' accepted twins t = record {
    other = old';
    accepts = (refl, t.1);
    arrival_is = refl;
    twins = twins-here old new old' t.0 twins;
  }

  -- Ends.

  ended-too : (clock key : ℕ) (old new old' : Serving S) → clock < 2 ^ 32 → AreTwins old old'
      → HasEndedAt clock key old new
      → (new' : Serving S) × HasEndedAt clock key old' new' × AreTwins new new'
  ended-too clock key old new old' small twins t =
      let other : Serving S = record {
        guard = in_state old'.guard (step old'.guard.state (Close key clock) false).state;
        slots = new.slots;
      } in (
        other,
        record {
          guard_is = refl;
          slots_are = t.slots_are ∙ ap (λ slots. slice_set slots key None) (sym twins.slots);
        },
        record {
          guards = guards-step old.guard new.guard old'.guard other.guard (Close key clock)
              twins.guards small t.guard_is refl;
          slots = refl;
        },
      )

  end-too : (clock key : ℕ) (o : Option (Connection S)) (old new old' : Serving S)
      → clock < 2 ^ 32 → AreTwins old old' → EndAt clock key o old new
      → (new' : Serving S) × EndAt clock key o old' new' × AreTwins new new'
  end-too clock key None old new old' small twins t =
      (old', refl, twins-here old new old' t twins)
  end-too clock key (Some conn) old new old' small twins t =
      ended-too clock key old new old' small twins t

  ends-too : (clock keys : ℕ) (old new old' : Serving S) → clock < 2 ^ 32 → AreTwins old old'
      → Ended clock keys old new
      → (new' : Serving S) × Ended clock keys old' new' × AreTwins new new'
  ends-too clock zero old new old' small twins t =
      (old', refl, twins-here old new old' t twins)
  ends-too clock (suc key) old new old' small twins t =
      let first = ends-too clock key old t.0 old' small twins t.1 in
      let next = end-too clock key (slot_at t.0.slots key) t.0 new first.0 small first.2 t.2 in
      let here : EndAt clock key (slot_at first.0.slots key) first.0 next.0 =
      subst (λ (o : Option (Connection S)). EndAt clock key o first.0 next.0)
      (ap (λ slots. slot_at slots key) (sym first.2.slots)) next.1 in
      (next.0, (first.0, first.1, here), next.2)

  -- Moments.

  moment-too : (moment : Moment) (old new old' : Serving S) → AreTwins old old' → IsTimely moment
      → Passes remaining contents moment old new
      → (new' : Serving S) × Passes remaining contents moment old' new' × AreTwins new new'
  moment-too (Arrives key) old new old' twins timely t =
      let too = taken-too t.stream old new old' twins t.taken in
      (too.0, record { stream = t.stream; taken = too.1; key_is = too.2 ∙ t.key_is }, too.3)
  moment-too (Acts h) old new old' twins timely t =
      let too = turns-at-too h.clock h.session t.conn old new old' t.turn twins t.had in (
        too.other,
        record {
          conn = t.conn;
          there = ap (λ slots. slot_at slots h.session) twins.slots ∙ t.there;
          turn = t.turn;
          had = too.had;
          deeds_are = too.deeds_are ∙ t.deeds_are;
        },
        too.twins,
      )
  moment-too (Leaves key clock) old new old' twins timely t =
      let too = ended-too clock key old new old' timely twins t.ended in (
        too.0,
        record {
          conn = t.conn;
          there = ap (λ slots. slot_at slots key) twins.slots ∙ t.there;
          ended = too.1;
        },
        too.2,
      )

  moments-too : (moments : List Moment) (old new old' : Serving S) → AreTwins old old'
      → AllByRecursion IsTimely moments → Pass remaining contents moments old new
      → (new' : Serving S) × Pass remaining contents moments old' new' × AreTwins new new'
  moments-too [] old new old' twins timely t = (old', refl, twins-here old new old' t twins)
  moments-too (m ∷ ms) old new old' twins timely t =
      let first = moment-too m old t.0 old' twins timely.0 t.1 in
      let next = moments-too ms t.0 new first.0 first.2 timely.1 t.2 in
      (next.0, (first.0, first.1, next.1), next.2)

  -- Rounds.

  same-accepts : (old old' : Running S) → AreRunningTwins old old'
      → accepts_now old' ≡ accepts_now old
  same-accepts old old' twins =
      ap (λ (p : Pacing). is_due p || (count_by is_some old'.serving.slots == 0)) twins.pace
      ∙ ap (λ slots. is_due old.pace || (count_by is_some slots == 0)) twins.serving.slots

  round-too : (clock : ℕ) (old new old' : Running S) (round : Round) → AreRunningTwins old old'
      → (t : HasRound remaining contents clock old new round)
      → (new' : Running S) × (t' : HasRound remaining contents clock old' new' round)
      × (account_of remaining contents clock old' new' round t'
      ≡ account_of remaining contents clock old new round t)
      × AreRunningTwins new new'
  round-too clock old new old' round twins t =
      let made = accepts_now old in
      let arrival = arrival_in made old.serving t.between round.accepted t.accepted in
      let accept : AcceptToo (accepts_now old') t.between old'.serving round.accepted arrival =
      subst (λ (m : Bool). AcceptToo m t.between old'.serving round.accepted arrival)
      (sym (same-accepts old old' twins))
      (accept-too made old.serving t.between old'.serving round.accepted twins.serving t.accepted)
      in
      let turns = turned-too clock t.turned.bound t.between new.serving accept.other t.turned.turns
      accept.twins t.turned.turned in
      let other : Running S =
      record { serving = turns.other; pace = pacing_after old'.pace round } in (
        other,
        record {
          between = accept.other;
          accepted = accept.accepts;
          turned = record {
            bound = t.turned.bound;
            all = subst (λ slots. length slots ≤ t.turned.bound) (sym accept.twins.slots)
                t.turned.all;
            turns = t.turned.turns;
            turned = turns.turned;
            moved = t.turned.moved;
            closed = t.turned.closed;
          };
          pace_is = refl;
        },
        λ i. record {
          beginning = record { clock = clock; arrival = accept.arrival_is i };
          turns = turns.hads_are i;
          round = round;
        },
        record {
          serving = turns.twins;
          pace = ap (λ (p : Pacing). pacing_after p round) twins.pace ∙ sym t.pace_is;
        },
      )

  rounds-too : (clocks : List ℕ) (old new old' : Running S) → AreRunningTwins old old'
      → (t : HasRounds remaining contents clocks old new)
      → (new' : Running S) × (t' : HasRounds remaining contents clocks old' new')
      × (accounts_of remaining contents clocks old' new' t'
      ≡ accounts_of remaining contents clocks old new t)
      × AreRunningTwins new new'
  rounds-too [] old new old' twins t =
      (old', refl, refl, subst (λ (r : Running S). AreRunningTwins r old') (sym t) twins)
  rounds-too (clock ∷ clocks) old new old' twins t =
      let first = round-too clock old t.0 old' t.1 twins t.2 in
      let next = rounds-too clocks t.0 new first.0 first.3 t.3 in
      (next.0, (first.0, t.1, first.1, next.1), (λ i. first.2 i ∷ next.2 i), next.3)

pub twins-may-pass-the-same-moments : {S : Type 0} → TwinsMayPassTheSameMoments S
twins-may-pass-the-same-moments remaining contents moments old new old' twins timely t =
    moments-too remaining contents moments old new old' twins timely t

pub twins-may-have-the-same-round : {S : Type 0} → TwinsMayHaveTheSameRound S
twins-may-have-the-same-round remaining contents clock old new old' round twins t =
    round-too remaining contents clock old new old' round twins t

pub twins-may-have-the-same-rounds : {S : Type 0} → TwinsMayHaveTheSameRounds S
twins-may-have-the-same-rounds remaining contents clocks old new old' twins t =
    rounds-too remaining contents clocks old new old' twins t

pub twins-may-end-the-same : {S : Type 0} → TwinsMayEndTheSame S
twins-may-end-the-same {S} last old old' left twins small t =
    let ends = ends-too {S = S} untold untold last t.bound old t.last old' small twins t.ended in
    let guards : AreAlikeGuards left ends.0.guard =
    subst (λ (g : Guarded). AreAlikeGuards g ends.0.guard) (sym t.guard_is) ends.2.guards in (
      ends.0.guard,
      record {
        bound = t.bound;
        all = subst (λ slots. length slots ≤ t.bound) (sym twins.slots) t.all;
        last = ends.0;
        ended = ends.1;
        guard_is = refl;
      },
      guards,
    )

-- Serving.

-- the last of readings of 32 bits has 32 bits
pub last-small : (before : ℕ) (readings : List ℕ) → before < 2 ^ 32
    → AllByRecursion (λ reading. reading < 2 ^ 32) readings → last_after before readings < 2 ^ 32
last-small before [] small all = small
last-small before (first ∷ readings) small all = last-small first readings all.0 all.1

pub alike-guards-may-be-served-the-same : {S : Type 0} → AlikeGuardsMayBeServedTheSame S
alike-guards-may-be-served-the-same {S} remaining contents guard left other rounds before after
    alike served =
    let had = served.had in
    let guard' = in_state guard other in
    let old : Serving S = record { guard = guard; slots = [] } in
    let old' : Serving S = record { guard = guard'; slots = [] } in
    let twins : AreRunningTwins (new_server old) (new_server old') = record {
      serving = record {
        guards = record { guarded = served.guarded; alike = alike };
        slots = refl;
      };
      pace = refl;
    } in
    let small : served.last < 2 ^ 32 =
    subst (λ (n : ℕ). n < 2 ^ 32) (sym had.last_is)
    (last-small 0 had.readings (omega arith) had.small) in
    let rounds' = rounds-too remaining contents had.readings (new_server old) served.running
    (new_server old') twins had.happened in
    let end = twins-may-end-the-same {S = S} served.last served.running.serving rounds'.0.serving
    left rounds'.3.serving small served.finished in (
      end.0,
      record {
        guarded = alike_guarded guard.hidden guard.start guard.state other served.guarded alike;
        last = served.last;
        running = rounds'.0;
        had = record {
          readings = had.readings;
          count = had.count;
          small = had.small;
          given = had.given;
          last_is = had.last_is;
          happened = rounds'.1;
        };
        finished = end.1;
      },
      rounds'.2,
      end.2,
    )
