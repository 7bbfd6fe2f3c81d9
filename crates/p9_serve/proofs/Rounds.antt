-- Rounds that happened one after another, the readings of the clock, and who came.
use Rattle.std.proofs.Common.{◌≡◌, ◌≤◌, ℕ, ◌+◌, ◌<◌, ◌^◌, Bool, true, false, List, [], ◌∷◌, ◌++◌}
use Rattle.std.proofs.Common.{◌∙◌, Option, Some, None, refl, ap, append_assoc, append-nil, arith}
use Rattle.std.proofs.Common.{length, length-append, subst, sym}
use Rattle.std.proofs.KnownBytes.{Appends-nil, Appends-trans}
use Rattle.std.proofs.lemmas.List.{map-append}
use Rattle.std.specs.Prelude.{if◌then◌else◌}
use Rattle.std.specs.List.{AllByRecursion}
use Rattle.std.specs.Io.KnownBytes.{Appends}
use Rattle.p9_guard.specs.Guard.{Guarded}
use Rattle.p9_guard_laws.specs.Guarded.{IsGuardedState}
use Rattle.p9_clients.specs.Serving.{IsFinished}
use Rattle.p9_serve.specs.Coming.{GivesOut, Newcomer, streams_of, taken_in}
use Rattle.p9_serve.specs.Life.{HasRounds, entered_all}
use Rattle.p9_serve.specs.Rounds.{HasHostedRound, HasRound, Hosting, Running, entered_in}
use Rattle.p9_serve.specs.Rounds.{accepts_now, new_server}
use Rattle.p9_serve.specs.Served.{HadHostedRounds, WasServedTo, last_after}
use Rattle.p9_serve.specs.declared.server.Round.{Round}

last_pushed : (before : ℕ) (readings : List ℕ) (reading : ℕ)
    → last_after before (readings ++ reading ∷ []) ≡ reading
last_pushed before [] reading = refl
last_pushed before (first ∷ readings) reading = last_pushed first readings reading

all_pushed : (P : ℕ → Type 0) (readings : List ℕ) (reading : ℕ) → AllByRecursion P readings
    → P reading → AllByRecursion P (readings ++ reading ∷ [])
all_pushed P [] reading all here = (here, tt)
all_pushed P (first ∷ readings) reading all here =
    (all.0, all_pushed P readings reading all.1 here)

-- the last of readings of 32 bits has 32 bits
pub last_small : (before : ℕ) (readings : List ℕ) → before < 2 ^ 32
    → AllByRecursion (λ reading. reading < 2 ^ 32) readings → last_after before readings < 2 ^ 32
last_small before [] small all = small
last_small before (first ∷ readings) small all = last_small first readings all.0 all.1

-- Who came.
module _ {S : Type 0} where
  gives-nothing : (coming : Option (List S)) → GivesOut coming coming []
  gives-nothing None = tt
  gives-nothing (Some coming) = refl

  gives-both : (a b c : Option (List S)) (first second : List S) → GivesOut a b first
      → GivesOut b c second → GivesOut a c (first ++ second)
  gives-both None b c first second one two = tt
  gives-both (Some xs) None c first second one two = absurd one
  gives-both (Some xs) (Some ys) None first second one two = absurd two
  gives-both (Some xs) (Some ys) (Some zs) first second one two =
      one ∙ ap (λ (ws : List S). first ++ ws) two ∙ sym (append_assoc first second zs)

  taken-both : (first second : List (Newcomer S))
      → taken_in (first ++ second) ≡ taken_in first ++ taken_in second
  taken-both [] second = refl
  taken-both (n ∷ first) second =
      let here : List S = if n.taken then n.stream ∷ [] else [] in
      ap (λ (zs : List S). here ++ zs) (taken-both first second)
      ∙ sym (append_assoc here (taken_in first) (taken_in second))

module _ {S : Type 0} (remaining contents : S → Option (List ℕ)) where
  -- the streams that are taken in in a round, from where the rounds before it have led
  round-from : (reading : ℕ) (old between new : Running S) (round : Round) → between ≡ old
      → (next : HasRound remaining contents reading between new round)
      → (t : HasRound remaining contents reading old new round)
      × (entered_in remaining contents reading old new round t
      ≡ entered_in remaining contents reading between new round next)
  round-from reading old between new round past next =
      subst (λ (r : Running S). (t : HasRound remaining contents reading r new round)
      × (entered_in remaining contents reading r new round t
      ≡ entered_in remaining contents reading between new round next)) past (next, refl)

  -- and in all of them
  round_pushed : (readings : List ℕ) (reading : ℕ) (old between new : Running S) (round : Round)
      (past : HasRounds remaining contents readings old between)
      (next : HasRound remaining contents reading between new round)
      → (t : HasRounds remaining contents (readings ++ reading ∷ []) old new)
      × (entered_all remaining contents (readings ++ reading ∷ []) old new t
      ≡ entered_all remaining contents readings old between past
      ++ entered_in remaining contents reading between new round next)
  round_pushed [] reading old between new round past next =
      let first = round-from reading old between new round past next in (
        (new, round, first.0, refl),
        append-nil (entered_in remaining contents reading old new round first.0) ∙ first.1,
      )
  round_pushed (first ∷ readings) reading old between new round past next =
      let here = entered_in remaining contents first old past.0 past.1 past.2 in
      let more = round_pushed readings reading past.0 between new round past.3 next in (
        (past.0, past.1, past.2, more.0),
        ap (λ (zs : List S). here ++ zs) more.1
            ∙ sym (append_assoc here (entered_all remaining contents readings past.0 between past.3)
            (entered_in remaining contents reading between new round next)),
      )

  -- no more than one client comes in a round
  few_more : (made : Bool) (old new : List (Newcomer S)) (rounds : ℕ) → length old ≤ rounds
      → length new ≤ (if made then 1 else 0) → length (old ++ new) ≤ rounds + 1
  few_more true old new rounds few one = omega (arith, length-append old new, few, one)
  few_more false old new rounds few none = omega (arith, length-append old new, few, none)

  -- before the first round
  pub none_yet : (given : Option (List ℕ)) (old : Hosting S)
      → HadHostedRounds remaining contents 0 0 given given old old
  none_yet given old = record {
    had = record {
      readings = [];
      count = refl;
      small = tt;
      given = Appends-nil given;
      last_is = refl;
      happened = refl;
    };
    newcomers = [];
    few = omega arith;
    given = gives-nothing old.coming;
    entered = refl;
  }

  -- after one round more
  pub one_more : (rounds last reading : ℕ) (a b c : Option (List ℕ)) (old between new : Hosting S)
      (round : Round) → HadHostedRounds remaining contents rounds last a b old between
      → reading < 2 ^ 32 → Appends b c (reading ∷ [])
      → HasHostedRound remaining contents reading between new round
      → HadHostedRounds remaining contents (rounds + 1) reading a c old new
  one_more rounds last reading a b c old between new round all small given next =
      let had = all.had in
      let pushed = round_pushed had.readings reading old.running between.running new.running round
      had.happened next.had in
      record {
        had = record {
          readings = had.readings ++ reading ∷ [];
          count = omega (arith, length-append had.readings (reading ∷ []), had.count);
          small = all_pushed (λ n. n < 2 ^ 32) had.readings reading had.small small;
          given = Appends-trans a b c had.readings (reading ∷ []) had.given given;
          last_is = sym (last_pushed 0 had.readings reading);
          happened = pushed.0;
        };
        newcomers = all.newcomers ++ next.newcomers;
        few = few_more (accepts_now between.running) all.newcomers next.newcomers rounds all.few
            next.few;
        given = rw (map-append (λ (n : Newcomer S). n.stream) all.newcomers next.newcomers)
            (gives-both old.coming between.coming new.coming (streams_of all.newcomers)
            (streams_of next.newcomers) all.given next.given);
        entered = pushed.1
            ∙ ap (λ (zs : List S). zs ++ entered_in remaining contents reading between.running
            new.running round next.had) all.entered
            ∙ ap (λ (zs : List S). taken_in all.newcomers ++ zs) next.entered
            ∙ sym (taken-both all.newcomers next.newcomers);
      }

  -- a guard whose new server had its rounds, and whose sessions are closed then, was served
  pub was_served_to : (guard left : Guarded) (coming : Option (List S)) (rounds last : ℕ)
      (before after : Option (List ℕ)) (old new : Hosting S)
      → IsGuardedState guard.hidden guard.start guard.state
      → old.running ≡ new_server (record { guard = guard; slots = [] }) → old.coming ≡ coming
      → HadHostedRounds remaining contents rounds last before after old new
      → IsFinished last new.running.serving left
      → WasServedTo remaining contents coming guard rounds before after left
  was_served_to guard left coming rounds last before after old new guarded is come all finished =
      let first : Hosting S = record {
        running = new_server (record { guard = guard; slots = [] });
        coming = coming;
      } in
      let same : old ≡ first = λ i. record { running = is i; coming = come i } in
      let its : HadHostedRounds remaining contents rounds last before after first new =
      subst (λ (h : Hosting S). HadHostedRounds remaining contents rounds last before after h new)
      same all in
      record {
        served = record {
          guarded = guarded;
          last = last;
          running = new.running;
          had = its.had;
          finished = finished;
        };
        newcomers = its.newcomers;
        few = its.few;
        still = new.coming;
        given = its.given;
        entered = its.entered;
      }
