-- The life of a guard that was served is promised.
use Rattle.std.proofs.Common.{◌≡◌, ℕ, ◌<◌, ◌^◌, List, [], Some, Ok, Err, arith, inl, inr, refl}
use Rattle.std.proofs.Common.{◌∙◌, Option, subst, sym}
use Rattle.std.specs.declared.io.ErrorKind.{ErrorKind}
use Rattle.std.specs.declared.io.ErrorKind.TheVariants.{OutOfMemory}
use Rattle.p9_guard.specs.Guard.{Guarded}
use Rattle.p9_commands.specs.Offer.{Offered, Serves}
use Rattle.p9_clients.specs.Serving.{Serving}
use Rattle.p9_serve.specs.Laws.{EachClientGetsItsReplies, EveryServedGuardIsPromised}
use Rattle.p9_serve.specs.Laws.{EveryServingIsPromised, HasAnswered, HasServedLife}
use Rattle.p9_serve.specs.Laws.{InputsBecomeReplies, IsAnsweredOffer, IsPromisedOffer}
use Rattle.p9_serve.specs.Life.{entered_all}
use Rattle.p9_serve.specs.Rounds.{new_server, untold}
use Rattle.p9_serve.specs.Run.{ClientSocket, failure_status}
use Rattle.p9_serve.specs.Served.{WasServed}
use Rattle.p9_serve.specs.Visits.{visits_in}
use Rattle.p9_serve.proofs.Lives.{Whole, arrivals-are, whole-life}
use Rattle.p9_serve.proofs.Rounds.{last_small}
use Rattle.p9_serve.proofs.Visits.{each-visit-is-answered}

module _ {S : Type 0} (remaining contents : S → Option (List ℕ)) where
  served-whole : (guard left : Guarded) (rounds : ℕ) (before after : Option (List ℕ))
      (served : WasServed remaining contents guard rounds before after left)
      → Whole remaining contents guard left (entered_all remaining contents served.had.readings
      (new_server (record { guard = guard; slots = [] })) served.running served.had.happened)
  served-whole guard left rounds before after served =
      let had = served.had in
      let small : served.last < 2 ^ 32 =
      subst (λ (n : ℕ). n < 2 ^ 32) (sym had.last_is)
      (last_small 0 had.readings (omega arith) had.small) in
      whole-life remaining contents guard left had.readings served.last served.running
      served.guarded small had.happened served.finished

pub every-served-guard-is-promised : {S : Type 0} → EveryServedGuardIsPromised S
every-served-guard-is-promised remaining contents guard left rounds before after served =
    let life = served-whole remaining contents guard left rounds before after served in
    record { end = life.end; left_is = life.guard_is; lived = life.lived }

-- each client that came was dropped, or arrived in that life and was answered
pub each-client-gets-its-replies : {S : Type 0} → EachClientGetsItsReplies S
each-client-gets-its-replies {S} remaining contents coming guard left rounds before after t =
    let life = served-whole remaining contents guard left rounds before after t.served in
    let first : Serving S = record { guard = guard; slots = [] } in
    let moments = life.lived.moments in
    let passed = life.lived.passed in
    record {
      life = record { end = life.end; left_is = life.guard_is; lived = life.lived };
      newcomers = t.newcomers;
      still = t.still;
      given = t.given;
      visits = visits_in remaining contents moments first life.end passed;
      visits_are = refl;
      entered = arrivals-are remaining contents moments first life.end passed ∙ life.arrive
          ∙ t.entered;
      answered = each-visit-is-answered remaining contents moments first life.end passed;
    }

-- of the guard that is offered
answered_offer : {S : Type 0} (remaining contents : S → Option (List ℕ)) (coming : Option (List S))
    (offered : Offered) (reports : List ℕ) (guard left : Guarded)
    → Serves offered [] reports (Some guard) → HasAnswered S remaining contents coming guard left
    → IsAnsweredOffer S remaining contents coming offered left
answered_offer {S} remaining contents coming (Ok offer) reports guard left serves answered = record {
  offer = offer;
  offer_is = refl;
  answered =
      subst (λ (g : Guarded). HasAnswered S remaining contents coming g left) serves.0 answered;
}
answered_offer remaining contents coming (Err rejected) reports guard left serves answered =
    absurd serves

pub inputs-become-replies : {S : Type 0} → InputsBecomeReplies S
inputs-become-replies remaining contents coming offered rounds w left t =
    answered_offer remaining contents coming offered t.offer.reports t.guard left t.offer.serves
    (each-client-gets-its-replies remaining contents coming t.guard left rounds w.clock_before
    w.clock t.served)

-- no failure has status 0
not_failed : (kind : ErrorKind) → 0 ≡ failure_status kind → ⊥
not_failed OutOfMemory e = let no : ◌≡◌ {A = ℕ} 0 3 = e in omega (arith, no)
not_failed kind e = let no : ◌≡◌ {A = ℕ} 0 4 = e in omega (arith, no)

-- a guard that was served is the one that is offered
offer_promised : (offered : Offered) (reports : List ℕ) (guard left : Guarded)
    → Serves offered [] reports (Some guard) → HasServedLife ClientSocket untold untold guard left
    → IsPromisedOffer offered
offer_promised (Ok offer) reports guard left serves life = record {
  offer = offer;
  offer_is = refl;
  left = left;
  life = subst (λ (g : Guarded). HasServedLife ClientSocket untold untold g left) serves.0 life;
}
offer_promised (Err rejected) reports guard left serves life = absurd serves

pub every-serving-is-promised : EveryServingIsPromised
every-serving-is-promised offered rounds w (inl failed) =
    absurd (not_failed failed.kind failed.status_is)
every-serving-is-promised offered rounds w (inr (inl t)) =
    let it = t.2 in
    offer_promised offered it.reports it.guard t.1 it.serves
    (every-served-guard-is-promised {S = ClientSocket} untold untold it.guard t.1 rounds
    w.clock_before w.clock it.served)
every-serving-is-promised offered rounds w (inr (inr t)) =
    let no : ◌≡◌ {A = ℕ} 0 1 = t.0 in absurd (omega (arith, no))
