-- An accept that is made, and gives out a client.
use Rattle.std.proofs.Common.{◌≡◌, ℕ, Bool, true, false, List, [], ◌∷◌, Option, arith, refl}
use Rattle.std.proofs.Common.{◌∙◌, ap}
use Rattle.std.specs.Int.{from_bool}
use Rattle.p9_clients.specs.Serving.{HasTurns, Serving, TakesIn}
use Rattle.p9_serve.specs.Coming.{GivesOut}
use Rattle.p9_serve.specs.Pace.{Pacing, pacing_after}
use Rattle.p9_serve.specs.Rounds.{Admits, HasHostedRound, Hosting, accepts_now, tally_of}
use Rattle.p9_serve.specs.declared.server.Round.{Round}

-- it takes in the client, or drops it
pub admitted : {S : Type 0} (stream : S) (old new : Serving S) (coming left : Option (List S))
    (made taken : Bool) (count : ℕ) → made ≡ true → TakesIn stream old new taken
    → count ≡ from_bool taken → GivesOut coming left (stream ∷ [])
    → Admits made old new coming left count
admitted stream old new coming left made true count is entered counted given =
    rw (is, counted) (record {
      accepts = (stream, entered);
      newcomers = record { stream = stream; taken = true } ∷ [];
      few = omega arith;
      given = given;
      entered = refl;
    })
admitted stream old new coming left made false count is entered counted given =
    rw (is, counted) (record {
      accepts = entered;
      newcomers = record { stream = stream; taken = false } ∷ [];
      few = omega arith;
      given = given;
      entered = refl;
    })

-- a round is an accept and then the turns
pub hosted : {S : Type 0} (remaining contents : S → Option (List ℕ)) (clock : ℕ)
    (old mid : Hosting S) (serving : Serving S) (pace : Pacing) (round : Round)
    → Admits (accepts_now old.running) old.running.serving mid.running.serving old.coming mid.coming
    round.accepted
    → mid.running.pace ≡ old.running.pace
    → HasTurns remaining contents clock mid.running.serving serving (tally_of round)
    → pace ≡ pacing_after mid.running.pace round
    → HasHostedRound remaining contents clock old
    (record { running = record { serving = serving; pace = pace }; coming = mid.coming }) round
hosted remaining contents clock old mid serving pace round admits same turned counted = record {
  had = record {
    between = mid.running.serving;
    accepted = admits.accepts;
    turned = turned;
    pace_is = counted ∙ ap (λ (p : Pacing). pacing_after p round) same;
  };
  newcomers = admits.newcomers;
  few = admits.few;
  given = admits.given;
  entered = admits.entered;
}
