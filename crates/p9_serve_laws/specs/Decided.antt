-- What comes from outside decides what two servers do, side by side.
use Rattle.std.specs.Prelude.{◌≡◌, ℕ, ◌<◌, ◌^◌, List, [], ◌∷◌, ◌++◌, Option, length, map, take}
use Rattle.std.specs.List.{AllByRecursion}
use Rattle.p9_guard.specs.Guard.{Guarded}
use Rattle.p9_guard_laws.specs.Alike.{AreAlike}
use Rattle.p9_clients.specs.Serving.{HasTurns, IsFinished, Serving}
use Rattle.p9_clients.specs.declared.clients.Tally.{Tally}
use Rattle.p9_serve.specs.Life.{HasRounds, Moment, Pass}
use Rattle.p9_serve.specs.Rounds.{Running}
use Rattle.p9_serve.specs.Served.{WasServed}
use Rattle.p9_serve_laws.specs.Accounts.{Account, Beginning, TurnAccount, accounts_of}
use Rattle.p9_serve_laws.specs.Accounts.{accounts_served, turns_in}
use Rattle.p9_serve_laws.specs.Beside.{AreAlikeGuards, AreBeside, AreRunningBeside}
use Rattle.p9_serve_laws.specs.Outside.{Given, Outside, given_to, outside, outsides, round_outside}
use Rattle.p9_serve_laws.specs.Twins.{IsTimely}

-- Who chooses.

-- who chooses what comes from outside next, by all that happened so far: all that was read, all
-- replies, and all that was written
abbrev pub Chooser : Type 0
Chooser = List Moment → Outside

-- what comes from outside in moments is what was chosen
abbrev pub AreChosen : {S : Type 0} → (remaining contents : S → Option (List ℕ)) → Chooser
    → (past moments : List Moment) (old new : Serving S)
    → Pass remaining contents moments old new → Type 0
AreChosen remaining contents choose past [] old new pass = Unit {0}
AreChosen remaining contents choose past (moment ∷ moments) old new pass =
    (outside remaining contents moment old pass.0 pass.1 ≡ choose past)
    × AreChosen remaining contents choose (past ++ moment ∷ []) moments pass.0 new pass.2

-- who chooses what comes from outside in rounds: how the next round begins, by the rounds so far;
-- and what its next turn is given, by those, by how it began, and by its turns so far
pub record RoundChooser : Type 0 where
  pub begins : List Account → Beginning
  pub gives : List Account → Beginning → List TurnAccount → Given

abbrev pub AreTurnsChosen : (choose : List TurnAccount → Given) (past turns : List TurnAccount)
    → Type 0
AreTurnsChosen choose past [] = Unit {0}
AreTurnsChosen choose past (turn ∷ turns) =
    (given_to turn ≡ choose past) × AreTurnsChosen choose (past ++ turn ∷ []) turns

-- what comes from outside in rounds is what was chosen
abbrev pub AreRoundsChosen : RoundChooser → (past accounts : List Account) → Type 0
AreRoundsChosen choose past [] = Unit {0}
AreRoundsChosen choose past (account ∷ accounts) =
    (account.beginning ≡ choose.begins past)
    × AreTurnsChosen (choose.gives past account.beginning) [] account.turns
    × AreRoundsChosen choose (past ++ account ∷ []) accounts

-- Two servers, over any streams.
module _ (S T : Type 0) where
  -- where the same comes from outside in two lists of moments, they are the same list: the same
  -- replies, and the same bytes read and written, in the same order among all connections
  abbrev pub TheOutsideDecidesMoments : Type 0
  TheOutsideDecidesMoments =
      (remaining contents : S → Option (List ℕ)) (remaining' contents' : T → Option (List ℕ))
      (moments moments' : List Moment) (old new : Serving S) (old' new' : Serving T)
      → AreBeside old old' → AllByRecursion IsTimely moments
      → (pass : Pass remaining contents moments old new)
      (pass' : Pass remaining' contents' moments' old' new')
      → outsides remaining' contents' moments' old' new' pass'
      ≡ outsides remaining contents moments old new pass
      → (moments' ≡ moments) × AreBeside new new'

  -- so are two lists of moments where one chooser chose what came from outside, as far as both go
  abbrev pub ChoosersSeeTheSameMoments : Type 0
  ChoosersSeeTheSameMoments =
      (choose : Chooser)
      (remaining contents : S → Option (List ℕ)) (remaining' contents' : T → Option (List ℕ))
      (moments moments' : List Moment) (old new : Serving S) (old' new' : Serving T)
      → AreBeside old old' → AllByRecursion IsTimely moments
      → (pass : Pass remaining contents moments old new)
      (pass' : Pass remaining' contents' moments' old' new')
      → AreChosen remaining contents choose [] moments old new pass
      → AreChosen remaining' contents' choose [] moments' old' new' pass'
      → (take (length moments) moments' ≡ take (length moments') moments)
      × (length moments' ≡ length moments → AreBeside new new')

  -- where the same comes from outside in a turn of each connection, the turns are the same: the
  -- same replies, and the same bytes read and written, in the same order among all connections. So
  -- are their counts
  abbrev pub TheOutsideDecidesTurns : Type 0
  TheOutsideDecidesTurns =
      (remaining contents : S → Option (List ℕ)) (remaining' contents' : T → Option (List ℕ))
      (clock : ℕ) (old new : Serving S) (old' new' : Serving T) (tally tally' : Tally)
      → AreBeside old old' → (had : HasTurns remaining contents clock old new tally)
      (had' : HasTurns remaining' contents' clock old' new' tally')
      → map given_to (turns_in remaining' contents' clock old' new' tally' had')
      ≡ map given_to (turns_in remaining contents clock old new tally had)
      → (turns_in remaining' contents' clock old' new' tally' had'
      ≡ turns_in remaining contents clock old new tally had)
      × (tally' ≡ tally) × AreBeside new new'

  -- where the same comes from outside in rounds, they are the same, and so is what they say of when
  -- to accept and rest
  abbrev pub TheOutsideDecidesRounds : Type 0
  TheOutsideDecidesRounds =
      (remaining contents : S → Option (List ℕ)) (remaining' contents' : T → Option (List ℕ))
      (clocks clocks' : List ℕ) (old new : Running S) (old' new' : Running T)
      → AreRunningBeside old old'
      → (had : HasRounds remaining contents clocks old new)
      (had' : HasRounds remaining' contents' clocks' old' new')
      → map round_outside (accounts_of remaining' contents' clocks' old' new' had')
      ≡ map round_outside (accounts_of remaining contents clocks old new had)
      → (accounts_of remaining' contents' clocks' old' new' had'
      ≡ accounts_of remaining contents clocks old new had)
      × AreRunningBeside new new'

  -- so are as many rounds where one chooser chose what came from outside
  abbrev pub ChoosersSeeTheSameRounds : Type 0
  ChoosersSeeTheSameRounds =
      (choose : RoundChooser)
      (remaining contents : S → Option (List ℕ)) (remaining' contents' : T → Option (List ℕ))
      (clocks clocks' : List ℕ) (old new : Running S) (old' new' : Running T)
      → AreRunningBeside old old'
      → (had : HasRounds remaining contents clocks old new)
      (had' : HasRounds remaining' contents' clocks' old' new')
      → AreRoundsChosen choose [] (accounts_of remaining contents clocks old new had)
      → AreRoundsChosen choose [] (accounts_of remaining' contents' clocks' old' new' had')
      → length clocks' ≡ length clocks
      → (accounts_of remaining' contents' clocks' old' new' had'
      ≡ accounts_of remaining contents clocks old new had)
      × AreRunningBeside new new'

  -- the end of all sessions, at the same reading of the clock, leaves alike guards
  abbrev pub TheOutsideDecidesTheEnd : Type 0
  TheOutsideDecidesTheEnd =
      (last : ℕ) (old : Serving S) (old' : Serving T) (left left' : Guarded)
      → AreBeside old old' → last < 2 ^ 32 → IsFinished last old left → IsFinished last old' left'
      → AreAlikeGuards left left'

  -- two guards in alike states were served as many rounds, where one chooser chose what came from
  -- outside. Then they were served the same, from a new server to the end of all sessions, and
  -- alike guards are left
  abbrev pub ChoosersAreServedTheSame : Type 0
  ChoosersAreServedTheSame =
      (choose : RoundChooser)
      (remaining contents : S → Option (List ℕ)) (remaining' contents' : T → Option (List ℕ))
      (guard guard' left left' : Guarded) (rounds : ℕ)
      (before after before' after' : Option (List ℕ))
      → AreAlike guard.hidden guard.state guard'.state
      → (served : WasServed remaining contents guard rounds before after left)
      (served' : WasServed remaining' contents' guard' rounds before' after' left')
      → AreRoundsChosen choose []
      (accounts_served remaining contents guard left rounds before after served)
      → AreRoundsChosen choose []
      (accounts_served remaining' contents' guard' left' rounds before' after' served')
      → (accounts_served remaining' contents' guard' left' rounds before' after' served'
      ≡ accounts_served remaining contents guard left rounds before after served)
      × AreAlikeGuards left left'
