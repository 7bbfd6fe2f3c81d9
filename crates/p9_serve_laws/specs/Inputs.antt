-- Two inputs that differ only inside hidden directories, served side by side.
use Rattle.std.specs.Prelude.{◌≡◌, ℕ, List, [], Ok}
use Rattle.p9_guard.specs.Guard.{Guarded}
use Rattle.p9_commands.specs.Offer.{Offered, offer_of}
use Rattle.p9_prepared.specs.Prepared.{Prepared, prepared_of}
use Rattle.p9_prepared.specs.declared.prepared.Needs.TheVariants.{Certificate}
use Rattle.p9_input_laws.specs.Laws.{AreAlikeInputs}
use Rattle.p9_serve.specs.Rounds.{untold}
use Rattle.p9_serve.specs.Run.{ClientSocket, IsServed, Known}
use Rattle.p9_serve_laws.specs.Accounts.{Account, accounts_served}
use Rattle.p9_serve_laws.specs.Beside.{AreAlikeGuards}
use Rattle.p9_serve_laws.specs.Decided.{AreRoundsChosen, RoundChooser}

-- both inputs are prepared with a certificate, as a server needs one, and they are alike
pub record ArePreparedToServe (input other : List ℕ) (a b : Prepared) : Type 0 where
  pub first : prepared_of Certificate input ≡ Ok a
  pub second : prepared_of Certificate other ≡ Ok b
  pub alike : AreAlikeInputs a b

-- all rounds in which what an input offers was served
abbrev pub accounts_in : (offered : Offered) (rounds : ℕ) (w : Known) (left : Guarded)
    → IsServed offered rounds w left → List Account
accounts_in offered rounds w left served =
    accounts_served {S = ClientSocket} untold untold served.guard left rounds w.clock_before w.clock
    served.served

-- Both inputs were served as many rounds, where one chooser chose what came from outside. Then they
-- were served the same, and alike guards are left
abbrev pub AlikeInputsAreServedTheSame : Type 0
AlikeInputsAreServedTheSame =
    (choose : RoundChooser) (input other : List ℕ) (a b : Prepared) (rounds : ℕ) (w w' : Known)
    (left left' : Guarded)
    → ArePreparedToServe input other a b
    → (served : IsServed (offer_of input) rounds w left)
    (served' : IsServed (offer_of other) rounds w' left')
    → AreRoundsChosen choose [] (accounts_in (offer_of input) rounds w left served)
    → AreRoundsChosen choose [] (accounts_in (offer_of other) rounds w' left' served')
    → (accounts_in (offer_of other) rounds w' left' served'
    ≡ accounts_in (offer_of input) rounds w left served)
    × AreAlikeGuards left left'

-- where the first was served, and the same operations of the namespace files fail, the second may
-- be served the same, with the same bytes on the output and the errors
abbrev pub AlikeInputsMayBeServedTheSame : Type 0
AlikeInputsMayBeServedTheSame =
    (input other : List ℕ) (a b : Prepared) (rounds : ℕ) (w : Known) (left : Guarded)
    → ArePreparedToServe input other a b → b.space.reports ≡ a.space.reports
    → (served : IsServed (offer_of input) rounds w left)
    → (left' : Guarded) × (served' : IsServed (offer_of other) rounds w left')
    × (accounts_in (offer_of other) rounds w left' served'
    ≡ accounts_in (offer_of input) rounds w left served)
    × AreAlikeGuards left left'
