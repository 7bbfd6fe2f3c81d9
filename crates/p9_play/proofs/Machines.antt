-- What a guard promises of one event, in an exporter's words.
use Rattle.std.proofs.Common.{◌≡◌, ℕ, Bool, false, List, [], ◌∷◌, Option, Some, None, Result}
use Rattle.std.proofs.Common.{Ok, Err, IsSome, refl, sym, ◌∙◌, append-nil}
use Rattle.std.proofs.Common.{true≢false}
use Rattle.std.specs.Prelude.{◌↔◌, OnErr, OnOk, ⊤}
use Rattle.p9_base.specs.declared.node_ref.NodeRef.{NodeRef}
use Rattle.p9_step.specs.Event.{Event, Open}
use Rattle.p9_step.specs.State.{Session, State, session_at}
use Rattle.p9_step.specs.Step.{step}
use Rattle.p9_export.specs.declared.export.OpenError.{OpenError}
use Rattle.p9_export.specs.declared.export.OpenError.TheVariants.{Live, NoMemory}
use Rattle.p9_guard.specs.Headline.{IsPromised}
use Rattle.p9_guard.specs.Marks.{is_refused}

module _ (hidden : List NodeRef) (before after : State) where
  -- a success is no error
  apart : {u : ⊤} → ◌≡◌ {A = Result ⊤ OpenError} (Ok u) (Err Live) → ⊥
  apart same = absurd (cc)

  -- an opening that succeeds
  pub opened : (name : ℕ) (result : Result ⊤ OpenError)
      → ((result ≡ Err Live) ↔ IsSome (session_at name before.sessions))
      → IsPromised hidden before ((Open name, is_refused result) ∷ []) after []
      → OnOk result
      ((session_at name before.sessions ≡ None) × (after ≡ (step before (Open name) false).state))
  opened name (Ok u) live promised =
      (go (session_at name before.sessions) live.1, promised.state_is)
    where
      go : (o : Option Session) → (IsSome o → Ok u ≡ Err Live) → o ≡ None
      go None none = refl
      go (Some session) some = absurd (apart (some refl))
  opened name (Err error) live promised = tt

  -- an opening that is refused: a session of the name is open, or an allocation failed
  refused-open : (name : ℕ) (session : Option Session) → session_at name before.sessions ≡ session
      → IsSome session → before ≡ (step before (Open name) false).state
  refused-open name None is some = absurd (true≢false (sym some))
  refused-open name (Some session) is some = rw is refl

  pub not_opened : (name : ℕ) (result : Result ⊤ OpenError)
      → ((result ≡ Err Live) ↔ IsSome (session_at name before.sessions))
      → IsPromised hidden before ((Open name, is_refused result) ∷ []) after []
      → OnErr result (after ≡ before)
  not_opened name (Ok u) live promised = tt
  not_opened name (Err Live) live promised =
      promised.state_is
      ∙ sym (refused-open name (session_at name before.sessions) refl (live.0 refl))
  not_opened name (Err NoMemory) live promised = promised.state_is

  module _ (event : Event) (refused : Bool) (reply : List ℕ)
      (promised : IsPromised hidden before ((event, refused) ∷ []) after reply) where
    -- the state is that of the step
    pub state_is : after ≡ (step before event refused).state
    state_is = promised.state_is

    -- the reply is that of the step
    pub reply_is : reply ≡ (step before event refused).reply
    reply_is = promised.bytes_are ∙ append-nil (step before event refused).reply
