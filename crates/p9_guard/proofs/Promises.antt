-- What a guarded state promises of events that happened.
use Rattle.std.proofs.Common.{◌≡◌, ℕ, ◌<◌, ◌^◌, Bool, true, false, List, [], ◌∷◌, IsTrue, refl, sym, ◌∙◌}
use Rattle.std.proofs.Common.{subst, append-nil, arith, get_or, zero, suc, Option, Some, None}
use Rattle.std.specs.Option.{option_map_or}
use Rattle.p9_wire.specs.Frame.{IsBytes}
use Rattle.std.specs.Prelude.{◌||◌, not}
use Rattle.std.specs.List.{AllByRecursion, concat}
use Rattle.p9_base.specs.declared.node_ref.NodeRef.{NodeRef}
use Rattle.p9_step.specs.State.{Session, State, session_at}
use Rattle.p9_step.specs.Event.{Close, Event, IsEvent}
use Rattle.p9_step.specs.Step.{Marked, closed, run, step, unchanged}
use Rattle.p9_guard_laws.specs.Alike.{AreAlike}
use Rattle.p9_guard_laws.specs.Grown.{Start}
use Rattle.p9_guard_laws.specs.Guarded.{IsGuardedState}
use Rattle.p9_guard_laws.specs.Laws.{IsSafeRun}
use Rattle.p9_guard_laws.proofs.Headline.{alike_run, self_alike}
use Rattle.p9_guard.specs.Headline.{IsPromised}
use Rattle.p9_guard.specs.Marks.{are_permitted, may_be_refused}

-- Events.

module _ (hidden : List NodeRef) (start : Start) (before : State) (events : List Marked)
    (guarded : IsGuardedState hidden start before)
    (fine : AllByRecursion (λ event. IsEvent event.0) events) where
  -- beside the run from an alike state
  beside : (other : State) → AreAlike hidden before other
      → IsSafeRun hidden start before (run before events) (run other events)
  beside other alike = alike_run hidden start before other events guarded alike fine

  alone : IsSafeRun hidden start before (run before events) (run before events)
  alone = beside before (self_alike hidden before guarded.sound.forest)

  pub stays_guarded : (after : State) → after ≡ (run before events).state
      → IsGuardedState hidden start after
  stays_guarded after is = subst (IsGuardedState hidden start) (sym is) alone.guarded

  pub promised : (after : State) (bytes : List ℕ) → IsTrue (are_permitted before events)
      → after ≡ (run before events).state → bytes ≡ concat (run before events).replies
      → IsPromised hidden before events after bytes
  promised after bytes permitted state_is bytes_are = record {
    permitted = permitted;
    state_is = state_is;
    bytes_are = bytes_are;
    insides = rw state_is alone.insides;
    same_replies = λ other alike. (beside other alike).replies;
    same_state = λ other alike.
        subst (λ s. AreAlike hidden s (run other events).state) (sym state_is)
        (beside other alike).alike;
  }

-- One event.

module _ (hidden : List NodeRef) (start : Start) (before after : State) (event : Event)
    (refused : Bool) (reply : List ℕ) (guarded : IsGuardedState hidden start before)
    (fine : IsEvent event) (state_is : after ≡ (step before event refused).state)
    (reply_is : reply ≡ (step before event refused).reply)
    (permitted : (not refused || may_be_refused before event) ≡ true) where
  pub one_stays : IsGuardedState hidden start after
  one_stays = stays_guarded hidden start before ((event, refused) ∷ []) guarded (fine, tt) after
      state_is

  pub one_promised : IsPromised hidden before ((event, refused) ∷ []) after reply
  one_promised =
      promised hidden start before ((event, refused) ∷ []) guarded (fine, tt) after reply
      (rw permitted refl) state_is (reply_is ∙ sym (append-nil _))

-- the bytes of a slice
pub are_bytes : (bytes : List ℕ) → ((i : ℕ) → get_or bytes i 0 < 2 ^ 8) → IsBytes bytes
are_bytes [] all k d within = absurd (omega arith)
are_bytes (b ∷ bs) all zero d within = all 0
are_bytes (b ∷ bs) all (suc k) d within = are_bytes bs (λ i. all (suc i)) k d (omega arith)

-- a closing has no reply
pub closing_is_silent : (state : State) (name now : ℕ)
    → [] ≡ (step state (Close name now) false).reply
closing_is_silent state name now = go (session_at name state.sessions)
  where
    go : (o : Option Session)
        → [] ≡ (option_map_or (closed state name now) o (unchanged state)).reply
    go None = refl
    go (Some session) = refl
