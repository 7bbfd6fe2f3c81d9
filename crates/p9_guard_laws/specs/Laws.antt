-- What the laws of a guarded state say.
use Rattle.std.specs.Prelude.{◌≡◌, ◌↔◌, Bool, List, [], Option, None}
use Rattle.std.specs.List.{AllByRecursion}
use Rattle.p9_base.specs.declared.node_ref.NodeRef.{NodeRef}
use Rattle.p9_tree.specs.Forest.{IsForest}
use Rattle.p9_tree.specs.Inside.{inner}
use Rattle.p9_step.specs.State.{State}
use Rattle.p9_step.specs.Event.{Event, IsEvent}
use Rattle.p9_step.specs.Sound.{IsSetting, IsState}
use Rattle.p9_step.specs.Step.{Marked, Ran, Stepped, run, step}
use Rattle.p9_cert.specs.declared.gap.Gap.{Gap}
use Rattle.p9_cert.specs.Gap.{first_gap}
use Rattle.p9_cert.specs.Rows.{is_row}
use Rattle.p9_guard_laws.specs.Grown.{Start, start_of}
use Rattle.p9_guard_laws.specs.Guarded.{AreHiddenGiven, IsCertified, IsGuardedState, premises_of}
use Rattle.p9_guard_laws.specs.Alike.{AreAlike}

-- a state that has a closed certificate, and no sessions, is guarded
abbrev pub CertifiedIsGuarded : Type 0
CertifiedIsGuarded =
    (hidden rows : List NodeRef) (state : State) → IsState state
    → AreHiddenGiven hidden state.forest
    → IsCertified (premises_of hidden state.setting) state.forest (is_row rows) → state.sessions ≡ []
    → IsGuardedState hidden (start_of rows state.forest) state

-- what a step makes of two alike states: the same bytes, and alike states, the first guarded;
-- nothing has changed inside its hidden directories
pub record IsSafeStep (hidden : List NodeRef) (start : Start) (a : State) (done other : Stepped)
    : Type 0 where
  pub reply : other.reply ≡ done.reply
  pub alike : AreAlike hidden done.state other.state
  pub guarded : IsGuardedState hidden start done.state
  pub insides : inner hidden done.state.forest ≡ inner hidden a.forest

-- one event, with one mark
abbrev pub AlikeStep : Type 0
AlikeStep =
    (hidden : List NodeRef) (start : Start) (a b : State) (event : Event) (refused : Bool)
    → IsGuardedState hidden start a → AreAlike hidden a b → IsEvent event
    → IsSafeStep hidden start a (step a event refused) (step b event refused)

-- what a run makes of two alike states
pub record IsSafeRun (hidden : List NodeRef) (start : Start) (a : State) (done other : Ran)
    : Type 0 where
  pub replies : other.replies ≡ done.replies
  pub alike : AreAlike hidden done.state other.state
  pub guarded : IsGuardedState hidden start done.state
  pub insides : inner hidden done.state.forest ≡ inner hidden a.forest

-- any events, with any marks
abbrev pub AlikeRun : Type 0
AlikeRun =
    (hidden : List NodeRef) (start : Start) (a b : State) (events : List Marked)
    → IsGuardedState hidden start a → AreAlike hidden a b
    → AllByRecursion (λ event. IsEvent event.0) events
    → IsSafeRun hidden start a (run a events) (run b events)

-- of two alike states, the other is guarded too
abbrev pub AlikeGuarded : Type 0
AlikeGuarded =
    (hidden : List NodeRef) (start : Start) (a b : State)
    → IsGuardedState hidden start a → AreAlike hidden a b → IsGuardedState hidden start b

-- the first gap of a certificate over the forest and the mount table of a state
abbrev pub gap_in : (hidden rows : List NodeRef) → State → Option Gap
gap_in hidden rows state =
    first_gap (premises_of hidden state.setting).policy state.forest state.setting.table rows

-- a certificate is closed for both of two alike worlds, or for neither
abbrev pub AlikeClosed : Type 0
AlikeClosed =
    (hidden rows : List NodeRef) (a b : State) → IsForest a.forest → IsSetting a.setting
    → AreHiddenGiven hidden a.forest → AreAlike hidden a b
    → (IsCertified (premises_of hidden a.setting) a.forest (is_row rows)
    ↔ IsCertified (premises_of hidden b.setting) b.forest (is_row rows))

-- and has no gap for both, or for neither
abbrev pub AlikeVerified : Type 0
AlikeVerified =
    (hidden rows : List NodeRef) (a b : State) → IsForest a.forest → IsSetting a.setting
    → AreHiddenGiven hidden a.forest → AreAlike hidden a b
    → (gap_in hidden rows a ≡ None) ↔ (gap_in hidden rows b ≡ None)
