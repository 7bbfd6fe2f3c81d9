-- What is left after a run can be sealed again, any number of times.
use Rattle.std.specs.Prelude.{◌≡◌, List, [], ◌∷◌, None}
use Rattle.std.specs.List.{AllByRecursion, concat}
use Rattle.p9_base.specs.declared.node_ref.NodeRef.{NodeRef}
use Rattle.p9_tree.specs.Server.{Server}
use Rattle.p9_tree.specs.Inside.{inner}
use Rattle.p9_space.specs.Table.{MountRow}
use Rattle.p9_world.specs.World.{World}
use Rattle.p9_step.specs.Event.{IsEvent}
use Rattle.p9_step.specs.State.{State}
use Rattle.p9_step.specs.Step.{Marked, run}
use Rattle.p9_cert.specs.Gap.{first_gap}
use Rattle.p9_cert.specs.Policy.{Policy, policy_of}
use Rattle.p9_cert.specs.Rows.{IsCertificate}
use Rattle.p9_judge.specs.Breach.{IsBreach}
use Rattle.p9_judge.specs.Verdict.{IsVerdict}
use Rattle.p9_judge.specs.declared.breach.BreachKind.{BreachKind}
use Rattle.p9_judge.specs.declared.breach.Step.{Step}
use Rattle.p9_judge.specs.declared.verdict.Verdict.{Verdict}
use Rattle.p9_judge.specs.declared.verdict.Verdict.TheVariants.{Yes, No}
use Rattle.p9_guard.specs.Headline.{IsPromised}
use Rattle.p9_guard.specs.Sentence.{CanHappen, IsWellFormed}
use Rattle.p9_guard.specs.Served.{served}
use Rattle.p9_guard_laws.specs.Grown.{Start}
use Rattle.p9_guard_laws.specs.Guarded.{IsGuardedState, premises_of}

-- Sealing.

module _ (policy : Policy) (forest : List Server) (table : List MountRow) where
  -- the verdict is yes, and its rows have no gap
  abbrev pub IsYesWithoutGap : {A : Type 0} → Verdict A → Type 0
  IsYesWithoutGap (Yes rows) = first_gap policy forest table rows ≡ None
  IsYesWithoutGap (No breach) = ⊥

  -- There is a certificate without a gap, and there is no breach. Each verdict is yes, and its rows
  -- have no gap, whatever allocator A keeps them.
  pub record CanBeSealed (A : Type 0) : Type 0 where
    pub certificate : List NodeRef
    pub rising : IsCertificate certificate
    pub closed : first_gap policy forest table certificate ≡ None
    pub no_breach : (steps : List Step) (member : NodeRef) (kind : BreachKind)
        → IsBreach policy forest table steps member kind → ⊥
    pub verdicts : (verdict : Verdict A) → IsVerdict policy forest table verdict
        → IsYesWithoutGap verdict

-- the world can be sealed, with the mount table
abbrev pub CanWorldBeSealed : Type 0 → World → List MountRow → Type 0
CanWorldBeSealed A world table = CanBeSealed (policy_of world) world.forest table A

-- so can every guarded state
abbrev pub GuardedCanBeSealed : Type 0 → Type 0
GuardedCanBeSealed A =
    (hidden : List NodeRef) (start : Start) (state : State) → IsGuardedState hidden start state
    → CanBeSealed (premises_of hidden state.setting).policy state.forest state.setting.table A

-- A life: events that happen from the state in which a world is exported.

-- the world that is left after them
abbrev pub left_after : World → List MountRow → List Marked → World
left_after world table events =
    record world { forest = (run (served world table) events).state.forest }

-- what is left is well-formed again, and can be sealed again
pub record IsLeftWell (A : Type 0) (world : World) (table : List MountRow) : Type 0 where
  pub well : IsWellFormed world table
  pub sealed : CanWorldBeSealed A world table

-- so it is after any events with any marks, where the checker finds no gap in a certificate
abbrev pub SealingAgainNeverFails : Type 0 → Type 0
SealingAgainNeverFails A =
    (world : World) (table : List MountRow) (certificate : List NodeRef)
    → IsWellFormed world table
    → first_gap (policy_of world) world.forest table certificate ≡ None
    → (events : List Marked) → AllByRecursion (λ event. IsEvent event.0) events
    → IsLeftWell A (left_after world table events) table

-- Lives, one after another. Each begins from the world that the one before left, without sessions.

abbrev pub left_after_all : World → List MountRow → List (List Marked) → World
left_after_all world table [] = world
left_after_all world table (events ∷ lives) =
    left_after_all (left_after world table events) table lives

-- the events of each can happen
abbrev pub CanAllHappen : World → List MountRow → List (List Marked) → Type 0
CanAllHappen world table [] = Unit {0}
CanAllHappen world table (events ∷ lives) =
    CanHappen (served world table) events
    × CanAllHappen (left_after world table events) table lives

-- the theorem holds of the events, from the state in which the world is exported
abbrev pub IsLifePromised : World → List MountRow → List Marked → Type 0
IsLifePromised world table events =
    let done = run (served world table) events in
    IsPromised world.hidden (served world table) events done.state (concat done.replies)

-- and of the events of each life
abbrev pub AreAllPromised : World → List MountRow → List (List Marked) → Type 0
AreAllPromised world table [] = Unit {0}
AreAllPromised world table (events ∷ lives) =
    IsLifePromised world table events
    × AreAllPromised (left_after world table events) table lives

-- The theorem holds of each life. Nothing inside a hidden directory has changed over all of them.
-- The world that is left can be sealed again.
pub record ChangeNothingInside (A : Type 0) (world : World) (table : List MountRow)
    (lives : List (List Marked)) : Type 0 where
  pub promised : AreAllPromised world table lives
  pub insides : inner world.hidden (left_after_all world table lives).forest
      ≡ inner world.hidden world.forest
  pub left : IsLeftWell A (left_after_all world table lives) table

-- so it is of any number of lives, where the checker finds no gap in a certificate over the first
-- world; no certificate of a later one is needed
abbrev pub LivesChangeNothingInside : Type 0 → Type 0
LivesChangeNothingInside A =
    (world : World) (table : List MountRow) (certificate : List NodeRef)
    → IsWellFormed world table
    → first_gap (policy_of world) world.forest table certificate ≡ None
    → (lives : List (List Marked)) → CanAllHappen world table lives
    → ChangeNothingInside A world table lives
