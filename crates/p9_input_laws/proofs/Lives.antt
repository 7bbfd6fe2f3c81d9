-- What is left after a run is well-formed, and can be sealed; and so after any number of lives.
use Rattle.std.proofs.Common.{◌≡◌, ◌<◌, ◌≤◌, true, List, [], ◌∷◌, length, refl, sym, ap, ◌∙◌}
use Rattle.std.proofs.Common.{subst}
use Rattle.std.specs.Prelude.{All}
use Rattle.std.specs.List.{AllByRecursion, concat}
use Rattle.std.specs.List.Sorted.{IsStrictlySortedBy}
use Rattle.std.proofs.lemmas.Bool.{or_left, or_right}
use Rattle.std.proofs.lemmas.List.Elements.{All-cons, All-nil}
use Rattle.p9_base.specs.declared.node_ref.NodeRef.{NodeRef}
use Rattle.p9_base.specs.NodeRef.{same_node, servers_max}
use Rattle.p9_tree.specs.Server.{Server}
use Rattle.p9_tree.specs.Forest.{IsForest, next_of}
use Rattle.p9_inside.proofs.Facts.{lt_of}
use Rattle.p9_space.specs.Table.{MountRow}
use Rattle.p9_world.specs.World.{World}
use Rattle.p9_step.specs.Event.{IsEvent}
use Rattle.p9_step.specs.State.{State}
use Rattle.p9_step.specs.Step.{Marked, Ran, run}
use Rattle.p9_cert.specs.Closed.{IsClosed}
use Rattle.p9_cert.specs.Policy.{Policy}
use Rattle.p9_cert.specs.Rows.{is_row}
use Rattle.p9_cert.specs.Safe.{Set}
use Rattle.p9_policy.proofs.Basics.{same_self}
use Rattle.p9_policy.proofs.Parents.{row_is_hidden}
use Rattle.p9_judge.specs.Breach.{IsBreach}
use Rattle.p9_judge.specs.Verdict.{IsVerdict}
use Rattle.p9_judge.specs.declared.breach.BreachKind.{BreachKind}
use Rattle.p9_judge.specs.declared.breach.Step.{Step}
use Rattle.p9_judge.specs.declared.verdict.Verdict.{Verdict}
use Rattle.p9_judge.specs.declared.verdict.Verdict.TheVariants.{Yes, No}
use Rattle.p9_judge.proofs.Breaches.{no_breach_where_closed}
use Rattle.p9_guard.specs.Sentence.{IsWellFormed}
use Rattle.p9_guard.specs.Served.{served}
use Rattle.p9_guard.proofs.Promises.{promised}
use Rattle.p9_guard.proofs.Sentences.{starts-guarded}
use Rattle.p9_guard_laws.specs.Grown.{Start, start_of}
use Rattle.p9_guard_laws.specs.Guarded.{IsGuardedState, grown_since, premises_of}
use Rattle.p9_guard_laws.specs.Laws.{IsSafeRun}
use Rattle.p9_guard_laws.proofs.Headline.{alike_run, self_alike}
use Rattle.p9_input_laws.specs.Lives.{CanAllHappen, CanBeSealed, ChangeNothingInside}
use Rattle.p9_input_laws.specs.Lives.{GuardedCanBeSealed, IsLeftWell, IsYesWithoutGap}
use Rattle.p9_input_laws.specs.Lives.{LivesChangeNothingInside, SealingAgainNeverFails, left_after}
use Rattle.p9_input_laws.proofs.Listed.{certificate-listed, no-gap-listed, rows_of}
use Rattle.p9_input_laws.proofs.OuterForests.{length-inner}
use Rattle.p9_input_laws.proofs.OuterRuns.{guarded-outer}

-- Sealing.

module _ (A : Type 0) (policy : Policy) (forest : List Server) (w : IsForest forest)
    (table : List MountRow) (certified : Set)
    (closed : IsClosed policy forest table certified) where
  no-breach : (steps : List Step) (member : NodeRef) (kind : BreachKind)
      → IsBreach policy forest table steps member kind → ⊥
  no-breach steps member kind breach =
      no_breach_where_closed policy forest table certified steps member kind w closed breach

  yes-without-gap : (verdict : Verdict A) → IsVerdict policy forest table verdict
      → IsYesWithoutGap policy forest table verdict
  yes-without-gap (Yes rows) is = is.closed closed.given
  yes-without-gap (No breach) is = no-breach breach.steps.items breach.member breach.kind is.0

  pub sealed-where-closed : CanBeSealed policy forest table A
  sealed-where-closed = record {
    certificate = rows_of forest certified;
    rising = certificate-listed forest w certified;
    closed = no-gap-listed policy forest table certified closed w;
    no_breach = no-breach;
    verdicts = yes-without-gap;
  }

pub guarded-sealed : (A : Type 0) → GuardedCanBeSealed A
guarded-sealed A hidden start state guarded =
    let premises = premises_of hidden state.setting in
    sealed-where-closed A premises.policy state.forest guarded.sound.forest state.setting.table
    (grown_since premises start state.forest) guarded.closed

-- What is left.

-- a guarded state is guarded without its sessions
without-sessions : (hidden : List NodeRef) (start : Start) (state : State)
    → IsGuardedState hidden start state
    → IsGuardedState hidden start (record state { sessions = [] })
unfolding IsStrictlySortedBy
without-sessions hidden start state guarded = record {
  sound = record {
    forest = guarded.sound.forest;
    served = record {
      fixed = guarded.sound.served.fixed;
      given = guarded.sound.served.given;
      rising = tt;
      sessions = tt;
    };
  };
  later = guarded.later;
  hidden_given = guarded.hidden_given;
  closed = guarded.closed;
  fids = tt;
}

-- what holds of each row holds of all
all-rows : (P : NodeRef → Type 0) (rows : List NodeRef)
    → ((at : NodeRef) → is_row rows at ≡ true → P at) → All P rows
all-rows P [] h = All-nil P
all-rows P (row ∷ rows) h =
    All-cons P row rows (h row (or_left (same_node row row) (is_row rows row) (same_self row)))
    (all-rows P rows (λ at t. h at (or_right (same_node row at) (is_row rows at) t)))

module _ (world : World) (table : List MountRow) (start : Start) (ok : IsWellFormed world table)
    (guarded : IsGuardedState world.hidden start (served world table)) (events : List Marked)
    (fine : AllByRecursion (λ event. IsEvent event.0) events) where
  abbrev before : State
  before = served world table

  abbrev done : Ran
  done = run before events

  abbrev left : World
  left = left_after world table events

  safe : IsSafeRun world.hidden start before done done
  safe =
      alike_run world.hidden start before before events guarded
      (self_alike world.hidden before ok.forest) fine

  setting : done.state.setting ≡ before.setting
  setting = (guarded-outer world.hidden start before guarded events).setting

  -- the state in which it is exported is guarded
  left-guarded : IsGuardedState world.hidden start (served left table)
  left-guarded =
      without-sessions world.hidden start (record done.state { setting = before.setting })
      (subst (λ s. IsGuardedState world.hidden start (record done.state { setting = s })) setting
      safe.guarded)

  as-many : length done.state.forest ≡ length world.forest
  as-many =
      sym (length-inner world.hidden done.state.forest)
      ∙ ap length safe.insides
      ∙ length-inner world.hidden world.forest

  left-well : IsWellFormed left table
  left-well = record {
    named = record {
      named = ok.named.named ∙ sym as-many;
      few = subst (λ n. n ≤ servers_max) (sym as-many) ok.named.few;
      distinct = ok.named.distinct;
      below =
          all-rows (λ at. at.number < next_of at.server done.state.forest) world.hidden
          (λ at row.
          lt_of at.number (next_of at.server done.state.forest)
          (left-guarded.hidden_given at (sym (row_is_hidden world.hidden at) ∙ row)));
    };
    forest = safe.guarded.sound.forest;
    setting = ok.setting;
  }

-- the state in which a world is exported is guarded, so the world can be sealed
left-sealed : (A : Type 0) (world : World) (table : List MountRow) (start : Start)
    → IsWellFormed world table → IsGuardedState world.hidden start (served world table)
    → IsLeftWell A world table
left-sealed A world table start ok guarded = record {
  well = ok;
  sealed = guarded-sealed A world.hidden start (served world table) guarded;
}

pub sealing-never-fails : (A : Type 0) → SealingAgainNeverFails A
sealing-never-fails A world table certificate ok none events fine =
    let start = start_of certificate world.forest in
    let guarded = starts-guarded world table certificate ok none in
    left-sealed A (left_after world table events) table start
    (left-well world table start ok guarded events fine)
    (left-guarded world table start ok guarded events fine)

-- Lives.

guarded-lives : (A : Type 0) (world : World) (table : List MountRow) (start : Start)
    → IsWellFormed world table → IsGuardedState world.hidden start (served world table)
    → (lives : List (List Marked)) → CanAllHappen world table lives
    → ChangeNothingInside A world table lives
guarded-lives A world table start ok guarded [] happen = record {
  promised = tt;
  insides = refl;
  left = left-sealed A world table start ok guarded;
}
guarded-lives A world table start ok guarded (events ∷ lives) happen =
    let fine = happen.0.each in
    let done = run (served world table) events in
    let later = guarded-lives A (left_after world table events) table start
    (left-well world table start ok guarded events fine)
    (left-guarded world table start ok guarded events fine) lives happen.1 in
    record {
      promised = (
        promised world.hidden start (served world table) events guarded fine done.state
            (concat done.replies) happen.0.permitted refl refl,
        later.promised,
      );
      insides = later.insides ∙ (safe world table start ok guarded events fine).insides;
      left = later.left;
    }

pub lives-change-nothing : (A : Type 0) → LivesChangeNothingInside A
lives-change-nothing A world table certificate ok none lives happen =
    guarded-lives A world table (start_of certificate world.forest) ok
    (starts-guarded world table certificate ok none) lives happen
