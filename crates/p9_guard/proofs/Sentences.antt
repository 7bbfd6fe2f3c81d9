-- Every run from a verified certificate is promised, and promises join.
use Rattle.std.proofs.Common.{◌≡◌, ℕ, true, List, [], ◌∷◌, ◌++◌, None, refl, sym, ap, subst, ◌∙◌}
use Rattle.std.proofs.lemmas.Bool.{and_parts}
use Rattle.std.proofs.lemmas.List.Folds.{concat-append}
use Rattle.std.specs.Prelude.{◌||◌, not, map}
use Rattle.std.specs.List.{concat}
use Rattle.std.specs.List.Sorted.{IsStrictlySortedBy}
use Rattle.p9_base.specs.declared.node_ref.NodeRef.{NodeRef}
use Rattle.p9_space.specs.Table.{MountRow}
use Rattle.p9_world.specs.World.{World}
use Rattle.p9_cert.specs.Gap.{first_gap}
use Rattle.p9_cert.specs.Policy.{policy_of}
use Rattle.p9_step.specs.Sound.{IsState}
use Rattle.p9_step.specs.State.{State}
use Rattle.p9_step.specs.Step.{Marked, run, step}
use Rattle.p9_step.proofs.Steps.{run-goes-on}
use Rattle.p9_guard_laws.specs.Alike.{AreAlike}
use Rattle.p9_guard_laws.specs.Grown.{start_of}
use Rattle.p9_guard_laws.specs.Guarded.{IsGuardedState}
use Rattle.p9_guard.specs.Headline.{IsPromised}
use Rattle.p9_guard.specs.Marks.{are_permitted, may_be_refused}
use Rattle.p9_guard.specs.Sentence.{CanHappen, EveryRunIsPromised, IsWellFormed, PromisesJoin}
use Rattle.p9_guard.specs.Served.{served}
use Rattle.p9_guard.proofs.Begins.{begun, table_given}
use Rattle.p9_guard.proofs.Promises.{promised}

-- the first state is one that the exporter can come to
begins : (world : World) (table : List MountRow) (certificate : List NodeRef)
    → IsWellFormed world table
    → first_gap (policy_of world) world.forest table certificate ≡ None
    → IsState (served world table)
unfolding IsStrictlySortedBy
begins world table certificate ok verified = record {
  forest = ok.forest;
  served = record {
    fixed = ok.setting;
    given = table_given world table certificate verified ok.forest;
    rising = tt;
    sessions = tt;
  };
}

-- and it is guarded
pub starts-guarded : (world : World) (table : List MountRow) (certificate : List NodeRef)
    → IsWellFormed world table
    → first_gap (policy_of world) world.forest table certificate ≡ None
    → IsGuardedState world.hidden (start_of certificate world.forest) (served world table)
starts-guarded world table certificate ok verified =
    begun world table certificate verified ok.forest ok.named (map (λ s. s.next) world.forest) refl
    (served world table) refl (begins world table certificate ok verified)

pub every-run-is-promised : EveryRunIsPromised
every-run-is-promised world table certificate ok verified events happen =
    promised world.hidden (start_of certificate world.forest) (served world table) events
    (starts-guarded world table certificate ok verified) happen.each (run (served world table) events).state
    (concat (run (served world table) events).replies) happen.permitted refl refl

-- marks of events, and of others that follow them
pub permitted-both : (state : State) (events others : List Marked)
    → are_permitted state events ≡ true → are_permitted (run state events).state others ≡ true
    → are_permitted state (events ++ others) ≡ true
permitted-both state [] others first last = last
permitted-both state (e ∷ events) others first last =
    let parts = and_parts (not e.1 || may_be_refused state e.0)
    (are_permitted (step state e.0 e.1).state events) first in
    rw (parts.0)
    (permitted-both (step state e.0 e.1).state events others parts.1 last)

pub promises-join : PromisesJoin
promises-join hidden before between after events others bytes more one two =
    let on = run-goes-on before events others in
    let middle = (run before events).state in
    record {
      permitted =
          permitted-both before events others one.permitted (rw (← one.state_is) two.permitted);
      state_is = two.state_is ∙ ap (λ s. (run s others).state) one.state_is ∙ sym on.state_is;
      bytes_are =
          ap (λ (zs : List ℕ). zs ++ more) one.bytes_are
          ∙ ap (λ (zs : List ℕ). concat (run before events).replies ++ zs)
          (two.bytes_are ∙ ap (λ s. concat (run s others).replies) one.state_is)
          ∙ sym (ap concat on.replies_are
          ∙ concat-append (run before events).replies (run middle others).replies);
      insides = two.insides ∙ one.insides;
      same_replies = λ other alike.
          let beside = run-goes-on other events others in
          beside.replies_are
          ∙ ap (λ (zs : List (List ℕ)). zs ++ (run (run other events).state others).replies)
          (one.same_replies other alike)
          ∙ ap (λ (zs : List (List ℕ)). (run before events).replies ++ zs)
          (two.same_replies (run other events).state (one.same_state other alike)
          ∙ ap (λ s. (run s others).replies) one.state_is)
          ∙ sym on.replies_are;
      same_state = λ other alike.
          let beside = run-goes-on other events others in
          subst (AreAlike hidden after) (sym beside.state_is)
          (two.same_state (run other events).state (one.same_state other alike));
    }
