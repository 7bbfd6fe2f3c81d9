-- One step of two alike states, and a run.
use Rattle.std.proofs.Common.{◌≡◌, Bool, List, [], ◌∷◌, refl, sym, ap, ◌∙◌, subst}
use Rattle.std.specs.List.{AllByRecursion}
use Rattle.p9_base.specs.declared.node_ref.NodeRef.{NodeRef}
use Rattle.p9_tree.specs.Server.{Server}
use Rattle.p9_tree.specs.Forest.{IsForest}
use Rattle.p9_tree.specs.Inside.{outer}
use Rattle.p9_inside.specs.TwoForests.{IsInBoth}
use Rattle.p9_inside.proofs.TwoForests.{in_both, inside_alike}
use Rattle.p9_step.specs.State.{State}
use Rattle.p9_step.specs.Event.{Event, IsEvent}
use Rattle.p9_step.specs.Step.{step}
use Rattle.p9_step.proofs.Steps.{step-keeps-state}
use Rattle.p9_guard_laws.specs.Guarded.{Premises, IsGuardedState, premises_of}
use Rattle.p9_guard_laws.specs.Grown.{Start}
use Rattle.p9_guard_laws.specs.Alike.{AreAlike, AreMembersInBoth, ArePlacesInBoth}
use Rattle.p9_guard_laws.specs.Laws.{AlikeRun, AlikeStep, IsSafeStep}
use Rattle.p9_guard_laws.proofs.Basics.{each_holds, each_two, each_weaker}
use Rattle.p9_guard_laws.proofs.Held.{HeldFid, HeldFids, HeldPlace}
use Rattle.p9_guard_laws.proofs.Good.{Good}
use Rattle.p9_guard_laws.proofs.Guards.{AreHeld, alike_at, good_of, guarded_from, guarded_there}
use Rattle.p9_guard_laws.proofs.Guards.{held_of, same_but_forest}
use Rattle.p9_guard_laws.proofs.Steps.{Carries, outer_state, step-carries}

module _ (hidden : List NodeRef) (start : Start) (a : State) (g : List Server) (event : Event)
    (refused : Bool) (guarded : IsGuardedState hidden start a)
    (alike : AreAlike hidden a (record a { forest = g })) (fine : IsEvent event) where
  abbrev us : Premises
  us = premises_of hidden a.setting

  abbrev b : State
  b = record a { forest = g }

  abbrev na : State
  na = (step a event refused).state

  abbrev nb : State
  nb = (step b event refused).state

  guarded_b : IsGuardedState hidden start b
  guarded_b = guarded_there hidden start a g guarded alike

  good_a : Good us start a.forest
  good_a = good_of hidden start a guarded

  good_b : Good us start g
  good_b = good_of hidden start b guarded_b

  -- each step is the one without what is inside
  ca : Carries hidden start a (step (outer_state hidden a) event refused) (step a event refused)
  ca = step-carries hidden start a good_a (held_of hidden start a guarded) event refused

  cb : Carries hidden start b (step (outer_state hidden b) event refused) (step b event refused)
  cb = step-carries hidden start b good_b (held_of hidden start b guarded_b) event refused

  -- and that is the same for both
  same : outer_state hidden b ≡ outer_state hidden a
  same = λ i. record a { forest = alike.others i }

  sessions : nb.sessions ≡ na.sessions
  sessions = sym cb.sessions ∙ ap (λ z. (step z event refused).state.sessions) same ∙ ca.sessions

  others : outer hidden nb.forest ≡ outer hidden na.forest
  others = sym cb.forest ∙ ap (λ z. (step z event refused).state.forest) same ∙ ca.forest

  -- Alike again.

  member_both : (r : NodeRef) → IsInBoth a.forest g r → IsInBoth na.forest nb.forest r
  member_both r both =
      in_both hidden na.forest nb.forest ca.good.ordered cb.good.ordered others r
      (cb.inside r
      ∙ inside_alike hidden a.forest g good_a.ordered good_b.ordered alike.others r both
      ∙ sym (ca.inside r))

  members : AreMembersInBoth na.forest nb.forest a.setting.table
  members =
      each_weaker (λ row. AllByRecursion (λ m. IsInBoth a.forest g m.node) row.1)
      (λ row. AllByRecursion (λ m. IsInBoth na.forest nb.forest m.node) row.1)
      (λ row all. each_weaker (λ m. IsInBoth a.forest g m.node)
      (λ m. IsInBoth na.forest nb.forest m.node) (λ m both. member_both m.node both) row.1 all)
      a.setting.table alike.members

  place_both : (r : NodeRef) → HeldPlace us start na.forest r → HeldPlace us start nb.forest r
      → IsInBoth na.forest nb.forest r
  place_both r x y =
      in_both hidden na.forest nb.forest ca.good.ordered cb.good.ordered others r
      (y.outside ∙ sym x.outside)

  held_nb : AreHeld us start nb.forest na.sessions
  held_nb = subst (AreHeld us start nb.forest) sessions cb.fids

  places : ArePlacesInBoth na.forest nb.forest na.sessions
  places =
      each_two (λ row. HeldFids us start na.forest row.1.fids)
      (λ row. HeldFids us start nb.forest row.1.fids)
      (λ row. AllByRecursion (λ fid.
      AllByRecursion (IsInBoth na.forest nb.forest) fid.1.trail) row.1.fids)
      (λ row x y. each_two (λ fid. HeldFid us start na.forest fid.1)
      (λ fid. HeldFid us start nb.forest fid.1)
      (λ fid. AllByRecursion (IsInBoth na.forest nb.forest) fid.1.trail)
      (λ fid v w. each_two (HeldPlace us start na.forest) (HeldPlace us start nb.forest)
      (IsInBoth na.forest nb.forest) place_both fid.1.trail v.places w.places) row.1.fids x y)
      na.sessions ca.fids held_nb

  -- The first is guarded again.

  good_na : Good (premises_of hidden na.setting) start na.forest
  good_na = subst (λ s. Good (premises_of hidden s) start na.forest) (sym ca.setting) ca.good

  held_na : AreHeld (premises_of hidden na.setting) start na.forest na.sessions
  held_na =
      subst (λ s. AreHeld (premises_of hidden s) start na.forest na.sessions) (sym ca.setting) ca.fids

  pub at_forest : IsSafeStep hidden start a (step a event refused) (step b event refused)
  at_forest = record {
    reply = sym cb.reply ∙ ap (λ z. (step z event refused).reply) same ∙ ca.reply;
    alike = record {
      sound = (step-keeps-state b event refused guarded_b.sound fine).forest;
      setting = cb.setting ∙ sym ca.setting;
      sessions = sessions;
      others = others;
      members =
          subst (λ s. AreMembersInBoth na.forest nb.forest s.table) (sym ca.setting) members;
      places = places;
    };
    guarded =
        guarded_from hidden start na (step-keeps-state a event refused guarded.sound fine) good_na
        held_na;
    insides = ca.insides;
  }

pub alike_step : AlikeStep
alike_step hidden start a b event refused guarded alike fine =
    subst (λ (z : State). IsSafeStep hidden start a (step a event refused) (step z event refused))
    (sym (same_but_forest hidden a b alike))
    (at_forest hidden start a b.forest event refused guarded (alike_at hidden a b alike) fine)

pub alike_run : AlikeRun
alike_run hidden start a b [] guarded alike fine =
    record { replies = refl; alike = alike; guarded = guarded; insides = refl }
alike_run hidden start a b (event ∷ events) guarded alike fine =
    let s = alike_step hidden start a b event.0 event.1 guarded alike fine.0 in
    let r = alike_run hidden start (step a event.0 event.1).state (step b event.0 event.1).state
    events s.guarded s.alike fine.1 in
    record {
      replies = λ i. s.reply i ∷ r.replies i;
      alike = r.alike;
      guarded = r.guarded;
      insides = r.insides ∙ s.insides;
    }

-- a state is alike to itself
pub self_alike : (hidden : List NodeRef) (a : State) → IsForest a.forest → AreAlike hidden a a
self_alike hidden a sound = record {
  sound = sound;
  setting = refl;
  sessions = refl;
  others = refl;
  members =
      each_holds (λ row. AllByRecursion (λ m. IsInBoth a.forest a.forest m.node) row.1)
      (λ row. each_holds (λ m. IsInBoth a.forest a.forest m.node) (λ m. refl) row.1)
      a.setting.table;
  places =
      each_holds (λ row. AllByRecursion (λ fid.
      AllByRecursion (IsInBoth a.forest a.forest) fid.1.trail) row.1.fids)
      (λ row. each_holds (λ fid. AllByRecursion (IsInBoth a.forest a.forest) fid.1.trail)
      (λ fid. each_holds (IsInBoth a.forest a.forest) (λ r. refl) fid.1.trail) row.1.fids)
      a.sessions;
}
