-- One step, and one turn, of two alike states.
use Rattle.std.proofs.Common.{◌≡◌, ℕ, inl, inr, Bool, List, refl, sym, ap, ◌∙◌, subst}
use Rattle.p9_base.specs.declared.node_ref.NodeRef.{NodeRef}
use Rattle.p9_step.specs.Event.{Event, IsEvent}
use Rattle.p9_step.specs.State.{State}
use Rattle.p9_step.specs.Step.{step}
use Rattle.p9_guard_laws.specs.Alike.{AreAlike}
use Rattle.p9_guard_laws.specs.Grown.{Start}
use Rattle.p9_guard_laws.specs.Guarded.{IsGuardedState}
use Rattle.p9_guard_laws.proofs.Headline.{alike_step}
use Rattle.p9_conn.specs.Turn.{Answered, Answering, Deeds, Ending, IsIdle, IsStep, Link, Over}
use Rattle.p9_conn.specs.Turn.{Phase, Receives, Receiving, Scene, Sending, Sends, TurnBy}
use Rattle.p9_serve_laws.proofs.Marks.{permitted-alike}

abbrev pub scene_at : Link → State → Scene
scene_at link state = record { link = link; state = state }

module _ (hidden : List NodeRef) (start : Start) where
  -- two alike states, of which the first is guarded
  pub record AreBoth (a b : State) : Type 0 where
    pub guarded : IsGuardedState hidden start a
    pub alike : AreAlike hidden a b

  -- after the same event, with the same mark
  pub both-step : (a b : State) (event : Event) (refused : Bool) → AreBoth a b → IsEvent event
      → AreBoth (step a event refused).state (step b event refused).state
  both-step a b event refused both fine =
      let s = alike_step hidden start a b event refused both.guarded both.alike fine in
      record { guarded = s.guarded; alike = s.alike }

  -- What a state does, an alike state may do.

  pub record StepsToo (entry : Answered) (new b : State) : Type 0 where
    pub other : State
    pub stepped : IsStep entry b other
    pub both : AreBoth new other

  steps-too : (entry : Answered) (old new b : State) → AreBoth old b → IsStep entry old new
      → StepsToo entry new b
  steps-too entry old new b both t =
      let s = alike_step hidden start old b entry.event.0 entry.event.1 both.guarded both.alike
      t.fine in
      record {
        other = (step b entry.event.0 entry.event.1).state;
        stepped = record {
          fine = t.fine;
          permitted = permitted-alike hidden start old b entry.event both.guarded both.alike
              ∙ t.permitted;
          state_is = refl;
          reply_is = t.reply_is ∙ sym s.reply;
        };
        both = subst (λ (z : State). AreBoth z (step b entry.event.0 entry.event.1).state)
            (sym t.state_is) (record { guarded = s.guarded; alike = s.alike });
      }

  pub record TurnsToo (phase : Phase) (session clock : ℕ) (link : Link) (new : Scene) (b : State)
      (deeds : Deeds) : Type 0 where
    pub other : State
    pub turn : TurnBy phase session clock (scene_at link b) (scene_at new.link other) deeds
    pub both : AreBoth new.state other

  idle-too : (old new : Scene) (b : State) (deeds : Deeds) → IsIdle old new deeds
      → IsIdle (scene_at old.link b) (scene_at new.link b) deeds
  idle-too old new b deeds t = record {
    scene_is = ap (λ (s : Scene). scene_at s.link b) t.scene_is;
    deeds_are = t.deeds_are;
  }

  idle-both : (old new : Scene) (b : State) (deeds : Deeds) → AreBoth old.state b
      → IsIdle old new deeds → AreBoth new.state b
  idle-both old new b deeds both t = subst (λ (s : Scene). AreBoth s.state b) (sym t.scene_is) both

  same-both : (old new b : State) → AreBoth old b → new ≡ old → AreBoth new b
  same-both old new b both same = subst (λ (z : State). AreBoth z b) (sym same) both

  sends-too : (old new : Scene) (b : State) (deeds : Deeds) → Sends old new deeds
      → Sends (scene_at old.link b) (scene_at new.link b) deeds
  sends-too old new b deeds t = record {
    some = t.some;
    front = t.front;
    link_is = t.link_is;
    state_is = refl;
    no_read = t.no_read;
    no_entry = t.no_entry;
  }

  receives-too : (old new : Scene) (b : State) (deeds : Deeds) → Receives old new deeds
      → Receives (scene_at old.link b) (scene_at new.link b) deeds
  receives-too old new b deeds t = record {
    some = t.some;
    link_is = t.link_is;
    state_is = refl;
    none_written = t.none_written;
    no_entry = t.no_entry;
  }

  pub turns-too : (phase : Phase) (session clock : ℕ) (old new : Scene) (b : State) (deeds : Deeds)
      → AreBoth old.state b → TurnBy phase session clock old new deeds
      → TurnsToo phase session clock old.link new b deeds
  turns-too Over session clock old new b deeds both t = record {
    other = b;
    turn = idle-too old new b deeds t;
    both = idle-both old new b deeds both t;
  }
  turns-too Sending session clock old new b deeds both (inl t) = record {
    other = b;
    turn = inl (sends-too old new b deeds t);
    both = same-both old.state new.state b both t.state_is;
  }
  turns-too Sending session clock old new b deeds both (inr (inl t)) = record {
    other = b;
    turn = inr (inl (idle-too old new b deeds t));
    both = idle-both old new b deeds both t;
  }
  turns-too Sending session clock old new b deeds both (inr (inr t)) =
      let s = steps-too _ old.state new.state b both t.stepped in
      record {
        other = s.other;
        turn = inr (inr (record {
          link_is = t.link_is;
          stepped = s.stepped;
          deeds_are = t.deeds_are;
        }));
        both = s.both;
      }
  turns-too (Answering size) session clock old new b deeds both t =
      let s = steps-too _ old.state new.state b both t.stepped in
      record {
        other = s.other;
        turn = record {
          refused = t.refused;
          link_is = t.link_is;
          stepped = s.stepped;
          deeds_are = t.deeds_are;
        };
        both = s.both;
      }
  turns-too Ending session clock old new b deeds both t =
      let s = steps-too _ old.state new.state b both t.stepped in
      record {
        other = s.other;
        turn = record { link_is = t.link_is; stepped = s.stepped; deeds_are = t.deeds_are };
        both = s.both;
      }
  turns-too Receiving session clock old new b deeds both (inl t) = record {
    other = b;
    turn = inl (receives-too old new b deeds t);
    both = same-both old.state new.state b both t.state_is;
  }
  turns-too Receiving session clock old new b deeds both (inr (inl t)) = record {
    other = b;
    turn = inr (inl (idle-too old new b deeds t));
    both = idle-both old new b deeds both t;
  }
  turns-too Receiving session clock old new b deeds both (inr (inr t)) =
      let s = steps-too _ old.state new.state b both t.stepped in
      record {
        other = s.other;
        turn = inr (inr (record {
          link_is = t.link_is;
          stepped = s.stepped;
          deeds_are = t.deeds_are;
        }));
        both = s.both;
      }
