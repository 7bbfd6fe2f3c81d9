-- Memory may be refused to the same events in two alike states.
use Rattle.std.proofs.Common.{◌≡◌, ℕ, ◌&&◌, Bool, true, false, List, [], ◌∷◌, Option, Some, None}
use Rattle.std.proofs.Common.{refl, sym, ap, ◌∙◌, subst}
use Rattle.std.specs.Prelude.{◌||◌, not}
use Rattle.std.specs.Option.{option_map_or}
use Rattle.std.specs.Ordering.{nat_cmp}
use Rattle.std.specs.BTreeMap.{is_at}
use Rattle.p9_base.specs.declared.node_ref.NodeRef.{NodeRef}
use Rattle.p9_base.proofs.Rows.{each-lookup}
use Rattle.p9_tree.specs.Server.{Server}
use Rattle.p9_tree.specs.Inside.{outer}
use Rattle.p9_wire.specs.Frame.{is_frame}
use Rattle.p9_step.specs.Answer.{Answer}
use Rattle.p9_step.specs.Memory.{frame_may_fail}
use Rattle.p9_step.specs.Event.{Close, Event, Message, Open}
use Rattle.p9_step.specs.State.{Session, State, session_at}
use Rattle.p9_step.specs.Step.{Marked, frame_answer, runs_out}
use Rattle.p9_guard.specs.Marks.{are_permitted, may_be_refused}
use Rattle.p9_guard_laws.specs.Alike.{AreAlike}
use Rattle.p9_guard_laws.specs.Grown.{Start}
use Rattle.p9_guard_laws.specs.Guarded.{IsGuardedState, premises_of}
use Rattle.p9_guard_laws.proofs.Guards.{alike_at, good_of, guarded_there, held_of, same_but_forest}
use Rattle.p9_guard_laws.proofs.Held.{HeldFids}
use Rattle.p9_guard_laws.proofs.Messages.{frame-agrees}
use Rattle.p9_guard_laws.proofs.Scene.{Scene, scene_of}

-- the answer to a frame of a guarded state's session is the one without what is inside
outer-answer : (hidden : List NodeRef) (start : Start) (a : State) → IsGuardedState hidden start a
    → (name : ℕ) (session : Session) → session_at name a.sessions ≡ Some session
    → (clock : ℕ) (frame : List ℕ)
    → frame_answer a.setting (outer hidden a.forest) a.sessions session clock frame
    ≡ frame_answer a.setting a.forest a.sessions session clock frame
outer-answer hidden start a guarded name session there clock frame =
    let scene : Scene =
    scene_of hidden a.setting start a.forest (good_of hidden start a guarded) in
    let safe = each-lookup
    (λ (s : Session). HeldFids (premises_of hidden a.setting) start a.forest s.fids)
    (is_at (nat_cmp name)) a.sessions session (held_of hidden start a guarded) there in
    (frame-agrees scene a.sessions session clock frame safe).same

module _ (hidden : List NodeRef) (start : Start) (a : State) (g : List Server)
    (guarded : IsGuardedState hidden start a)
    (alike : AreAlike hidden a (record a { forest = g })) where
  abbrev b : State
  b = record a { forest = g }

  -- so it is the same in both
  same-answer : (name : ℕ) (session : Session) → session_at name a.sessions ≡ Some session
      → (clock : ℕ) (frame : List ℕ)
      → frame_answer a.setting g a.sessions session clock frame
      ≡ frame_answer a.setting a.forest a.sessions session clock frame
  same-answer name session there clock frame =
      sym (outer-answer hidden start b (guarded_there hidden start a g guarded alike) name session
      there clock frame)
      ∙ ap (λ (f : List Server). frame_answer a.setting f a.sessions session clock frame)
      alike.others
      ∙ outer-answer hidden start a guarded name session there clock frame

  may-there : (event : Event) → may_be_refused b event ≡ may_be_refused a event
  may-there (Open name) = refl
  may-there (Close name clock) = refl
  may-there (Message name frame clock) = go (session_at name a.sessions) refl
    where
      go : (o : Option Session) → session_at name a.sessions ≡ o
          → (is_frame frame
          && option_map_or (λ session. runs_out b session frame clock true) o false)
          ≡ (is_frame frame
          && option_map_or (λ session. runs_out a session frame clock true) o false)
      go None there = refl
      go (Some session) there =
          ap (λ (answer : Answer). is_frame frame && (true && frame_may_fail frame answer))
          (same-answer name session there clock frame)

-- memory may be refused to the same events
pub may-alike : (hidden : List NodeRef) (start : Start) (a b : State) (event : Event)
    → IsGuardedState hidden start a → AreAlike hidden a b
    → may_be_refused b event ≡ may_be_refused a event
may-alike hidden start a b event guarded alike =
    subst (λ (z : State). may_be_refused z event ≡ may_be_refused a event)
    (sym (same_but_forest hidden a b alike))
    (may-there hidden start a b.forest guarded (alike_at hidden a b alike) event)

-- and the mark of one event is permitted in both, or in neither
pub permitted-alike : (hidden : List NodeRef) (start : Start) (a b : State) (event : Marked)
    → IsGuardedState hidden start a → AreAlike hidden a b
    → are_permitted b (event ∷ []) ≡ are_permitted a (event ∷ [])
permitted-alike hidden start a b event guarded alike =
    ap (λ (may : Bool). (not event.1 || may) && true)
    (may-alike hidden start a b event.0 guarded alike)
