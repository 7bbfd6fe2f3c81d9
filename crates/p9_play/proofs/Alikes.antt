-- Alike worlds print the same play text.
use Rattle.std.proofs.Common.{◌≡◌, ℕ, Bool, true, false, List, [], ◌∷◌, ◌++◌, refl, ap, ◌∙◌}
use Rattle.std.specs.Prelude.{◌&&◌, is_some, if◌then◌else◌}
use Rattle.std.specs.List.{AllByRecursion}
use Rattle.hex.specs.Hex.{encode_lower}
use Rattle.p9_base.specs.declared.node_ref.NodeRef.{NodeRef}
use Rattle.p9_wire.specs.Frame.{is_frame}
use Rattle.p9_step.specs.Event.{Event, Open, Message, Close, IsEvent}
use Rattle.p9_step.specs.State.{SessionRow, State, session_at}
use Rattle.p9_step.specs.Step.{step}
use Rattle.p9_guard.specs.Served.{served}
use Rattle.p9_guard.proofs.Sentences.{starts-guarded}
use Rattle.p9_guard_laws.specs.Alike.{AreAlike}
use Rattle.p9_guard_laws.specs.Grown.{Start, start_of}
use Rattle.p9_guard_laws.specs.Guarded.{IsGuardedState}
use Rattle.p9_guard_laws.specs.Laws.{IsSafeStep}
use Rattle.p9_guard_laws.proofs.Headline.{alike_step}
use Rattle.p9_play.specs.Laws.{AlikeWorldsPlayAlike}
use Rattle.p9_play.specs.Play.{Played, play_text, played, replied, silent, skipped}

module _ (hidden : List NodeRef) (start : Start) where
  -- what is printed is the same, and the states are alike again
  record PlaysAlike (a b : Played) : Type 0 where
    text : b.text ≡ a.text
    alike : AreAlike hidden a.state b.state
    guarded : IsGuardedState hidden start a.state

  module _ (a b : State) (guarded : IsGuardedState hidden start a) (alike : AreAlike hidden a b)
    where
      stays : PlaysAlike (skipped a) (skipped b)
      stays = record { text = refl; alike = alike; guarded = guarded }

      stepped : (event : Event) (refused : Bool) → IsEvent event
          → IsSafeStep hidden start a (step a event refused) (step b event refused)
      stepped event refused fine = alike_step hidden start a b event refused guarded alike fine

      is-silent : (event : Event) → IsEvent event
          → PlaysAlike (silent (step a event false)) (silent (step b event false))
      is-silent event fine =
          let its = stepped event false fine in
          record { text = refl; alike = its.alike; guarded = its.guarded }

      is-replied : (event : Event) (refused : Bool) → IsEvent event
          → PlaysAlike (replied (step a event refused)) (replied (step b event refused))
      is-replied event refused fine =
          let its = stepped event refused fine in
          record {
            text = ap (λ (reply : List ℕ). encode_lower reply ++ 10 ∷ []) its.reply;
            alike = its.alike;
            guarded = its.guarded;
          }

      -- a session is open in both or in neither
      fits : (name : ℕ)
          → is_some (session_at name b.sessions) ≡ is_some (session_at name a.sessions)
      fits name = ap (λ (rows : List SessionRow). is_some (session_at name rows)) alike.sessions

      -- an event is played; whether it fits is the same in both
      plays : (event : Event) (refused : Bool) → IsEvent event
          → PlaysAlike (played a event refused) (played b event refused)
      plays (Open name) refused fine =
          go (is_some (session_at name a.sessions)) (is_some (session_at name b.sessions))
          (fits name)
        where
          go : (c d : Bool) → d ≡ c
              → PlaysAlike (if c then skipped a else silent (step a (Open name) false))
              (if d then skipped b else silent (step b (Open name) false))
          go true true e = stays
          go false false e = is-silent (Open name) fine
          go true false e = absurd (cc)
          go false true e = absurd (cc)
      plays (Message name frame now) refused fine =
          go (is_frame frame && is_some (session_at name a.sessions))
          (is_frame frame && is_some (session_at name b.sessions))
          (ap (λ (c : Bool). is_frame frame && c) (fits name))
        where
          go : (c d : Bool) → d ≡ c
              → PlaysAlike (if c then replied (step a (Message name frame now) refused) else skipped a)
              (if d then replied (step b (Message name frame now) refused) else skipped b)
          go true true e = is-replied (Message name frame now) refused fine
          go false false e = stays
          go true false e = absurd (cc)
          go false true e = absurd (cc)
      plays (Close name now) refused fine =
          go (is_some (session_at name a.sessions)) (is_some (session_at name b.sessions))
          (fits name)
        where
          go : (c d : Bool) → d ≡ c
              → PlaysAlike (if c then silent (step a (Close name now) false) else skipped a)
              (if d then silent (step b (Close name now) false) else skipped b)
          go true true e = is-silent (Close name now) fine
          go false false e = stays
          go true false e = absurd (cc)
          go false true e = absurd (cc)

  plays-all : (a b : State) → IsGuardedState hidden start a → AreAlike hidden a b
      → (events : List Event) (marks : List Bool) → AllByRecursion IsEvent events
      → play_text b events marks ≡ play_text a events marks
  plays-all a b guarded alike [] marks fine = refl
  plays-all a b guarded alike (event ∷ events) [] fine =
      let its = plays a b guarded alike event false fine.0 in
      let others = plays-all (played a event false).state (played b event false).state its.guarded
      its.alike events [] fine.1 in
      ap (λ (text : List ℕ). text ++ play_text (played b event false).state events []) its.text
      ∙ ap (λ (text : List ℕ). (played a event false).text ++ text) others
  plays-all a b guarded alike (event ∷ events) (refused ∷ marks) fine =
      let its = plays a b guarded alike event refused fine.0 in
      let others = plays-all (played a event refused).state (played b event refused).state
      its.guarded its.alike events marks fine.1 in
      ap (λ (text : List ℕ). text ++ play_text (played b event refused).state events marks) its.text
      ∙ ap (λ (text : List ℕ). (played a event refused).text ++ text) others

pub alike-worlds-play-alike : AlikeWorldsPlayAlike
alike-worlds-play-alike world other table certificate ok verified alike events marks fine =
    plays-all world.hidden (start_of certificate world.forest) (served world table)
    (served other table) (starts-guarded world table certificate ok verified) alike events marks fine
