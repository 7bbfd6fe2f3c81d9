-- Events that are played one after another.
use Rattle.std.proofs.Common.{◌≡◌, ℕ, ◌+◌, ◌<◌, ◌≤◌, Bool, List, [], ◌∷◌, ◌++◌, length}
use Rattle.std.proofs.Common.{get_or, drop, map, sym, ap, ◌∙◌, arith, append_assoc}
use Rattle.std.proofs.Common.{append-nil}
use Rattle.std.proofs.lemmas.List.{get_or-map, length-map, drop_more, drop_all}
use Rattle.p9_step.specs.State.{State}
use Rattle.p9_step.specs.Event.{Event}
use Rattle.p9_play.specs.Play.{Plays, PlaysAll, play_text, played}

-- some events were played, with some marks: what is printed for the others, whatever their marks,
-- is the rest of the play text
pub record PlaysSoFar (all : List Event) (start : State) (before : List ℕ) (rest : List Event)
    (here : State) (out : List ℕ) : Type 0 where
  pub front : List Bool
  pub goes_on : (back : List Bool)
      → out ++ play_text here rest back ≡ before ++ play_text start all (front ++ back)

module _ (all : List Event) (start : State) (before : List ℕ) (here : State) (out : List ℕ) where
  -- one event more
  plays-event : (event : Event) (rest : List Event) (next : State) (after : List ℕ)
      → PlaysSoFar all start before (event ∷ rest) here out → Plays event here next out after →
      PlaysSoFar all start before rest next after
  plays-event event rest next after so_far one =
      record {
        front = so_far.front ++ one.refused ∷ [];
        goes_on = λ back.
            ap (λ text. text ++ play_text next rest back) one.text_is
            ∙ append_assoc out (played here event one.refused).text (play_text next rest back)
            ∙ ap
            (λ state. out
            ++ ((played here event one.refused).text ++ play_text state rest back)) one.state_is
            ∙ so_far.goes_on (one.refused ∷ back)
            ∙ ap (λ marks. before ++ play_text start all marks)
            (sym (append_assoc so_far.front (one.refused ∷ []) back));
      }

  -- one event more of a list that is gone through
  pub plays-more : {X : Type 0} (view : X → Event) (items : List X) (i : ℕ) (x d : X) (next : State)
      (after : List ℕ) → i < length items → x ≡ get_or items i d →
      PlaysSoFar all start before (drop i (map view items)) here out
      → Plays (view x) here next out after →
      PlaysSoFar all start before (drop (i + 1) (map view items)) next after
  plays-more view items i x d next after l at so_far one =
      let short : i < length (map view items) = omega (arith, length-map items view) in
      let at_x : get_or (map view items) i (view x) ≡ view x =
      get_or-map view items i d (view x) l ∙ ap view (sym at) in
      let begins : drop i (map view items) ≡ view x ∷ drop (i + 1) (map view items) =
      drop_more (map view items) i (view x) short
      ∙ ap (λ event. event ∷ drop (i + 1) (map view items)) at_x in
      plays-event (view x) (drop (i + 1) (map view items)) next after (rw begins at so_far) one

  -- after the last event
  pub plays-end : {X : Type 0} (view : X → Event) (items : List X) (i : ℕ) → length items ≤ i
      → PlaysSoFar all start before (drop i (map view items)) here out
      → PlaysAll all start before out
  plays-end view items i l so_far =
      let none : drop i (map view items) ≡ [] =
      drop_all i (map view items) (omega (arith, length-map items view)) in
      record {
        marks = so_far.front ++ [];
        text_is =
            sym (append-nil out) ∙ ap (λ rest. out ++ play_text here rest []) (sym none)
            ∙ so_far.goes_on [];
      }
