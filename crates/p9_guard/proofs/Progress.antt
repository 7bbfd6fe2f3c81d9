-- How far a run has come.
use Rattle.std.proofs.Common.{◌≡◌, ℕ, ◌≤◌, ◌+◌, Bool, true, List, [], ◌∷◌, ◌++◌, refl, sym, ap, ◌∙◌}
use Rattle.std.proofs.Common.{◌<◌, arith, get_or, take, take_all, length, append-nil, append_assoc}
use Rattle.std.proofs.Common.{Some, slice_get, suc, zero}
use Rattle.std.proofs.lemmas.Bool.{and_parts}
use Rattle.std.proofs.lemmas.List.{get_or-map, length-map, take_more}
use Rattle.std.specs.Prelude.{◌||◌, not, map}
use Rattle.std.specs.List.{AllByRecursion, concat}
use Rattle.p9_base.specs.declared.node_ref.NodeRef.{NodeRef}
use Rattle.p9_step.specs.State.{State}
use Rattle.p9_step.specs.Event.{Event, IsEvent}
use Rattle.p9_step.specs.Step.{Marked, run, step}
use Rattle.p9_step.proofs.Steps.{run-goes-on}
use Rattle.p9_guard_laws.specs.Grown.{Start}
use Rattle.p9_guard_laws.specs.Guarded.{IsGuardedState}
use Rattle.p9_guard.specs.Headline.{HasRun, IsPromised}
use Rattle.p9_guard.specs.Marks.{are_permitted, may_be_refused}
use Rattle.p9_guard.proofs.Promises.{promised}

-- marks of events, and of one more
permitted-append : (state : State) (events : List Marked) (event : Marked)
    → are_permitted state events ≡ true
    → are_permitted (run state events).state (event ∷ []) ≡ true
    → are_permitted state (events ++ event ∷ []) ≡ true
permitted-append state [] event first last = last
permitted-append state (e ∷ events) event first last =
    let parts = and_parts (not e.1 || may_be_refused state e.0)
    (are_permitted (step state e.0 e.1).state events) first in
    rw (parts.0)
    (permitted-append (step state e.0 e.1).state events event parts.1 last)

fine-append : (events : List Marked) (event : Marked)
    → AllByRecursion (λ e. IsEvent e.0) events → IsEvent event.0
    → AllByRecursion (λ e. IsEvent e.0) (events ++ event ∷ [])
fine-append [] event all one = (one, tt)
fine-append (e ∷ events) event all one = (all.0, fine-append events event all.1 one)

concat-one : (xss : List (List ℕ)) (xs : List ℕ) → concat (xss ++ xs ∷ []) ≡ concat xss ++ xs
concat-one [] xs = append-nil xs
concat-one (ys ∷ xss) xs =
    ap (λ (zs : List ℕ). ys ++ zs) (concat-one xss xs) ∙ sym (append_assoc ys (concat xss) xs)

map-one : (events : List Marked) (event : Marked)
    → map (λ e. e.0) (events ++ event ∷ []) ≡ map (λ e. e.0) events ++ event.0 ∷ []
map-one [] event = refl
map-one (e ∷ events) event = ap (λ (zs : List Event). e.0 ∷ zs) (map-one events event)

-- these events are done: the state is now this one, and the bytes that are used are the old ones
-- and the replies
pub record HasDone (before : State) (old : List ℕ) (events : List Event) (now : State) (used : ℕ)
    (bytes : List ℕ) : Type 0 where
  pub marked : List Marked
  pub events_are : map (λ e. e.0) marked ≡ events
  pub fine : AllByRecursion (λ e. IsEvent e.0) marked
  pub permitted : are_permitted before marked ≡ true
  pub state_is : now ≡ (run before marked).state
  pub within : used ≤ length bytes
  pub bytes_are : take used bytes ≡ old ++ concat (run before marked).replies

pub none-done : (before : State) (old : List ℕ) (used : ℕ) → used ≡ length old
    → HasDone before old [] before used old
none-done before old used is = record {
  marked = [];
  events_are = refl;
  fine = tt;
  permitted = refl;
  state_is = refl;
  within = omega (arith, is);
  bytes_are = take_all used old (omega (arith, is)) ∙ sym (append-nil old);
}

-- one event more is done
pub one-more : (before : State) (old : List ℕ) (hidden : List NodeRef) (events : List Event)
    (event : Event) (now after : State) (used size : ℕ) (bytes bytes' : List ℕ)
    → HasDone before old events now used bytes → IsEvent event → used + size ≤ length bytes'
    → (refused : Bool) × (reply : List ℕ)
    × (take (used + size) bytes' ≡ take used bytes ++ reply)
    × IsPromised hidden now ((event, refused) ∷ []) after reply
    → HasDone before old (events ++ event ∷ []) after (used + size) bytes'
one-more before old hidden events event now after used size bytes bytes' done fine within does =
    let refused = does.0 in
    let reply = does.1 in
    let one : IsPromised hidden now ((event, refused) ∷ []) after reply = does.3 in
    let on = run-goes-on before done.marked ((event, refused) ∷ []) in
    let last = (step (run before done.marked).state event refused).reply in
    let is : reply ≡ last =
    one.bytes_are
    ∙ ap (λ s. concat (run s ((event, refused) ∷ [])).replies) done.state_is
    ∙ append-nil last in
    let replies : concat (run before (done.marked ++ (event, refused) ∷ [])).replies
    ≡ concat (run before done.marked).replies ++ reply =
    ap concat on.replies_are ∙ concat-one (run before done.marked).replies last
    ∙ ap (λ (zs : List ℕ). concat (run before done.marked).replies ++ zs) (sym is) in
    record {
      marked = done.marked ++ (event, refused) ∷ [];
      events_are = map-one done.marked (event, refused)
          ∙ ap (λ (zs : List Event). zs ++ event ∷ []) done.events_are;
      fine = fine-append done.marked (event, refused) done.fine fine;
      permitted =
          permitted-append before done.marked (event, refused) done.permitted
          (rw (← done.state_is) one.permitted);
      state_is = one.state_is ∙ ap (λ s. (run s ((event, refused) ∷ [])).state) done.state_is
          ∙ sym on.state_is;
      within = within;
      bytes_are = does.2 ∙ ap (λ (zs : List ℕ). zs ++ reply) done.bytes_are
          ∙ append_assoc old (concat (run before done.marked).replies) reply
          ∙ ap (λ (zs : List ℕ). old ++ zs) (sym replies);
    }

-- what is done was run, also where bytes that are not used have changed since
pub has-run : (hidden : List NodeRef) (start : Start) (before : State) (old : List ℕ)
    (events : List Event) (now now' : State) (used : ℕ) (bytes bytes' new : List ℕ)
    → IsGuardedState hidden start before → HasDone before old events now used bytes → now' ≡ now
    → take used bytes' ≡ take used bytes → new ≡ take used bytes'
    → HasRun hidden before events now' old new
has-run hidden start before old events now now' used bytes bytes' new guarded done same kept is =
    record {
      marked = done.marked;
      events_are = done.events_are;
      bytes = concat (run before done.marked).replies;
      appended = is ∙ kept ∙ done.bytes_are;
      promised =
          promised hidden start before done.marked guarded done.fine now'
          (concat (run before done.marked).replies) done.permitted (same ∙ done.state_is) refl;
    }

-- One item more of a list, as it is seen.

pub taken-more : {X Y : Type 0} (view : X → Y) (xs : List X) (i : ℕ) (x : X) → i < length xs
    → x ≡ get_or xs i x → take (i + 1) (map view xs) ≡ take i (map view xs) ++ view x ∷ []
taken-more {X} {Y} view xs i x within is =
    take_more (map view xs) i (view x) (omega (arith, within, length-map xs view))
    ∙ ap (λ (y : Y). take i (map view xs) ++ y ∷ [])
    (get_or-map view xs i x (view x) within ∙ ap view (sym is))

pub taken-more-twice : {X Y Z : Type 0} (field : Y → Z) (view : X → Y) (xs : List X) (i : ℕ) (x : X)
    → i < length xs → x ≡ get_or xs i x
    → take (i + 1) (map field (map view xs)) ≡ take i (map field (map view xs)) ++ field (view x) ∷ []
taken-more-twice field view xs i x within is =
    taken-more field (map view xs) i (view x) (omega (arith, within, length-map xs view))
    (ap view is ∙ sym (get_or-map view xs i x (view x) within))

pub item-map : {X Y : Type 0} (view : X → Y) (xs : List X) (i : ℕ) (x : X) → i < length xs
    → x ≡ get_or xs i x → slice_get (map view xs) i ≡ Some (view x)
item-map view (y ∷ ys) zero x within is = ap (λ z. Some (view z)) (sym is)
item-map view (y ∷ ys) (suc i) x within is = item-map view ys i x (omega arith) is
item-map view [] i x within is = absurd (omega arith)
