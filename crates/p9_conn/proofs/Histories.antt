-- A history is a run, and it is promised.
use Rattle.std.proofs.Common.{◌≡◌, ℕ, List, [], ◌∷◌, ◌++◌, refl, ap, sym, ◌∙◌}
use Rattle.std.proofs.lemmas.List.{map-append}
use Rattle.std.specs.List.{AllByRecursion, concat}
use Rattle.p9_step.specs.Event.{IsEvent}
use Rattle.p9_step.specs.State.{State}
use Rattle.p9_step.specs.Step.{Marked, run}
use Rattle.p9_step.proofs.Steps.{run-goes-on}
use Rattle.p9_guard.proofs.Promises.{promised}
use Rattle.p9_guard.proofs.Sentences.{permitted-both}
use Rattle.p9_conn.specs.Turn.{Answered}
use Rattle.p9_conn.specs.History.{Happening, Links, Runs, events_of, history, replies_of}
use Rattle.p9_conn.specs.Laws.{HistoryIsPromised, HistoryIsRun, IsRun}
use Rattle.p9_conn.proofs.Facts.{turned}

-- a run, and another after it
pub both : (old mid new : State) (answered others : List Answered) → IsRun old answered mid
    → IsRun mid others new → IsRun old (answered ++ others) new
both old mid new answered others first later =
    let on = run-goes-on old (events_of answered) (events_of others) in
    let split : events_of (answered ++ others) ≡ events_of answered ++ events_of others =
    map-append (λ (entry : Answered). entry.event) answered others in
    record {
      permitted =
          rw split
          (permitted-both old (events_of answered) (events_of others) first.permitted
          (rw (← first.state_is) later.permitted));
      state_is =
          rw split
          (later.state_is ∙ ap (λ (s : State). (run s (events_of others)).state) first.state_is
          ∙ sym on.state_is);
      replies_are =
          rw split
          (map-append (λ (entry : Answered). entry.reply) answered others
          ∙ ap (λ (zs : List (List ℕ)). zs ++ replies_of others) first.replies_are
          ∙ ap (λ (zs : List (List ℕ)). (run old (events_of answered)).replies ++ zs)
          (later.replies_are
          ∙ ap (λ (s : State). (run s (events_of others)).replies) first.state_is)
          ∙ sym on.replies_are);
    }

pub history-is-run : HistoryIsRun
history-is-run [] links links' state state' runs =
    rw (runs.1) (record { permitted = refl; state_is = refl; replies_are = refl })
history-is-run (h ∷ hs) links links' state state' runs =
    let between = runs.0 in
    let mid = runs.1 in
    let its = turned h links between state mid runs.2 in
    both state mid state' h.deeds.answered (history hs) its.is_run
    (history-is-run hs between links' mid state' runs.3)

-- events that can happen, and others
pub fine-both : (events others : List Marked) → AllByRecursion (λ event. IsEvent event.0) events
    → AllByRecursion (λ event. IsEvent event.0) others
    → AllByRecursion (λ event. IsEvent event.0) (events ++ others)
fine-both [] others all more = more
fine-both (e ∷ events) others all more = (all.0, fine-both events others all.1 more)

fine : (hs : List Happening) (links links' : Links) (state state' : State)
    → Runs hs links state links' state'
    → AllByRecursion (λ event. IsEvent event.0) (events_of (history hs))
fine [] links links' state state' runs = tt
fine (h ∷ hs) links links' state state' runs =
    let its = turned h links runs.0 state runs.1 runs.2 in
    rw (map-append (λ (entry : Answered). entry.event) h.deeds.answered (history hs))
    (fine-both (events_of h.deeds.answered) (events_of (history hs)) its.fine
    (fine hs runs.0 links' runs.1 state' runs.3))

pub history-is-promised : HistoryIsPromised
history-is-promised hidden start hs links links' state state' guarded runs =
    let its = history-is-run hs links links' state state' runs in
    promised hidden start state (events_of (history hs)) guarded
    (fine hs links links' state state' runs) state' (concat (replies_of (history hs)))
    its.permitted its.state_is (ap concat its.replies_are)
