-- A server's life is a run that is promised.
use Rattle.std.proofs.Common.{◌≡◌, ℕ, zero, suc, ◌<◌, ◌^◌, Bool, true, false, List, [], ◌∷◌, ◌++◌}
use Rattle.std.proofs.Common.{Option, Some, None, refl, sym, ap, append-nil, map, subst, ◌∙◌}
use Rattle.std.specs.List.{AllByRecursion, concat}
use Rattle.p9_step.specs.Event.{IsEvent}
use Rattle.p9_guard.specs.Guard.{Guarded}
use Rattle.p9_guard.proofs.Promises.{closing_is_silent, promised}
use Rattle.p9_guard_laws.specs.Guarded.{IsGuardedState}
use Rattle.p9_conn.specs.Conn.{Connection, scene}
use Rattle.p9_conn.specs.History.{Happening, events_of, replies_of}
use Rattle.p9_conn.specs.Laws.{IsRun}
use Rattle.p9_conn.specs.Turn.{Answered, Deeds}
use Rattle.p9_conn.specs.declared.conn.Turn.{Turn}
use Rattle.p9_conn.proofs.Facts.{common, no-run}
use Rattle.p9_conn.proofs.Histories.{both, fine-both}
use Rattle.std.proofs.lemmas.List.{map-append}
use Rattle.p9_clients.specs.Serving.{EndAt, Ended, IsFinished, Serving, TurnAt, Turned, in_state, slot_at}
use Rattle.p9_serve.specs.Laws.{EveryLifeIsPromised, HasLived, IsLife}
use Rattle.p9_serve.specs.Life.{Acts, ArrivesAt, Arrives, HasActed, HasRounds, Leaves, LeavesAt, Moment}
use Rattle.p9_serve.specs.Life.{Pass, Passes, entered_all, events_in, history}
use Rattle.p9_serve.specs.Life.{opening}
use Rattle.p9_serve.specs.Rounds.{AcceptsIf, HasRound, Running, accepts_now, entered_by}
use Rattle.p9_serve.specs.Rounds.{entered_in, new_server}
use Rattle.p9_serve.specs.Visits.{visits_in}
use Rattle.p9_serve.specs.declared.server.Round.{Round}

-- a reading of the clock at which a connection leaves has 32 bits
abbrev pub IsTimely : Moment → Type 0
IsTimely (Arrives key) = Unit {0}
IsTimely (Acts h) = Unit {0}
IsTimely (Leaves key now) = now < 2 ^ 32

module _ {S : Type 0} (remaining contents : S → Option (List ℕ)) where
  -- the streams of the clients that arrive
  pub arrivals : (ms : List Moment) (a b : Serving S) → Pass remaining contents ms a b → List S
  arrivals [] a b t = []
  arrivals (Arrives key ∷ ms) a b t = t.1.stream ∷ arrivals ms t.0 b t.2
  arrivals (Acts h ∷ ms) a b t = arrivals ms t.0 b t.2
  arrivals (Leaves key now ∷ ms) a b t = arrivals ms t.0 b t.2

  pub arrivals-are : (ms : List Moment) (a b : Serving S) (t : Pass remaining contents ms a b)
      → map (λ visit. visit.stream) (visits_in remaining contents ms a b t) ≡ arrivals ms a b t
  unfolding arrivals
  arrivals-are [] a b t = refl
  arrivals-are (Arrives key ∷ ms) a b t =
      ap (λ (zs : List S). t.1.stream ∷ zs) (arrivals-are ms t.0 b t.2)
  arrivals-are (Acts h ∷ ms) a b t = arrivals-are ms t.0 b t.2
  arrivals-are (Leaves key now ∷ ms) a b t = arrivals-are ms t.0 b t.2

  -- moments, and others after them
  pass-both : (ms ns : List Moment) (a b c : Serving S) (one : Pass remaining contents ms a b)
      (two : Pass remaining contents ns b c)
      → (t : Pass remaining contents (ms ++ ns) a c)
      × (arrivals (ms ++ ns) a c t ≡ arrivals ms a b one ++ arrivals ns b c two)
  unfolding arrivals
  pass-both [] ns a b c one two =
      subst (λ (s : Serving S). (t : Pass remaining contents ns s c)
      × (arrivals ns s c t ≡ arrivals ns b c two)) one (two, refl)
  pass-both (Arrives key ∷ ms) ns a b c one two =
      let more = pass-both ms ns one.0 b c one.2 two in
      ((one.0, one.1, more.0), ap (λ (zs : List S). one.1.stream ∷ zs) more.1)
  pass-both (Acts h ∷ ms) ns a b c one two =
      let more = pass-both ms ns one.0 b c one.2 two in ((one.0, one.1, more.0), more.1)
  pass-both (Leaves key now ∷ ms) ns a b c one two =
      let more = pass-both ms ns one.0 b c one.2 two in ((one.0, one.1, more.0), more.1)

  timely-both : (ms ns : List Moment) → AllByRecursion IsTimely ms → AllByRecursion IsTimely ns
      → AllByRecursion IsTimely (ms ++ ns)
  timely-both [] ns one two = two
  timely-both (m ∷ ms) ns one two = (one.0, timely-both ms ns one.1 two)

  -- moments lead from clients to clients, and clients with these streams arrive in them
  pub record Leads (a b : Serving S) (streams : List S) : Type 0 where
    pub moments : List Moment
    pub passed : Pass remaining contents moments a b
    pub timely : AllByRecursion IsTimely moments
    pub arrive : arrivals moments a b passed ≡ streams

  nothing : (a b : Serving S) → b ≡ a → Leads a b []
  unfolding arrivals
  nothing a b same = record { moments = []; passed = same; timely = tt; arrive = refl }

  leads-both : (a b c : Serving S) (xs ys : List S) → Leads a b xs → Leads b c ys
      → Leads a c (xs ++ ys)
  leads-both a b c xs ys one two =
      let both = pass-both one.moments two.moments a b c one.passed two.passed in
      record {
        moments = one.moments ++ two.moments;
        passed = both.0;
        timely = timely-both one.moments two.moments one.timely two.timely;
        arrive = both.1
            ∙ ap (λ (zs : List S). zs ++ arrivals two.moments b c two.passed) one.arrive
            ∙ ap (λ (zs : List S). xs ++ zs) two.arrive;
      }

  turn-leads : (now key : ℕ) (o : Option (Connection S)) (a b : Serving S) (turn : Option Turn)
      → slot_at a.slots key ≡ o → TurnAt remaining contents now key o a b turn → Leads a b []
  unfolding arrivals
  turn-leads now key None a b turn e t = nothing a b t.0
  turn-leads now key (Some conn) a b None e t = absurd t
  turn-leads now key (Some conn) a b (Some turn) e t =
      let h : Happening = record { session = key; clock = now; deeds = t.turned.deeds } in
      let acted : HasActed remaining contents h a b =
      record { conn = conn; there = e; turn = turn; had = t; deeds_are = refl } in
      record {
        moments = Acts h ∷ [];
        passed = (b, acted, refl);
        timely = (tt, tt);
        arrive = refl;
      }

  turns-lead : (now keys : ℕ) (a b : Serving S) (turns : List Turn)
      → Turned remaining contents now keys a b turns → Leads a b []
  turns-lead now zero a b turns t = nothing a b t.0
  turns-lead now (suc key) a b turns t =
      leads-both a t.0 b [] [] (turns-lead now key a t.0 t.1 t.3)
      (turn-leads now key (slot_at t.0.slots key) t.0 b t.2 refl t.4)

  accept-leads : (made : Bool) (a b : Serving S) (accepted : ℕ)
      (t : AcceptsIf made a b accepted) → Leads a b (entered_by made a b accepted t)
  unfolding arrivals
  accept-leads true a b zero t = nothing a b t
  accept-leads true a b (suc zero) t =
      let key = t.1.key in
      let arrives : ArrivesAt remaining contents key a b =
      record { stream = t.0; taken = t.1; key_is = refl } in
      record {
        moments = Arrives key ∷ [];
        passed = (b, arrives, refl);
        timely = (tt, tt);
        arrive = refl;
      }
  accept-leads true a b (suc (suc more)) t = absurd t
  accept-leads false a b accepted t = nothing a b t.0

  round-leads : (now : ℕ) (a b : Running S) (round : Round)
      (t : HasRound remaining contents now a b round)
      → Leads a.serving b.serving (entered_in remaining contents now a b round t)
  round-leads now a b round t =
      let streams = entered_in remaining contents now a b round t in
      subst (λ (zs : List S). Leads a.serving b.serving zs) (append-nil streams)
      (leads-both a.serving t.between b.serving streams []
      (accept-leads (accepts_now a) a.serving t.between round.accepted t.accepted)
      (turns-lead now t.turned.bound t.between b.serving t.turned.turns t.turned.turned))

  rounds-lead : (nows : List ℕ) (a b : Running S) (t : HasRounds remaining contents nows a b)
      → Leads a.serving b.serving (entered_all remaining contents nows a b t)
  rounds-lead [] a b t = nothing a.serving b.serving (ap (λ (r : Running S). r.serving) t)
  rounds-lead (now ∷ nows) a b t =
      leads-both a.serving t.0.serving b.serving
      (entered_in remaining contents now a t.0 t.1 t.2)
      (entered_all remaining contents nows t.0 b t.3) (round-leads now a t.0 t.1 t.2)
      (rounds-lead nows t.0 b t.3)

  end-leads : (now key : ℕ) → now < 2 ^ 32 → (o : Option (Connection S)) (a b : Serving S)
      → slot_at a.slots key ≡ o → EndAt now key o a b → Leads a b []
  unfolding arrivals
  end-leads now key small None a b e t = nothing a b t
  end-leads now key small (Some conn) a b e t =
      let leaves : LeavesAt remaining contents key now a b =
      record { conn = conn; there = e; ended = t } in
      record {
        moments = Leaves key now ∷ [];
        passed = (b, leaves, refl);
        timely = (small, tt);
        arrive = refl;
      }

  ends-lead : (now keys : ℕ) → now < 2 ^ 32 → (a b : Serving S) → Ended now keys a b
      → Leads a b []
  ends-lead now zero small a b t = nothing a b t
  ends-lead now (suc key) small a b t =
      leads-both a t.0 b [] [] (ends-lead now key small a t.0 t.1)
      (end-leads now key small (slot_at t.0.slots key) t.0 b refl t.2)

  -- What moments make of the guard's state.

  -- the events of moments are a run, they can happen, and nothing but the guard's state changes
  pub record HasDone (a b : Serving S) (answered : List Answered) : Type 0 where
    pub is_run : IsRun a.guard.state answered b.guard.state
    pub fine : AllByRecursion (λ event. IsEvent event.0) (events_of answered)
    pub guard_is : b.guard ≡ in_state a.guard b.guard.state

  arrival : (key : ℕ) (a b : Serving S) → ArrivesAt remaining contents key a b
      → HasDone a b (opening key ∷ [])
  arrival key a b t =
      let taken = t.taken in
      let free = rw (t.key_is) at taken.was_closed in
      let guard = rw (t.key_is) at taken.guard_is in
      let state = ap (λ (g : Guarded). g.state) guard in
      record {
        is_run = record { permitted = refl; state_is = state; replies_are = rw free refl };
        fine = (tt, tt);
        guard_is = guard ∙ ap (in_state a.guard) (sym state);
      }

  act : (h : Happening) (a b : Serving S) → HasActed remaining contents h a b
      → HasDone a b h.deeds.answered
  act h a b t =
      let turned = t.had.turned in
      let its = common t.conn.session h.clock (scene t.conn a.guard) (scene t.had.after b.guard)
      turned.deeds turned.turn in
      subst (λ (d : Deeds). HasDone a b d.answered) t.deeds_are
      (record { is_run = its.is_run; fine = its.fine; guard_is = turned.guard_is })

  leave : (key now : ℕ) (a b : Serving S) → now < 2 ^ 32 → LeavesAt remaining contents key now a b
      → HasDone a b (events_in (Leaves key now))
  leave key now a b small t =
      let state = ap (λ (g : Guarded). g.state) t.ended.guard_is in
      record {
        is_run = record {
          permitted = refl;
          state_is = state;
          replies_are = ap (λ (r : List ℕ). r ∷ []) (closing_is_silent a.guard.state key now);
        };
        fine = (small, tt);
        guard_is = t.ended.guard_is ∙ ap (in_state a.guard) (sym state);
      }

  moment-done : (m : Moment) (a b : Serving S) → IsTimely m → Passes remaining contents m a b
      → HasDone a b (events_in m)
  moment-done (Arrives key) a b timely t = arrival key a b t
  moment-done (Acts h) a b timely t = act h a b t
  moment-done (Leaves key now) a b timely t = leave key now a b timely t

  pub moments-done : (ms : List Moment) (a b : Serving S) → AllByRecursion IsTimely ms
      → Pass remaining contents ms a b → HasDone a b (history ms)
  moments-done [] a b timely t =
      rw t (record { is_run = no-run a.guard.state; fine = tt; guard_is = refl })
  moments-done (m ∷ ms) a b timely t =
      let between = t.0 in
      let one = moment-done m a between timely.0 t.1 in
      let two = moments-done ms between b timely.1 t.2 in
      record {
        is_run =
            both a.guard.state between.guard.state b.guard.state (events_in m) (history ms)
            one.is_run two.is_run;
        fine =
            rw (map-append (λ (entry : Answered). entry.event) (events_in m) (history ms))
            (fine-both (events_of (events_in m)) (events_of (history ms)) one.fine two.fine);
        guard_is = two.guard_is ∙ ap (λ (g : Guarded). in_state g b.guard.state) one.guard_is;
      }

  life-is : (a b : Serving S) (streams : List S)
      → IsGuardedState a.guard.hidden a.guard.start a.guard.state → (t : Leads a b streams)
      → IsLife a.guard.hidden a.guard.state t.moments b.guard.state
  life-is a b streams guarded t =
      let done = moments-done t.moments a b t.timely t.passed in
      let events = events_of (history t.moments) in
      record {
        run = done.is_run;
        promised =
            promised a.guard.hidden a.guard.start a.guard.state events guarded done.fine
            b.guard.state (concat (replies_of (history t.moments))) done.is_run.permitted
            done.is_run.state_is (ap concat done.is_run.replies_are);
      }

  -- from a new server, through any rounds, to the end of all sessions: the life, and the clients
  -- that arrive in it
  pub record Whole (guard after : Guarded) (streams : List S) : Type 0 where
    pub end : Serving S
    pub guard_is : after ≡ end.guard
    pub lived : HasLived S remaining contents (record { guard = guard; slots = [] }) end
    pub arrive : arrivals lived.moments (record { guard = guard; slots = [] }) end lived.passed
        ≡ streams

  pub whole-life : (guard after : Guarded) (nows : List ℕ) (last : ℕ) (running : Running S)
      → IsGuardedState guard.hidden guard.start guard.state → last < 2 ^ 32
      → (rounds : HasRounds remaining contents nows
      (new_server (record { guard = guard; slots = [] })) running)
      → IsFinished last running.serving after
      → Whole guard after (entered_all remaining contents nows
      (new_server (record { guard = guard; slots = [] })) running rounds)
  whole-life guard after nows last running guarded timely rounds finished =
      let first : Serving S = record { guard = guard; slots = [] } in
      let streams = entered_all remaining contents nows (new_server first) running rounds in
      let leads = leads-both first running.serving finished.last streams []
      (rounds-lead nows (new_server first) running rounds)
      (ends-lead last finished.bound timely running.serving finished.last finished.ended) in
      record {
        end = finished.last;
        guard_is = finished.guard_is;
        lived = record {
          moments = leads.moments;
          passed = leads.passed;
          life = life-is first finished.last (streams ++ []) guarded leads;
        };
        arrive = leads.arrive ∙ append-nil streams;
      }

pub every-life-is-promised : {S : Type 0} → EveryLifeIsPromised S
every-life-is-promised remaining contents guard after nows last running guarded small timely rounds
    finished =
    let whole = whole-life remaining contents guard after nows last running guarded timely rounds
    finished in
    (whole.end, whole.guard_is, whole.lived)
