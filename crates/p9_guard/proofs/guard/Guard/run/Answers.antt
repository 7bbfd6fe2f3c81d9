use Rattle.std.proofs.Common.{◌≡◌, ◌∙◌, IsTrue, ap, arith, map, refl, rules, subst, sym, take}
use Rattle.std.proofs.lemmas.List.{length-map, take_all}
use Rattle.p9_guard.specs.Headline.{HasRun}
use Rattle.p9_guard.specs.Marks.{is_answered}
use Rattle.p9_export.specs.Event.{event_view}
use Rattle.p9_guard.proofs.Progress.{has-run, item-map, none-done, one-more, taken-more}
use Rattle.p9_guard.proofs.guard.Guard.run.Goals as goal

pub returns-in-Err-clause-stopped : goal.returns-in-Err-clause-stopped
returns-in-Err-clause-stopped g c = record {
  first =
      has-run c.args.self.now.hidden c.args.self.now.start c.args.self.now.state
      c.args.bytes.now.items (take c.loop-done.done (map event_view c.args.events.now))
      c.loop-done.self.state c.run_event.new.self.state c.loop-done.used c.loop-done.bytes.items
      c.run_event.new.bytes.items c.truncate.new.self.items c.well_formed-2.ensures
      c.loop-done.invariant.2 (ap (λ guard. guard.state) c.in-Err.ensures.err)
      c.in-Err.ensures.kept c.truncate.ensures.items;
  next = event_view c.index-events-done.result;
  next_is =
      item-map event_view c.args.events.now c.loop-done.done c.index-events-done.result
      c.loop-done-test.true c.index-events-done.is;
  has_reply =
      subst (λ s. IsTrue (is_answered s (event_view c.index-events-done.result)))
      (sym (ap (λ guard. guard.state) c.in-Err.ensures.err)) c.in-Err.ensures.answered;
}

pub loop-done-init : goal.loop-done-init
loop-done-init g c = (
  refl,
  refl,
  none-done c.args.self.now.state c.args.bytes.now.items c.len-used.result (search rules),
)

pub loop-done-preserved : goal.loop-done-preserved
loop-done-preserved g c = (
  c.in-Ok.ensures.hidden ∙ c.loop-done.invariant.0,
  c.in-Ok.ensures.start ∙ c.loop-done.invariant.1,
  rw (taken-more event_view c.args.events.now c.loop-done.done c.index-events-done.result
      c.loop-done-test.true c.index-events-done.is)
      (one-more c.args.self.now.state c.args.bytes.now.items c.loop-done.self.hidden
      (take c.loop-done.done (map event_view c.args.events.now))
      (event_view c.index-events-done.result) c.loop-done.self.state c.run_event.new.self.state
      c.loop-done.used c.in-Ok.size c.loop-done.bytes.items c.run_event.new.bytes.items
      c.loop-done.invariant.2 c.in-Ok.ensures.event c.in-Ok.ensures.within c.in-Ok.ensures.ok),
)

pub returns-clause-ok : goal.returns-clause-ok
returns-clause-ok g c =
    let events = map event_view c.args.events.now in
    let all : take c.loop-done.done events ≡ events =
    take_all c.loop-done.done events
    (omega (arith, length-map c.args.events.now event_view, c.loop-done-test.false)) in
    subst (λ z. HasRun c.args.self.now.hidden c.args.self.now.state z c.loop-done.self.state
    c.args.bytes.now.items c.truncate-2.new.self.items) all
    (has-run c.args.self.now.hidden c.args.self.now.start c.args.self.now.state
    c.args.bytes.now.items (take c.loop-done.done events) c.loop-done.self.state
    c.loop-done.self.state c.loop-done.used c.loop-done.bytes.items c.loop-done.bytes.items
    c.truncate-2.new.self.items c.well_formed-2.ensures c.loop-done.invariant.2 refl refl
    c.truncate-2.ensures.items)
