use Rattle.std.proofs.Common.{arith}
use Rattle.p9_clean.proofs.Steps.{name_more, taken_back_more, behind_more, at_root_more}
use Rattle.p9_clean.proofs.Steps.{at_start_more}
use Rattle.p9_clean.proofs.path.shorten.Goals as goal
use Rattle.p9_clean.proofs.path.shorten.Goals.{then-ne+in_ok-push-in_default, else-ne+in-Some}
use Rattle.p9_clean.proofs.path.shorten.Goals.{else-ne+in-None}
use Rattle.p9_clean.proofs.path.shorten.Goals.{else-ne+in_default-2+in_ok-push-in_default-2}
use Rattle.p9_clean.proofs.path.shorten.Goals.{in_default-2-via-in-Some+else-ne-2}
use Rattle.p9_clean.proofs.path.shorten.Goals.{in_default-2-via-in-None+else-rooted}

pub loop-element-preserved : goal.loop-element-preserved
loop-element-preserved g c =
    let rooted = c.args.rooted in
    let elements = c.args.elements.now in
    let kept = c.loop-element.kept.items in
    let i = c.loop-element.element-index in
    let within = c.loop-element-test.true in
    let so_far = c.loop-element.invariant in
    let seen = c.deref.result.now in
    let same = c.deref.ensures.value in
    elim c.if-ne.branch [
      | then-ne+in_ok-push-in_default w ↦
          rw w.kept-is
          (name_more rooted elements kept i _ within c.ne.ensures so_far _ w.if-ne.true
          w.in_ok-push-in_default.ensures.items)
      | else-ne+in-Some w ↦
          rw w.kept-is
          (taken_back_more rooted elements kept i _ within c.ne.ensures so_far seen same
          w.in-Some.last.now w.in-Some.ensures.value _ _
          c.deref.ensures.len (grind arith) w.if-ne.false w.pop.ensures.rest)
      | else-ne+in-None w ↦
          rw w.kept-is
          (at_root_more rooted elements kept i _ within c.ne.ensures so_far seen same
          w.in-None.ensures.value w.if-rooted.true w.if-ne.false)
      | else-ne+in_default-2+in_ok-push-in_default-2 w ↦
          rw w.kept-is
          (elim w.in_default-2.branch [
            | in_default-2-via-in-Some+else-ne-2 v ↦
                behind_more rooted elements kept i _ within c.ne.ensures so_far seen same
                v.in-Some.last.now v.in-Some.ensures.value _
                (grind arith) w.in_ok-push-in_default-2.ensures.items
            | in_default-2-via-in-None+else-rooted v ↦
                at_start_more rooted elements kept i _ within c.ne.ensures so_far seen same
                v.in-None.ensures.value _
                v.if-rooted.false w.in_ok-push-in_default-2.ensures.items
          ])
    ]
