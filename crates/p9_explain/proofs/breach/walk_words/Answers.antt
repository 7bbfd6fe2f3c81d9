use Rattle.std.specs.String.{string_bytes}
use Rattle.p9_explain.proofs.Walks.{walk-all, walk-more}
use Rattle.p9_explain.proofs.breach.walk_words.Goals as goal

pub loop-step-preserved : goal.loop-step-preserved
loop-step-preserved g c =
    let told = c.in_ok-push_step.ensures in
    walk-more c.args.teller.now.world.now c.args.steps.now c.loop-step.step-index
    (string_bytes c.loop-step.text) c.step-item.result c.step-item.result told.0
    (string_bytes c.push_step.new.text) c.loop-step-test.true c.step-item.is told.2 told.1
    c.loop-step.invariant

pub returns : goal.returns
returns g c =
    walk-all c.args.teller.now.world.now c.args.steps.now c.loop-step.step-index
    (string_bytes c.loop-step.text) c.loop-step-test.false c.loop-step.invariant
