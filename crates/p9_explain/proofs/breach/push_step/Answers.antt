use Rattle.std.specs.String.{string_bytes}
use Rattle.p9_explain.proofs.Walks.{step-pushed}
use Rattle.p9_explain.proofs.breach.push_step.Goals as goal

pub returns : goal.returns
returns g c =
    step-pushed c.args.teller.now.world.now c.args.step.now (string_bytes c.args.text.now)
    (string_bytes c.add.new.text) (string_bytes c.add-2.new.text) (string_bytes c.add-3.new.text)
    (string_bytes c.push.new.text) (string_bytes c.add-4.new.text) (string_bytes c.push-2.new.text)
    (string_bytes c.in_ok-passage.passage) (string_bytes c.in_ok-made.made)
    (string_bytes c.in_ok-right.right) (string_bytes c.in_ok-bound.bound) c.in_ok-made.ensures.0
    c.in_ok-bound.ensures.0 c.in_ok-passage.ensures c.in_ok-add.ensures c.in_ok-made.ensures.1
    c.in_ok-add-2.ensures c.in_ok-right.ensures c.in_ok-add-3.ensures c.in_ok-push.ensures
    c.in_ok-bound.ensures.1 c.in_ok-add-4.ensures c.in_ok-push-2.ensures
