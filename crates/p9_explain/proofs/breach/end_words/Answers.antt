use Rattle.std.proofs.Common.{ap, ◌∙◌}
use Rattle.std.specs.String.{string_bytes}
use Rattle.p9_explain.specs.Told.{fault_words}
use Rattle.p9_explain.proofs.Walks.{end-told}
use Rattle.p9_explain.proofs.breach.end_words.Goals as goal

pub returns : goal.returns
returns g c =
    end-told c.args.teller.now.world.now c.args.breach.now.member c.args.breach.now.kind
    (string_bytes c.in_ok-text.text) (string_bytes c.add.new.text) (string_bytes c.push.new.text)
    (string_bytes c.push-2.new.text) (string_bytes c.add-2.new.text) (string_bytes c.push-3.new.text)
    (string_bytes c.in_ok-made.made) c.fault_words.result.now (string_bytes c.in_ok-why.why)
    c.in_ok-made.ensures.0 c.in_ok-why.ensures.0 c.in_ok-text.ensures c.in_ok-made.ensures.1
    c.in_ok-add.ensures c.in_ok-push.ensures
    (c.fault_words.ensures ∙ ap fault_words c.fault_of.ensures) c.in_ok-push-2.ensures
    c.in_ok-why.ensures.1 c.in_ok-add-2.ensures c.in_ok-push-3.ensures
