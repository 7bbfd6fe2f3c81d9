use Rattle.std.proofs.Common.{◌∷◌, ◌∙◌}
use Rattle.p9_world.proofs.Loops.{text-all, text-more, word-more}
use Rattle.p9_world.proofs.put.put_names.Goals as goal

pub loop-name-preserved : goal.loop-name-preserved
loop-name-preserved g c =
    text-more c.args.names.now c.loop-name.name-index c.name-item.result _ (λ name. 47 ∷ name)
    c.loop-name.text.items c.extend_from_slice.new.self.items _ c.loop-name-test.true c.name-item.is
    (word-more 47 c.name-item.result c.as_bytes.result.now c.loop-name.text.items
    c.push.new.self.items _ c.in_ok-push.ensures.items c.in_ok-extend_from_slice.ensures.items
    (c.as_bytes.ensures.value ∙ c.as_str.ensures.text))
    c.loop-name.invariant

pub returns : goal.returns
returns g c =
    text-all (λ name. 47 ∷ name) c.args.names.now c.loop-name.name-index c.loop-name.text.items _
    c.loop-name-test.false c.loop-name.invariant
