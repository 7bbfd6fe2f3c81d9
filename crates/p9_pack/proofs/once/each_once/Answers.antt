use Rattle.std.proofs.Common.{map, ap, refl}
use Rattle.p9_pack.specs.Once.{with_text}
use Rattle.p9_pack.proofs.Loops.{fold-more, with_text-new, with_text-old}
use Rattle.p9_pack.proofs.once.each_once.Goals as goal
use Rattle.p9_pack.proofs.once.each_once.Goals.{then-not-has_text+in_ok-push, else-not-has_text}

pub loop-text-preserved : goal.loop-text-preserved
loop-text-preserved g c =
    let found = c.loop-text.found.items in
    let after = c.if-not-has_text.found.items in
    fold-more c.args.texts.now c.loop-text.text-index _ _ with_text (λ text. text.now)
    (map (λ text. text.now) found) (map (λ text. text.now) after) _ c.loop-text-test.true refl
    (elim c.if-not-has_text.branch [
      | then-not-has_text+in_ok-push w ↦
          with_text-new found c.as_slice.result.now w.push.new.self.items after _ c.has_text.result
          c.as_slice.ensures.value c.has_text.ensures w.if-not-has_text.true
          (ap (λ texts. texts.items) w.found-is) w.in_ok-push.ensures.items
      | else-not-has_text w ↦
          with_text-old found c.as_slice.result.now after _ c.has_text.result c.as_slice.ensures.value
          c.has_text.ensures w.if-not-has_text.false (ap (λ texts. texts.items) w.found-is)
    ])
    c.loop-text.invariant
