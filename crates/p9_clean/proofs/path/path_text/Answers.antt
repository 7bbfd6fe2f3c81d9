use Rattle.std.proofs.Common.{[], ◌++◌, ap, ◌∙◌, lit<, string_bytes}
use Rattle.std.specs.Prelude.{if◌then◌else◌, codes}
use Rattle.p9_clean.proofs.Steps.{path_more}
use Rattle.p9_clean.proofs.path.path_text.Goals as goal

pub loop-element-preserved : goal.loop-element-preserved
loop-element-preserved g c =
    path_more (if c.args.rooted then codes "/" else []) c.in-Some.first.now c.args.elements.now
    c.in-Some.others.now c.loop-element.element-index _ _ _ _
    c.in-Some.ensures.cases.0 c.loop-element-test.true c.loop-element.invariant
    (c.in_ok-push.ensures.bytes
    ∙ ap (λ t. string_bytes c.loop-element.text ++ t) (c.push.ensures.ascii (lit< tt)))
    c.in_ok-push_str-2.ensures.bytes
