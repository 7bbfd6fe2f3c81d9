use Rattle.std.proofs.Common.{◌-◌, ◌++◌, length, take, drop, ap, ◌∙◌, subst, List, ℕ, arith}
use Rattle.std.proofs.lemmas.List.{append-nil, drop_all, length-drop, take_rest}
use Rattle.p9_restricted.specs.Masked.{Passes}
use Rattle.p9_restricted.proofs.Onward.{passes-then}
use Rattle.p9_restricted.proofs.passing.Passing.pass.Goals as goal

pub loop-at-preserved : goal.loop-at-preserved
loop-at-preserved g c =
    let at = c.loop-at.at in
    let bytes = c.loop-at.bytes in
    let part = c.pass_front-count.new.bytes in
    passes-then c.args.self.now c.loop-at.self c.pass_front-count.new.self c.args.bytes.now bytes
    part _ at c.pass_front-count.result c.loop-at.invariant
    (subst (λ (xs : List ℕ). Passes c.loop-at.self xs c.pass_front-count.new.self part
    c.pass_front-count.result) (take_rest bytes at) c.pass_front-count.ensures.passed)
    (ap (λ (xs : List ℕ). take at bytes ++ (part ++ xs))
    (drop_all (length bytes - at) (drop at bytes) (omega (arith, length-drop at bytes)))
    ∙ ap (λ (xs : List ℕ). take at bytes ++ xs) (append-nil part))
