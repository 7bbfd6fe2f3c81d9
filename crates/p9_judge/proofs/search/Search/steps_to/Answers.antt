use Rattle.std.proofs.Common.{◌≡◌, ◌<◌, ◌∙◌, ◌∷◌, [], reverse, refl, sym, ap, subst}
use Rattle.std.proofs.Common.{arith}
use Rattle.std.proofs.lemmas.List.{reverse-append}
use Rattle.p9_cert.specs.Policy.{policy_of}
use Rattle.p9_judge.specs.Search.{IsWay}
use Rattle.p9_judge.proofs.Lists.{at-within, within-at}
use Rattle.p9_judge.proofs.Verdicts.{discovered-from, discovered-nowhere}
use Rattle.p9_judge.proofs.search.Search.steps_to.Goals as goal

pub step_from-requires : goal.step_from-requires
step_from-requires g c =
    let places = c.args.self.now.places.items in
    let here =
    discovered-from places c.loop-origin.position c.in-Some.origin c.in-Some.ensures in
    (c.requires.passed c.loop-origin.position here.0 c.in-Some.origin here.1 here.2).1

pub loop-origin-smaller : goal.loop-origin-smaller
loop-origin-smaller g c =
    let places = c.args.self.now.places.items in
    let here =
    discovered-from places c.loop-origin.position c.in-Some.origin c.in-Some.ensures in
    (c.requires.passed c.loop-origin.position here.0 c.in-Some.origin here.1 here.2).0

pub loop-origin-preserved : goal.loop-origin-preserved
loop-origin-preserved g c =
    let world = c.args.world.now in
    let places = c.args.self.now.places.items in
    let here =
    discovered-from places c.loop-origin.position c.in-Some.origin c.in-Some.ensures in
    let lt : c.in-Some.origin.from < c.loop-origin.position =
    (c.requires.passed c.loop-origin.position here.0 c.in-Some.origin here.1 here.2).0 in
    let within = at-within places c.loop-origin.position here.0 here.1 in
    let steps : reverse c.push.new.self.items
    ≡ c.step_from.result ∷ reverse c.loop-origin.steps.items =
    ap reverse c.in_ok-push.ensures.items
    ∙ reverse-append c.loop-origin.steps.items (c.step_from.result ∷ []) in
    record {
      within = omega arith;
      way =
          subst (λ ss. IsWay (policy_of world) world.forest places c.in-Some.origin.from ss
          c.args.position) (sym steps) (
            c.loop-origin.position,
            here.0,
            c.in-Some.origin,
            here.1,
            here.2,
            refl,
            c.step_from.ensures,
            c.loop-origin.invariant.way,
          );
    }

pub returns : goal.returns
returns g c =
    let world = c.args.world.now in
    let places = c.args.self.now.places.items in
    let here = within-at places c.loop-origin.position c.loop-origin.invariant.within in (
      c.loop-origin.position,
      here.0,
      here.1,
      discovered-nowhere places c.loop-origin.position here.0 here.1 (sym c.in_default.is ∙ c.origin.ensures),
      subst (λ ss. IsWay (policy_of world) world.forest places c.loop-origin.position ss
          c.args.position)
          (sym c.reverse.ensures.items) c.loop-origin.invariant.way,
    )
