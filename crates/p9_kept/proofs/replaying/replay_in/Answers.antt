use Rattle.std.proofs.Common.{◌≡◌, ◌<◌, ◌∙◌, length, refl, sym, arith, rules}
use Rattle.std.proofs.lemmas.List.Elements.{All-from_get_or}
use Rattle.p9_wire.specs.Frame.{IsBytes}
use Rattle.p9_tree.specs.ForestChange.{forest_edit_of}
use Rattle.p9_kept.proofs.Edits.{read-all, read-more, read-none, stood-nil, stood-step}
use Rattle.p9_kept.proofs.replaying.replay_in.Goals as goal

pub loop-rest-preserved : goal.loop-rest-preserved
loop-rest-preserved g c =
    let shorter : length c.in-Some.after.now < length c.loop-rest.rest.now = omega arith in
    record {
      stood =
          stood-step (forest_edit_of c.in-Some.change) c.loop-rest.rest.now c.in-Some.after.now _ _
          c.in-Some.ensures shorter c.in_ok-make.ensures.made
          ∙ c.loop-rest.invariant.stood;
      read =
          read-more c.args.bytes.now c.loop-rest.rest.now c.in-Some.after.now
          (forest_edit_of c.in-Some.change) c.loop-rest.invariant.read c.in-Some.ensures;
      few = c.in_ok-make.ensures.few;
      entered = c.in_ok-make.ensures.entered;
    }

pub returns-clause-made : goal.returns-clause-made
returns-clause-made g c =
    let none : length c.loop-rest.rest.now ≡ 0 = search rules in
    sym (stood-nil c.loop-rest.rest.now _ none) ∙ c.loop-rest.invariant.stood

pub returns-clause-whole : goal.returns-clause-whole
returns-clause-whole g c =
    let none : length c.loop-rest.rest.now ≡ 0 = search rules in
    read-all c.args.bytes.now c.loop-rest.rest.now c.loop-rest.invariant.read none

pub loop-rest-init : goal.loop-rest-init
loop-rest-init g c =
    let bytes : IsBytes c.args.bytes.now =
    All-from_get_or (λ b. b < 256) c.args.bytes.now 0 (λ i lt. omega (arith, c.type_inv.bytes i)) in
    record {
      stood = refl;
      read = read-none c.args.bytes.now bytes;
      few = c.requires.few;
      entered = c.requires.entered;
    }
