use Rattle.std.proofs.Common.{ap, refl, subst, ◌∙◌}
use Rattle.std.specs.Option.{option_copied}
use Rattle.p9_prepared.specs.NameSpace.{NameSpace}
use Rattle.p9_map.specs.Mark.{rows_of}
use Rattle.p9_map.specs.Picture.{IsPicture}
use Rattle.p9_map.specs.Walk.{walk_in}
use Rattle.p9_map.proofs.Pages.{no-shown, yes-shown}
use Rattle.p9_map.proofs.picture.draw_judged.Goals as goal

pub returns-in_ok-draw_scene-in-Yes : goal.returns-in_ok-draw_scene-in-Yes
returns-in_ok-draw_scene-in-Yes g c =
    let page = c.in_ok-draw_scene-in-Yes.ensures in
    subst (λ (s : NameSpace). IsPicture s (option_copied c.args.given) c.args.gap c.status.result
    c.args.out.now.items c.draw_scene.new.out.items) c.space.view_is
    (yes-shown _ (option_copied c.args.given) c.args.gap c.status.result c.args.out.now.items
    c.draw_scene.new.out.items page.0 c.in_ok-least.field-0 _ _ _ _ _ _ _ c.in-Yes.is
    c.space.invariant c.in_ok-least.ensures c.of_yes-scene.ensures.world c.of_yes-scene.ensures.table
    (ap rows_of c.of_yes-scene.ensures.reached ∙ c.drawn_certificate-reached.ensures)
    (ap walk_in c.of_yes-scene.ensures.breach) c.of_yes-scene.ensures.hops c.of-standing.ensures
    c.status.ensures page.1 page.2)

pub returns-in_ok-draw_scene-in-No : goal.returns-in_ok-draw_scene-in-No
returns-in_ok-draw_scene-in-No g c =
    let page = c.in_ok-draw_scene-in-No.ensures in
    subst (λ (s : NameSpace). IsPicture s (option_copied c.args.given) c.args.gap 1
    c.args.out.now.items c.draw_scene-in-No.new.out.items) c.space.view_is
    (no-shown _ (option_copied c.args.given) c.args.gap 1 c.args.out.now.items
    c.draw_scene-in-No.new.out.items page.0 c.in_ok-least.field-0 _ _ _ _ _ _ c.in-No.breach
    c.in-No.is c.in_ok-least.ensures c.in_ok-scene-in-No.ensures.world
    c.in_ok-scene-in-No.ensures.table (ap rows_of c.in_ok-scene-in-No.ensures.reached)
    (ap walk_in c.in_ok-scene-in-No.ensures.breach) c.in_ok-scene-in-No.ensures.hops
    c.of-standing.ensures refl page.1 page.2)
