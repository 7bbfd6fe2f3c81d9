use Rattle.std.proofs.Common.{List, subst, ap, ◌∙◌}
use Rattle.p9_base.specs.declared.node_ref.NodeRef.{NodeRef}
use Rattle.p9_cert.specs.Rows.{is_row}
use Rattle.p9_world.specs.World.{World}
use Rattle.p9_map.specs.Plan.{IsPlan}
use Rattle.p9_map.specs.Scene.{AreThose}
use Rattle.p9_map.proofs.picture.draw_scene.Goals as goal

pub returns : goal.returns
returns g c = (
  c.in_ok-draw_plan.ensures.0,
  record {
    hidden = c.in_ok-hidden.hidden.keys;
    hides =
        subst (λ (nodes : List NodeRef). AreThose c.in_ok-hidden.hidden.keys (is_row nodes))
        (c.as_slice.ensures.value ∙ ap (λ (w : World). w.hidden) c.world.view_is)
        c.in_ok-hidden.ensures;
    marked = c.in_ok-marked.marked.keys;
    marks = c.in_ok-marked.ensures;
    spots = c.in_ok-plan.plan.spots.items;
    left_out = c.in_ok-plan.plan.left_out;
    marked_left_out = c.in_ok-plan.plan.marked_left_out;
    plan =
        subst (λ (w : World). IsPlan w.forest c.in_ok-hidden.hidden.keys c.in_ok-marked.marked.keys
        c.in_ok-plan.plan.spots.items c.in_ok-plan.plan.left_out c.in_ok-plan.plan.marked_left_out)
        c.world.view_is c.in_ok-plan.ensures;
    drawing = c.in_ok-draw_plan.ensures.1;
  },
  c.in_ok-draw_plan.ensures.2,
)
