use Rattle.std.proofs.Common.{[], ◌≡◌, IfOk, ap, ◌∙◌, subst, if◌then◌else◌}
use Rattle.std.specs.Prelude.{find}
use Rattle.std.specs.Option.{option_map_or}
use Rattle.std.specs.String.{string_bytes}
use Rattle.p9_base.specs.NodeRef.{same_node}
use Rattle.p9_map.specs.Fault.{fault_note}
use Rattle.p9_map.specs.Label.{right_note}
use Rattle.p9_map.proofs.label.walk_note.Goals as goal

pub returns-in-Some : goal.returns-in-Some
returns-in-Some g c =
    let world = c.args.world.now in
    let breach = c.args.breach.now in
    let at = c.args.at in
    let fault = if same_node breach.member at then fault_note world at breach.kind else [] in
    subst (λ t. IfOk c.right_note.result (λ note. string_bytes note ≡ t))
    (ap (λ o. option_map_or (right_note world) o fault)
    (c.in-Some.ensures ∙ ap (find (λ s. same_node s.member at)) c.as_slice.ensures.value))
    c.right_note.ensures
