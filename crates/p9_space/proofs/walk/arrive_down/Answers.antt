use Rattle.std.proofs.Common.{◌≡◌, ◌≤◌, Some, Ok, Err, length, sym, ap, subst, ◌∙◌}
use Rattle.std.specs.Option.{option_map}
use Rattle.std.proofs.lemmas.Result.{IfErr-weaker, IfOk-weaker}
use Rattle.p9_tree.specs.Forest.{node_of}
use Rattle.p9_table.specs.Table.{row_position}
use Rattle.p9_table.specs.Place.{file_of, file_ref}
use Rattle.p9_table.specs.Rights.{who_view}
use Rattle.p9_table.specs.Trail.{here, places_max, stepped}
use Rattle.p9_space.proofs.Arrivals.{both-ok, file_ref-alone, here-pushed, pushed-few}
use Rattle.p9_space.proofs.Arrivals.{step-alone, step-found, step-lost, step-refused}
use Rattle.p9_space.proofs.Walks.{passed_on}
use Rattle.p9_space.proofs.walk.arrive_down.Goals as goal

pub returns-in-None-clause-ok : goal.returns-in-None-clause-ok
returns-in-None-clause-ok g c =
    step-alone c.args.forest.now c.args.table.now (option_map who_view c.args.who)
    c.args.trail.now c.args.name.now c.args.members.now c.in_ok-place.field-0.place
    c.in_ok-place.field-0.node.now c.requires.members c.in_ok-place.ensures.ok
    (sym c.in-None.ensures) c.in_ok-place.ensures.node

pub returns-in-None-clause-row : goal.returns-in-None-clause-row
returns-in-None-clause-row g c =
    c.in-None.ensures
    ∙ sym (ap (λ place. row_position place c.args.table.now)
    (here-pushed c.args.trail.now c.in_ok-place.field-0.place))

pub returns-in-None-clause-at : goal.returns-in-None-clause-at
returns-in-None-clause-at g c =
    sym (ap (λ place. file_ref place c.args.table.now)
    (here-pushed c.args.trail.now c.in_ok-place.field-0.place)
    ∙ file_ref-alone c.in_ok-place.field-0.place c.args.table.now (sym c.in-None.ensures))

pub returns-in-None-clause-file : goal.returns-in-None-clause-file
returns-in-None-clause-file g c = c.in_ok-place.ensures.node

pub returns-in-None-clause-places : goal.returns-in-None-clause-places
returns-in-None-clause-places g c =
    pushed-few c.args.trail.now c.in_ok-place.field-0.place c.in_ok-place.ensures.places

pub returns-in_default-clause-ok : goal.returns-in_default-clause-ok
returns-in_default-clause-ok g c =
    let place = c.in_ok-place.field-0.place in
    let there =
    both-ok c.arrive_at.result _ _ (λ arrival. file_of place c.args.table.now c.args.forest.now
    ≡ Some arrival.file.now)
    (λ arrival at file. sym (ap (λ at. node_of at c.args.forest.now) at) ∙ file)
    c.arrive_at.ensures.at c.arrive_at.ensures.file in
    both-ok c.arrive_at.result _ _ _
    (λ arrival step there. step-found c.args.forest.now c.args.table.now
    (option_map who_view c.args.who) c.args.trail.now c.args.name.now c.args.members.now place
    arrival.file.now c.requires.members c.in_ok-place.ensures.ok there ∙ ap Ok (sym step))
    c.arrive_at.ensures.step there

pub returns-in_default-clause-err : goal.returns-in_default-clause-err
returns-in_default-clause-err g c =
    IfErr-weaker c.arrive_at.result _ _
    (λ fault lost. step-lost c.args.forest.now c.args.table.now (option_map who_view c.args.who)
    c.args.trail.now c.args.name.now c.args.members.now c.in_ok-place.field-0.place
    c.requires.members c.in_ok-place.ensures.ok lost.1 ∙ ap Err (sym lost.0))
    c.arrive_at.ensures.err

pub returns-in_default-clause-row : goal.returns-in_default-clause-row
returns-in_default-clause-row g c =
    both-ok c.arrive_at.result _ _ _
    (λ arrival step row. row ∙ c.position.ensures
    ∙ sym (ap (λ place. row_position place c.args.table.now)
    (ap (λ step. here (stepped c.args.trail.now step)) step
    ∙ here-pushed c.args.trail.now c.in_ok-place.field-0.place)))
    c.arrive_at.ensures.step c.arrive_at.ensures.row

pub returns-in_default-clause-at : goal.returns-in_default-clause-at
returns-in_default-clause-at g c =
    both-ok c.arrive_at.result _ _ _
    (λ arrival step at. at
    ∙ sym (ap (λ place. file_ref place c.args.table.now)
    (ap (λ step. here (stepped c.args.trail.now step)) step
    ∙ here-pushed c.args.trail.now c.in_ok-place.field-0.place)))
    c.arrive_at.ensures.step c.arrive_at.ensures.at

pub returns-in_default-clause-file : goal.returns-in_default-clause-file
returns-in_default-clause-file g c = c.arrive_at.ensures.file

pub returns-in_default-clause-places : goal.returns-in_default-clause-places
returns-in_default-clause-places g c =
    IfOk-weaker c.arrive_at.result _ _
    (λ arrival step. subst (λ step. length (stepped c.args.trail.now step) ≤ places_max) (sym step)
    (pushed-few c.args.trail.now c.in_ok-place.field-0.place c.in_ok-place.ensures.places))
    c.arrive_at.ensures.step

pub returns-in_err-place-clause-err : goal.returns-in_err-place-clause-err
returns-in_err-place-clause-err g c =
    passed_on c.from_residual.result _ _ c.from_residual.ensures.1
    (step-refused c.args.forest.now c.args.table.now (option_map who_view c.args.who)
    c.args.trail.now c.args.name.now c.args.members.now c.in_err-place.field-0.0
    c.requires.members c.in_err-place.ensures.err)
