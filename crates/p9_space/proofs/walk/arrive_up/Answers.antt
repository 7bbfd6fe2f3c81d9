use Rattle.std.proofs.Common.{◌≡◌, Some, Ok, Err, codes, ap, sym, ◌∙◌}
use Rattle.std.proofs.lemmas.Result.{IfErr-weaker}
use Rattle.p9_tree.specs.Forest.{node_of}
use Rattle.p9_table.specs.Table.{row_position}
use Rattle.p9_table.specs.Place.{file_of, file_ref}
use Rattle.p9_table.specs.Trail.{here, stepped}
use Rattle.p9_table.specs.declared.trail.Step.TheVariants.{Up}
use Rattle.p9_space.proofs.Arrivals.{both-ok, step-arrives, step-gone, step-refused, up-among}
use Rattle.p9_space.proofs.Arrivals.{up-refused}
use Rattle.p9_space.proofs.walk.arrive_up.Goals as goal

pub returns-in-Some-clause-err : goal.returns-in-Some-clause-err
returns-in-Some-clause-err g c =
    λ who.
    step-refused c.args.forest.now c.args.table.now who c.args.trail.now (codes "..")
    c.args.members.now c.in-Some.fault c.requires.members
    (up-refused c.args.forest.now who c.args.trail.now c.args.members.now c.in-Some.fault
    (sym c.in-Some.ensures))

pub arrive_at-requires : goal.arrive_at-requires
arrive_at-requires g c =
    c.requires.row ∙ ap (λ place. row_position place c.args.table.now) (sym c.above.ensures)

pub returns-clause-ok : goal.returns-clause-ok
returns-clause-ok g c =
    λ who.
    let there =
    both-ok c.arrive_at.result _ _ (λ arrival. file_of c.above.result c.args.table.now
    c.args.forest.now ≡ Some arrival.file.now)
    (λ arrival at file. sym (ap (λ at. node_of at c.args.forest.now) at) ∙ file)
    c.arrive_at.ensures.at c.arrive_at.ensures.file in
    both-ok c.arrive_at.result _ _ _
    (λ arrival step there. step-arrives c.args.forest.now c.args.table.now who c.args.trail.now
    (codes "..") c.args.members.now Up arrival.file.now c.requires.members
    (up-among c.args.forest.now who c.args.trail.now c.args.members.now (sym c.in_default.ensures))
    (sym (ap (λ place. file_of place c.args.table.now c.args.forest.now) c.above.ensures) ∙ there)
    ∙ ap Ok (sym step))
    c.arrive_at.ensures.step there

pub returns-clause-err : goal.returns-clause-err
returns-clause-err g c =
    λ who.
    IfErr-weaker c.arrive_at.result _ _
    (λ fault lost. step-gone c.args.forest.now c.args.table.now who c.args.trail.now (codes "..")
    c.args.members.now Up c.requires.members
    (up-among c.args.forest.now who c.args.trail.now c.args.members.now (sym c.in_default.ensures))
    (sym (ap (λ place. file_of place c.args.table.now c.args.forest.now) c.above.ensures) ∙ lost.1)
    ∙ ap Err (sym lost.0))
    c.arrive_at.ensures.err

pub returns-clause-row : goal.returns-clause-row
returns-clause-row g c =
    both-ok c.arrive_at.result _ _ _
    (λ arrival step row. row ∙ c.requires.row
    ∙ sym (ap (λ step. row_position (here (stepped c.args.trail.now step)) c.args.table.now) step))
    c.arrive_at.ensures.step c.arrive_at.ensures.row

pub returns-clause-at : goal.returns-clause-at
returns-clause-at g c =
    both-ok c.arrive_at.result _ _ _
    (λ arrival step at. at ∙ ap (λ place. file_ref place c.args.table.now) c.above.ensures
    ∙ sym (ap (λ step. file_ref (here (stepped c.args.trail.now step)) c.args.table.now) step))
    c.arrive_at.ensures.step c.arrive_at.ensures.at
