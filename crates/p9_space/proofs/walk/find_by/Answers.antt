use Rattle.std.proofs.Common.{sym, refl, ◌∙◌}
use Rattle.std.specs.Option.{option_map}
use Rattle.p9_table.specs.Rights.{who_view}
use Rattle.p9_space.proofs.Names.{child_among-invalid}
use Rattle.p9_space.proofs.walk.find_by.Goals as goal

pub returns-in-None-clause-child : goal.returns-in-None-clause-child
returns-in-None-clause-child g c =
    c.find_among-in-None.ensures.child
    ∙ sym (child_among-invalid c.args.forest.now
    (option_map who_view c.args.who) c.args.name.now c.well_formed-in-None.ensures
    (c.in-None.ensures.none.0 refl) c.args.members.now)
