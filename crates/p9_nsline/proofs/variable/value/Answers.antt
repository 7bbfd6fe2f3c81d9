use Rattle.std.proofs.Common.{◌∙◌, None, Some}
use Rattle.p9_nsline.proofs.Words.{value_of-texts}
use Rattle.p9_nsline.proofs.variable.value.Goals as goal

pub returns-in-None : goal.returns-in-None
returns-in-None g c = value_of-texts c.args.vars.now c.args.name.now None c.in-None.ensures

pub returns-in-Some : goal.returns-in-Some
returns-in-Some g c =
    c.as_str.ensures.value
    ∙ value_of-texts c.args.vars.now c.args.name.now (Some c.in-Some.field-0.now) c.in-Some.ensures
