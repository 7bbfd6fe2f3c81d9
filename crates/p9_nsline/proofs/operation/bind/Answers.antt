use Rattle.p9_nsline.specs.Operation.{bind_form}
use Rattle.p9_nsline.proofs.Words.{flagged_form}
use Rattle.p9_nsline.proofs.operation.bind.Goals as goal

pub returns : goal.returns
returns c =
    flagged_form bind_form c.args.words.now c.flag_count-count.result c.read_flags.result _
    c.flag_count-count.ensures.count c.read_flags.ensures c.bind_form.ensures
