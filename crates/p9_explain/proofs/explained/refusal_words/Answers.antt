use Rattle.std.specs.String.{string_bytes}
use Rattle.p9_explain.proofs.Parts.{refusal-told}
use Rattle.p9_explain.proofs.explained.refusal_words.Goals as goal

pub returns : goal.returns
returns g c =
    refusal-told c.args.refusal (string_bytes c.in_ok-reason.reason)
    (string_bytes c.in_ok-faults.faults) (string_bytes c.in_ok-format.field-0) c.in_ok-reason.ensures
    c.in_ok-format.ensures.ok
