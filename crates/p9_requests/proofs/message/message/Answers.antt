use Rattle.std.proofs.lemmas.Result.{err_from_is_err_and}
use Rattle.p9_requests.proofs.message.message.Goals as goal

pub returns-in_err-remove-in-Remove-clause-answer : goal.returns-in_err-remove-in-Remove-clause-answer
returns-in_err-remove-in-Remove-clause-answer g c =
    λ sessions taken.
    let r = c.from_residual-in_err-remove-in-Remove in
    let p = err_from_is_err_and r.result r.ensures.1 in
    rw (c.in-Remove.is, p.1, p.2) c.in_err-remove-in-Remove.ensures.answer

pub returns-in_ok-remove-in-Remove-clause-answer : goal.returns-in_ok-remove-in-Remove-clause-answer
returns-in_ok-remove-in-Remove-clause-answer g c =
    λ sessions taken. rw (c.in-Remove.is) c.in_ok-remove-in-Remove.ensures.answer
