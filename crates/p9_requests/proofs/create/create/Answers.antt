use Rattle.std.proofs.Common.{refl, sym, ◌∙◌}
use Rattle.std.proofs.lemmas.Result.{err_from_is_err_and}
use Rattle.p9_space.specs.Channel.{trail_of}
use Rattle.p9_requests.specs.Answers.{create_reply}
use Rattle.p9_requests.proofs.Creates.{plan-did, refused, steps-are}
use Rattle.p9_requests.proofs.Writes.{memory_refused}
use Rattle.p9_requests.proofs.create.create.Goals as goal

pub returns-in_err-target-clause-answer : goal.returns-in_err-target-clause-answer
returns-in_err-target-clause-answer g c =
    let forest = c.args.forest.now in
    let s = c.args.session.now.session in
    let is =
    steps-are c.args.setting.now forest s c.args.clock c.args.wanted.fid c.args.wanted.name.now
    c.args.wanted.perm c.args.wanted.mode in
    let p = err_from_is_err_and c.from_residual.result c.from_residual.ensures.1 in
    refused _ _ forest s c.from_residual.result p.0 is p.1 (rw p.2 c.in_err-target.ensures.err)

pub returns-in_err-qid-clause-answer : goal.returns-in_err-qid-clause-answer
returns-in_err-qid-clause-answer g c =
    let forest = c.args.forest.now in
    let s = c.args.session.now.session in
    let is =
    steps-are c.args.setting.now forest s c.args.clock c.args.wanted.fid c.args.wanted.name.now
    c.args.wanted.perm c.args.wanted.mode in
    let refused =
    err_from_is_err_and c.from_residual-in_err-qid.result
    c.from_residual-in_err-qid.ensures.1 in
    memory_refused create_reply _ _ forest c.add_to.new.forest s s
    c.from_residual-in_err-qid.result refused.0 (sym is ∙ c.in_ok-target.ensures.ok) refused.1
    refused.2 c.in_err-qid.ensures.err refl

pub returns-clause-answer : goal.returns-clause-answer
returns-clause-answer g c =
    let forest = c.args.forest.now in
    let s = c.args.session.now.session in
    let is =
    steps-are c.args.setting.now forest s c.args.clock c.args.wanted.fid c.args.wanted.name.now
    c.args.wanted.perm c.args.wanted.mode in
    plan-did _ forest c.add_to.new.forest s
    c.enter.new.session.session c.args.wanted.fid c.in_ok-target.field-0.target
    c.in_ok-target.field-0.new (trail_of c.in_ok-target.field-0.channels)
    c.in_ok-target.field-0.opening c.in_ok-qid.qid c.iounit.result
    (sym is ∙ c.in_ok-target.ensures.ok) c.in_ok-qid.ensures.ok c.enter.ensures.entered
    c.in_ok-qid.ensures.qid c.iounit.ensures
