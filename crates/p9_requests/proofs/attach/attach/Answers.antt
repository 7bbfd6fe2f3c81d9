use Rattle.p9_walks.specs.Answers.{replied}
use Rattle.p9_wire.specs.Message.{Rattach}
use Rattle.std.specs.Prelude.{is_some}
use Rattle.p9_walks.proofs.Beyond.{attach-or}
use Rattle.p9_requests.proofs.attach.attach.Goals as goal

pub returns-clause-answer : goal.returns-clause-answer
returns-clause-answer g c =
    let before = c.reserve_attach-names.ensures.before in
    attach-or c.args.forest.now c.args.forest.now c.args.session.now.session
    c.attach_reserved.new.session.session (replied Rattach c.attach_reserved.result)
    (is_some c.reserve_attach-names.result) c.args.setting.now c.args.fid c.args.afid
    c.args.uname.now c.args.aname.now (rw before at c.attach_reserved.ensures.answer)
