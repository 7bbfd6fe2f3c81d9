use Rattle.std.proofs.Common.{ap, take}
use Rattle.p9_conn.proofs.Outcomes.{answered}
use Rattle.p9_conn.proofs.conn.Conn.answer.Goals as goal

pub returns : goal.returns
returns g c =
    let b = c.self.inside in
    rw (← c.self.view_is)
    (answered g.S.Read.remaining g.S.Write.contents c.args.clock c.args.guard.now b.stream b.session
    b.closed b.input c.skip.new.self b.output c.answer.new.self _ c.args.size c.answer.new.guard
    (rw (← c.self.view_is) at c.requires.open) (ap (take c.args.size) c.bytes.ensures)
    c.skip.ensures c.answer.ensures)
