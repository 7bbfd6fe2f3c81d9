use Rattle.p9_conn.proofs.Outcomes.{receiving}
use Rattle.p9_conn.proofs.conn.Conn.receive.Goals as goal

pub returns : goal.returns
returns g c =
    let b = c.self.inside in
    rw (← c.self.view_is)
    (receiving g.S.Read.remaining g.S.Write.contents c.args.clock c.args.guard.now b.stream
    c.receive-read.new.stream b.session c.after.new.self c.after.new.guard c.after.result b.closed
    (rw (← c.self.view_is) at c.requires.open) b.input c.receive-read.new.self b.output
    c.receive-read.result c.receive-read.ensures.came c.receive-read.ensures.written
    c.after.ensures)
