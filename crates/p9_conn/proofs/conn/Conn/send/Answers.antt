use Rattle.p9_conn.proofs.Outcomes.{sending}
use Rattle.p9_conn.proofs.conn.Conn.send.Goals as goal

pub returns : goal.returns
returns g c =
    let b = c.self.inside in
    rw (← c.self.view_is)
    (sending g.S.Read.remaining g.S.Write.contents c.args.clock c.args.guard.now b.stream
    c.send-written.new.stream b.session c.after.new.self c.after.new.guard c.after.result b.closed
    (rw (← c.self.view_is) at c.requires.open) b.input b.output c.send-written.new.self
    c.send-written.result c.send-written.ensures.went c.send-written.ensures.left
    c.after.ensures)
