use Rattle.std.proofs.Common.{◌≡◌, ◌∙◌, subst, sym}
use Rattle.p9_conn.specs.Conn.{Connection}
use Rattle.p9_conn.specs.Turn.{Ending, phase_of}
use Rattle.p9_conn.proofs.Outcomes.{broken, broken-phase, over}
use Rattle.p9_conn.proofs.conn.Conn.turn.Goals as goal

pub returns-then-self : goal.returns-then-self
returns-then-self g c =
    let b = c.self.inside in
    rw (← c.self.view_is)
    (over g.S.Read.remaining g.S.Write.contents c.args.clock c.args.guard.now b.stream b.session
    b.closed b.input b.output c.if-self.true)

pub returns-in-Broken : goal.returns-in-Broken
returns-in-Broken g c =
    let b = c.self.inside in
    let phase : phase_of c.args.self.now.link ≡ Ending =
    subst (λ (conn : Connection g.row.S.Denot). phase_of conn.link ≡ Ending) c.self.view_is
    (broken-phase b.input b.output b.closed c.if-self.false
    (sym c.is_empty.ensures ∙ c.if-not-is_empty.false) (sym c.front.ensures ∙ c.in-Broken.is)) in
    rw phase
    (broken g.S.Read.remaining g.S.Write.contents c.args.clock c.args.guard.now c.args.self.now
    c.end.new.self c.end.new.guard c.end.result c.end.ensures.ended)
