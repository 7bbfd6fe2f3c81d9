use Rattle.std.proofs.Common.{◌≡◌, ◌∙◌, Bool, true, subst, sym}
use Rattle.p9_serve.proofs.Accepting.{admitted}
use Rattle.p9_serve.specs.Rounds.{Admits, accepts_now}
use Rattle.p9_serve.proofs.server.Server.accept.Goals as goal

pub returns-in-Some-clause-admitted : goal.returns-in-Some-clause-admitted
returns-in-Some-clause-admitted g c =
    let test : ◌≡◌ {A = Bool} c.accepts.result true = c.if-not-accepts.false in
    let made = sym c.accepts.ensures ∙ test in
    let coming = g.L.Listener.coming in
    subst (λ old. Admits (accepts_now c.args.self.now.running) old.running.serving c.take_in.new.self
    old.coming (coming c.accept.new.self) c.from.result) c.self.view_is
    (admitted c.in-Some.stream c.self.inside.clients c.take_in.new.self
    (coming c.self.inside.listener) (coming c.accept.new.self)
    (accepts_now c.args.self.now.running) c.take_in.result c.from.result made c.take_in.ensures
    c.from.ensures c.in-Some.ensures)
