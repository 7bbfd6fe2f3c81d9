use Rattle.std.proofs.Common.{◌≡◌, ◌∙◌, Some, ap, refl, rules, slice_set, sym}
use Rattle.std.specs.Option.{option_copied_mut}
use Rattle.p9_conn.specs.Conn.{Connection}
use Rattle.p9_conn.specs.Turn.{Scene}
use Rattle.p9_conn.specs.declared.conn.Turn.TheVariants.{Closed}
use Rattle.p9_clients.specs.Serving.{slot_at}
use Rattle.p9_clients.proofs.Keyed.{is-open, is-shut, keyed-closed, keyed-open, stays-open}
use Rattle.p9_clients.proofs.Keyed.{turn-closed, turn-left-open}
use Rattle.p9_clients.proofs.clients.Clients.turn_of.Goals as goal

pub invariant_of-self-else-eq : goal.invariant_of-self-else-eq
invariant_of-self-else-eq g c =
    let b = c.self.inside in
    let conn : Connection g.row.S.Denot = c.in_ok-conn.conn.now in
    let after : Connection g.row.S.Denot = c.turn-turn.new.self in
    let there : slot_at b.conns.slots c.args.key ≡ Some conn =
    sym c.get_mut.ensures.value ∙ ap option_copied_mut c.in_ok-conn.was in
    let its = c.turn-turn.ensures in
    let old : Scene = record { link = conn.link; state = b.guard.state } in
    let new : Scene = record { link = after.link; state = c.turn-turn.new.guard.state } in
    keyed-open b.conns.slots c.args.key conn after old new there c.self.invariant its.session_is
    (is-open its.deeds after.link.closed c.turn-turn.result its.result_is
    (λ same. let no = rw same at (sym c.eq.ensures ∙ c.if-eq.false) in absurd (cc)))
    (stays-open conn.session c.args.clock old new its.deeds its.turn)

pub invariant_of-self-then-eq : goal.invariant_of-self-then-eq
invariant_of-self-then-eq g c =
    let b = c.self.inside in
    let conn : Connection g.row.S.Denot = c.in_ok-conn.conn.now in
    let after : Connection g.row.S.Denot = c.turn-turn.new.self in
    let there : slot_at b.conns.slots c.args.key ≡ Some conn =
    sym c.get_mut.ensures.value ∙ ap option_copied_mut c.in_ok-conn.was in
    let its = c.turn-turn.ensures in
    let old : Scene = record { link = conn.link; state = b.guard.state } in
    let new : Scene = record { link = after.link; state = c.turn-turn.new.guard.state } in
    rw c.drop_at.ensures
    (keyed-closed b.conns.slots c.args.key conn after old new there c.self.invariant
    (stays-open conn.session c.args.clock old new its.deeds its.turn))

pub returns-else-eq : goal.returns-else-eq
returns-else-eq g c =
    let b = c.self.inside in
    let conn : Connection g.row.S.Denot = c.in_ok-conn.conn.now in
    let after : Connection g.row.S.Denot = c.turn-turn.new.self in
    let there : slot_at b.conns.slots c.args.key ≡ Some conn =
    sym c.get_mut.ensures.value ∙ ap option_copied_mut c.in_ok-conn.was in
    let its = c.turn-turn.ensures in
    rw (← c.self.view_is)
    (turn-left-open g.S.Read.remaining g.S.Write.contents c.args.clock c.args.key conn after
    (record { guard = b.guard; slots = b.conns.slots })
    (record {
      guard = c.turn-turn.new.guard;
      slots = slice_set b.conns.slots c.args.key (Some after);
    }) c.turn-turn.result there its
    (is-open its.deeds after.link.closed c.turn-turn.result its.result_is
    (λ same. let no = rw same at (sym c.eq.ensures ∙ c.if-eq.false) in absurd (cc))) refl)

pub returns-then-eq : goal.returns-then-eq
returns-then-eq g c =
    let b = c.self.inside in
    let conn : Connection g.row.S.Denot = c.in_ok-conn.conn.now in
    let after : Connection g.row.S.Denot = c.turn-turn.new.self in
    let there : slot_at b.conns.slots c.args.key ≡ Some conn =
    sym c.get_mut.ensures.value ∙ ap option_copied_mut c.in_ok-conn.was in
    let its = c.turn-turn.ensures in
    let closed : c.turn-turn.result ≡ Closed = search (rules, c.eq.ensures, c.if-eq.true) in
    rw (← c.self.view_is)
    (turn-closed g.S.Read.remaining g.S.Write.contents c.args.clock c.args.key conn after
    (record { guard = b.guard; slots = b.conns.slots })
    (record { guard = c.turn-turn.new.guard; slots = c.drop_at.new.values.slots })
    c.turn-turn.result there its
    (is-shut its.deeds after.link.closed c.turn-turn.result its.result_is closed)
    c.drop_at.ensures)
