use Rattle.std.proofs.Common.{◌<◌, ◌≤◌, IfSome, arith, drop, length, subst, sym, take}
use Rattle.std.proofs.lemmas.List.Elements.{All-from_get_or}
use Rattle.p9_wire.specs.Frame.{IsBytes}
use Rattle.p9_wire.specs.Spelling.{read_header}
use Rattle.p9_step.specs.Laws.{reply_max}
use Rattle.p9_step.specs.State.{State, session_at}
use Rattle.p9_step.specs.Sound.{IsState}
use Rattle.p9_walks.specs.Held.{sessions_in}
use Rattle.p9_export.proofs.Rooms.{among-room, if-open}
use Rattle.p9_export.proofs.Sounds.{reply-short, served-among}
use Rattle.p9_step.proofs.Sounds.{each-session-served}
use Rattle.p9_export.proofs.Steps.{among-makes}
use Rattle.p9_export.proofs.export.Export.message.Goals as goal

pub answer-answered-requires-clause-sound : goal.answer-answered-requires-clause-sound
answer-answered-requires-clause-sound g c =
    each-session-served c.self.inside.setting
    c.self.inside.forest (sessions_in c.self.inside.sessions.entries) c.args.name
    c.self.invariant.served

pub answer-answered-requires-clause-room : goal.answer-answered-requires-clause-room
answer-answered-requires-clause-room g c =
    if-open (session_at c.args.name (sessions_in c.self.inside.sessions.entries)) (length c.args.reply.now)
    (rw (← c.self.view_is) at c.requires.room)

pub write_reply-requires-clause-room : goal.write_reply-requires-clause-room
write_reply-requires-clause-room g c =
    let old : State = record {
      setting = c.self.inside.setting;
      forest = c.self.inside.forest;
      sessions = sessions_in c.self.inside.sessions.entries;
    } in
    let its : IsState old = record {
      forest = c.well_formed-2.ensures;
      served = c.self.invariant.served;
    } in
    among-room old c.args.name c.args.clock c.args.frame.now (length c.answer-answered.new.reply)
    c.answer-answered.new.forest
    (sessions_in c.answer-answered.new.sessions.entries) (drop read_header c.answer-answered.new.reply)
    c.answer-answered.result its
    (All-from_get_or (λ b. b < 256) c.args.frame.now 0 (λ i lt. omega (arith, c.type_inv.frame i)))
    c.requires.whole (rw (← c.self.view_is) at c.requires.live)
    (subst (λ n. IfSome (session_at c.args.name (sessions_in c.self.inside.sessions.entries))
    (λ s. reply_max s ≤ n)) (sym c.answer-answered.ensures.len)
    (if-open (session_at c.args.name (sessions_in c.self.inside.sessions.entries)) (length c.args.reply.now)
    (rw (← c.self.view_is) at c.requires.room)))
    c.answer-answered.ensures.data c.answer-answered.ensures.answer

pub answer-answered-requires-clause-channels : goal.answer-answered-requires-clause-channels
answer-answered-requires-clause-channels g c = c.self.invariant.channels

pub invariant_of-self : goal.invariant_of-self
invariant_of-self g c =
    let live = rw (← c.self.view_is) at c.requires.live in
    record {
      served = served-among c.self.inside.setting c.self.inside.forest
          c.answer-answered.new.forest (sessions_in c.self.inside.sessions.entries)
          (sessions_in c.answer-answered.new.sessions.entries) c.args.name c.args.clock c.args.frame.now _
          c.well_formed-2.ensures c.self.invariant.served live
          (All-from_get_or (λ b. b < 256) c.args.frame.now 0 (λ i lt. omega (arith, c.type_inv.frame i)))
          c.ranges.clock.fits
          c.answer-answered.ensures.answer;
      channels = c.answer-answered.ensures.channels;
    }

pub returns-clause-state : goal.returns-clause-state
returns-clause-state g c =
    let old : State = record {
      setting = c.self.inside.setting;
      forest = c.self.inside.forest;
      sessions = sessions_in c.self.inside.sessions.entries;
    } in
    let live = rw (← c.self.view_is) at c.requires.live in
    let written = rw c.tag_of-tag.ensures at c.write_reply.ensures.bytes in
    let made =
    among-makes old c.args.name c.args.clock
    c.answer-answered.new.forest
    (sessions_in c.answer-answered.new.sessions.entries) c.args.frame.now
    (take c.write_reply.result c.write_reply.new.out) _ live c.requires.whole
    c.answer-answered.ensures.answer written in
    rw (← c.self.view_is) made.state_is

pub returns-clause-bytes : goal.returns-clause-bytes
returns-clause-bytes g c =
    let old : State = record {
      setting = c.self.inside.setting;
      forest = c.self.inside.forest;
      sessions = sessions_in c.self.inside.sessions.entries;
    } in
    let live = rw (← c.self.view_is) at c.requires.live in
    let written = rw c.tag_of-tag.ensures at c.write_reply.ensures.bytes in
    let made =
    among-makes old c.args.name c.args.clock
    c.answer-answered.new.forest
    (sessions_in c.answer-answered.new.sessions.entries) c.args.frame.now
    (take c.write_reply.result c.write_reply.new.out) _ live c.requires.whole
    c.answer-answered.ensures.answer written in
    rw (← c.self.view_is) made.bytes_are

pub returns-clause-short : goal.returns-clause-short
returns-clause-short g c =
    let old : State = record {
      setting = c.self.inside.setting;
      forest = c.self.inside.forest;
      sessions = sessions_in c.self.inside.sessions.entries;
    } in
    let its : IsState old = record {
      forest = c.well_formed-2.ensures;
      served = c.self.invariant.served;
    } in
    let live = rw (← c.self.view_is) at c.requires.live in
    let written = rw c.tag_of-tag.ensures at c.write_reply.ensures.bytes in
    let made =
    among-makes old c.args.name c.args.clock
    c.answer-answered.new.forest
    (sessions_in c.answer-answered.new.sessions.entries) c.args.frame.now
    (take c.write_reply.result c.write_reply.new.out) _ live c.requires.whole
    c.answer-answered.ensures.answer written in
    let bytes : IsBytes c.args.frame.now =
    All-from_get_or (λ b. b < 256) c.args.frame.now 0 (λ i lt. omega (arith, c.type_inv.frame i)) in
    rw (← c.self.view_is)
    (reply-short old c.args.name c.args.clock c.args.frame.now c.write_reply.result
    c.write_reply.new.out _ its bytes c.requires.whole (omega (
      arith,
      c.write_reply.ensures.within,
      c.write_reply.auto.out,
    ))
    made.bytes_are)
