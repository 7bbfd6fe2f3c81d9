use Rattle.p9_log.proofs.Kept.{after-mark, after-sync, after-gate, after-all, at_last, always}
use Rattle.p9_log.proofs.keeping.keep.Goals as goal

pub returns-in_err-write_at-clause-any_moment : goal.returns-in_err-write_at-clause-any_moment
returns-in_err-write_at-clause-any_moment g c =
    after-mark g.D.Device.seen g.D.Device.moment g.D.Device.may_leave g.D.Device.left_since
    g.met.D.Device.alive c.args.kept c.args.end c.args.device.now c.requires.split c.requires.front
    c.write_at.new.self c.write_at.ensures.crash

pub returns-in_err-sync-clause-any_moment : goal.returns-in_err-sync-clause-any_moment
returns-in_err-sync-clause-any_moment g c =
    after-sync g.D.Device.seen g.D.Device.moment g.D.Device.may_leave g.D.Device.left_since
    g.met.D.Device.alive c.args.kept c.args.end c.args.device.now c.requires.split c.requires.front
    c.write_at.new.self c.sync.new.self c.write_at.ensures.crash c.sync.ensures.crash

pub returns-in_err-write_at-2-clause-any_moment : goal.returns-in_err-write_at-2-clause-any_moment
returns-in_err-write_at-2-clause-any_moment g c =
    after-gate g.D.Device.seen g.D.Device.moment g.D.Device.may_leave g.D.Device.left_since
    g.met.D.Device.alive c.args.kept c.args.end c.args.device.now c.requires.split c.requires.front
    c.write_at.new.self c.sync.new.self c.write_at.ensures.crash c.in_ok-write_at.ensures.written
    c.sync.ensures.crash c.in_ok-sync.ensures.durable c.sync.ensures.seen c.write_at-2.new.self
    c.write_at-2.ensures.crash

pub returns-clause-any_moment : goal.returns-clause-any_moment
returns-clause-any_moment g c =
    after-all g.D.Device.seen g.D.Device.moment g.D.Device.may_leave g.D.Device.left_since
    g.met.D.Device.alive c.args.kept c.args.end c.args.device.now c.requires.split c.requires.front
    c.write_at.new.self c.sync.new.self c.write_at.ensures.crash c.in_ok-write_at.ensures.written
    c.sync.ensures.crash c.in_ok-sync.ensures.durable c.sync.ensures.seen c.write_at-2.new.self
    c.sync-2.new.self c.write_at-2.ensures.crash c.sync-2.ensures.crash

pub returns-clause-at_rest : goal.returns-clause-at_rest
returns-clause-at_rest g c =
    let last = at_last g.D.Device.seen g.D.Device.moment g.D.Device.may_leave g.D.Device.left_since
    g.met.D.Device.alive c.args.kept c.args.end c.args.device.now c.requires.split c.requires.front
    c.write_at.new.self c.sync.new.self c.write_at.ensures.crash c.in_ok-write_at.ensures.written
    c.sync.ensures.crash c.in_ok-sync.ensures.durable c.sync.ensures.seen c.write_at-2.new.self
    c.sync-2.new.self c.in_ok-write_at-2.ensures.written c.sync-2.ensures.seen in
    always c.sync-2.result _ last.0

pub returns-clause-written : goal.returns-clause-written
returns-clause-written g c =
    let last = at_last g.D.Device.seen g.D.Device.moment g.D.Device.may_leave g.D.Device.left_since
    g.met.D.Device.alive c.args.kept c.args.end c.args.device.now c.requires.split c.requires.front
    c.write_at.new.self c.sync.new.self c.write_at.ensures.crash c.in_ok-write_at.ensures.written
    c.sync.ensures.crash c.in_ok-sync.ensures.durable c.sync.ensures.seen c.write_at-2.new.self
    c.sync-2.new.self c.in_ok-write_at-2.ensures.written c.sync-2.ensures.seen in
    always c.sync-2.result _ last.1

pub returns-clause-synced : goal.returns-clause-synced
returns-clause-synced g c =
    let last = at_last g.D.Device.seen g.D.Device.moment g.D.Device.may_leave g.D.Device.left_since
    g.met.D.Device.alive c.args.kept c.args.end c.args.device.now c.requires.split c.requires.front
    c.write_at.new.self c.sync.new.self c.write_at.ensures.crash c.in_ok-write_at.ensures.written
    c.sync.ensures.crash c.in_ok-sync.ensures.durable c.sync.ensures.seen c.write_at-2.new.self
    c.sync-2.new.self c.in_ok-write_at-2.ensures.written c.sync-2.ensures.seen in
    always c.sync-2.result _ last.2
