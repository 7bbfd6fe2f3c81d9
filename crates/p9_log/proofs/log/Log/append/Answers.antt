use Rattle.std.proofs.Common.{◌≡◌, ℕ, ◌+◌, ◌-◌, ◌^◌, ◌<◌, List, length, subst, arith}
use Rattle.p9_log.specs.declared.crash.Crash.{Crash}
use Rattle.p9_log.specs.Device.{Holds, IsSameTo, IsWritten, Passes}
use Rattle.p9_log.proofs.Appended.{after-room, after-body, after-gate, is_added}
use Rattle.p9_log.proofs.Outcomes.{as_seen}
use Rattle.p9_log.proofs.Staged.{length-held, staged-is}
use Rattle.p9_log.specs.Rest.{held, IsAtRest}
use Rattle.p9_log.proofs.log.Log.append.Goals as goal

pub returns-in_err-size-clause-any_moment : goal.returns-in_err-size-clause-any_moment
returns-in_err-size-clause-any_moment g c =
    let D = g.D.Device in
    let self = c.args.self.now in
    let bytes : List ℕ = held c.args.buffer.now c.args.end in
    let rest = self.at_rest c.if-not-self.false in
    let begin = self.durable c.if-not-self.false in
    let whole = self.whole c.if-not-self.false in
    let one = c.make_room.new.device in
    let first = subst (λ (n : ℕ). (how : Crash) → Passes D.moment D.may_leave D.left_since how (IsSameTo n) self.device one) whole c.make_room.ensures.crash in
    after-room D.seen D.moment D.may_leave D.left_since g.met.D.Device.alive self.kept self.end self.device rest begin bytes one first

pub returns-in_err-write_at-clause-any_moment : goal.returns-in_err-write_at-clause-any_moment
returns-in_err-write_at-clause-any_moment g c =
    let D = g.D.Device in
    let self = c.args.self.now in
    let bytes : List ℕ = held c.args.buffer.now c.args.end in
    let rest = self.at_rest c.if-not-self.false in
    let begin = self.durable c.if-not-self.false in
    let whole = self.whole c.if-not-self.false in
    let one = c.make_room.new.device in
    let first = subst (λ (n : ℕ). (how : Crash) → Passes D.moment D.may_leave D.left_since how (IsSameTo n) self.device one) whole c.make_room.ensures.crash in
    let same = subst (λ (n : ℕ). IsSameTo n (D.seen self.device) (D.seen one)) whole c.in_ok-size.ensures.same in
    let block = staged-is c.args.buffer.now c.stage.new.buffer c.args.end c.requires.head (omega (arith, c.requires.room)) c.stage.ensures in
    let two = c.write_at.new.self in
    let second = subst (λ (b : List ℕ). (how : Crash) → Passes D.moment D.may_leave D.left_since how (IsWritten how (self.end + 2) b) one two) block c.write_at.ensures.crash in
    after-body D.seen D.moment D.may_leave D.left_since g.met.D.Device.alive self.kept self.end self.device rest begin bytes one first same two second

pub returns-in_err-write_at-2-clause-any_moment : goal.returns-in_err-write_at-2-clause-any_moment
returns-in_err-write_at-2-clause-any_moment g c =
    let D = g.D.Device in
    let self = c.args.self.now in
    let bytes : List ℕ = held c.args.buffer.now c.args.end in
    let rest = self.at_rest c.if-not-self.false in
    let begin = self.durable c.if-not-self.false in
    let whole = self.whole c.if-not-self.false in
    let one = c.make_room.new.device in
    let first = subst (λ (n : ℕ). (how : Crash) → Passes D.moment D.may_leave D.left_since how (IsSameTo n) self.device one) whole c.make_room.ensures.crash in
    let same = subst (λ (n : ℕ). IsSameTo n (D.seen self.device) (D.seen one)) whole c.in_ok-size.ensures.same in
    let block = staged-is c.args.buffer.now c.stage.new.buffer c.args.end c.requires.head (omega (arith, c.requires.room)) c.stage.ensures in
    let two = c.write_at.new.self in
    let second = subst (λ (b : List ℕ). (how : Crash) → Passes D.moment D.may_leave D.left_since how (IsWritten how (self.end + 2) b) one two) block c.write_at.ensures.crash in
    let long : length bytes ≡ c.args.end - 10 = length-held c.args.buffer.now c.args.end c.requires.head (omega (arith, c.requires.room)) in
    let small : length bytes < 2 ^ 64 = omega (arith, long) in
    let written = subst (λ (b : List ℕ). Holds (D.seen one) (self.end + 2) b (D.seen two)) block c.in_ok-write_at.ensures.written in
    let three = c.write_at-2.new.self in
    after-gate D.seen D.moment D.may_leave D.left_since g.met.D.Device.alive self.kept self.end self.device rest begin bytes one first same two second small written three c.write_at-2.ensures.crash

pub invariant_of-self-2 : goal.invariant_of-self-2
invariant_of-self-2 g c =
    let D = g.D.Device in
    let self = c.args.self.now in
    let bytes : List ℕ = held c.args.buffer.now c.args.end in
    let rest = self.at_rest c.if-not-self.false in
    let begin = self.durable c.if-not-self.false in
    let whole = self.whole c.if-not-self.false in
    let one = c.make_room.new.device in
    let first = subst (λ (n : ℕ). (how : Crash) → Passes D.moment D.may_leave D.left_since how (IsSameTo n) self.device one) whole c.make_room.ensures.crash in
    let same = subst (λ (n : ℕ). IsSameTo n (D.seen self.device) (D.seen one)) whole c.in_ok-size.ensures.same in
    let block = staged-is c.args.buffer.now c.stage.new.buffer c.args.end c.requires.head (omega (arith, c.requires.room)) c.stage.ensures in
    let two = c.write_at.new.self in
    let second = subst (λ (b : List ℕ). (how : Crash) → Passes D.moment D.may_leave D.left_since how (IsWritten how (self.end + 2) b) one two) block c.write_at.ensures.crash in
    let long : length bytes ≡ c.args.end - 10 = length-held c.args.buffer.now c.args.end c.requires.head (omega (arith, c.requires.room)) in
    let small : length bytes < 2 ^ 64 = omega (arith, long) in
    let written = subst (λ (b : List ℕ). Holds (D.seen one) (self.end + 2) b (D.seen two)) block c.in_ok-write_at.ensures.written in
    let three = c.write_at-2.new.self in
    let added = is_added D.seen D.moment D.may_leave D.left_since g.met.D.Device.alive self.kept self.end self.device rest begin bytes one first same two second
    small written three c.write_at-2.ensures.crash c.in_ok-write_at-2.ensures.written in
    let ten : 10 + length bytes ≡ c.args.end = omega (arith, long) in
    record {
      at_rest = λ _. subst (λ n. IsAtRest (D.seen three) self.kept (self.end + n)) ten added.rest;
      whole = λ _. omega (arith, added.size, ten, c.in_ok-size.ensures.len, c.max-self.ensures);
      durable = λ _. added.front;
      synced = λ _ e. absurd cc;
      near = λ _. omega arith;
      in_use = λ e. absurd cc;
      draft = λ e. absurd cc;
    }

pub returns-clause-written : goal.returns-clause-written
returns-clause-written g c =
    let D = g.D.Device in
    let self = c.args.self.now in
    let bytes : List ℕ = held c.args.buffer.now c.args.end in
    let rest = self.at_rest c.if-not-self.false in
    let begin = self.durable c.if-not-self.false in
    let whole = self.whole c.if-not-self.false in
    let one = c.make_room.new.device in
    let first = subst (λ (n : ℕ). (how : Crash) → Passes D.moment D.may_leave D.left_since how (IsSameTo n) self.device one) whole c.make_room.ensures.crash in
    let same = subst (λ (n : ℕ). IsSameTo n (D.seen self.device) (D.seen one)) whole c.in_ok-size.ensures.same in
    let block = staged-is c.args.buffer.now c.stage.new.buffer c.args.end c.requires.head (omega (arith, c.requires.room)) c.stage.ensures in
    let two = c.write_at.new.self in
    let second = subst (λ (b : List ℕ). (how : Crash) → Passes D.moment D.may_leave D.left_since how (IsWritten how (self.end + 2) b) one two) block c.write_at.ensures.crash in
    let long : length bytes ≡ c.args.end - 10 = length-held c.args.buffer.now c.args.end c.requires.head (omega (arith, c.requires.room)) in
    let small : length bytes < 2 ^ 64 = omega (arith, long) in
    let written = subst (λ (b : List ℕ). Holds (D.seen one) (self.end + 2) b (D.seen two)) block c.in_ok-write_at.ensures.written in
    let three = c.write_at-2.new.self in
    let added = is_added D.seen D.moment D.may_leave D.left_since g.met.D.Device.alive self.kept self.end self.device rest begin bytes one first same two second
    small written three c.write_at-2.ensures.crash c.in_ok-write_at-2.ensures.written in
    added.killed

pub returns-clause-synced : goal.returns-clause-synced
returns-clause-synced g c =
    let D = g.D.Device in
    let self = c.args.self.now in
    let bytes : List ℕ = held c.args.buffer.now c.args.end in
    let rest = self.at_rest c.if-not-self.false in
    let begin = self.durable c.if-not-self.false in
    let whole = self.whole c.if-not-self.false in
    let one = c.make_room.new.device in
    let first = subst (λ (n : ℕ). (how : Crash) → Passes D.moment D.may_leave D.left_since how (IsSameTo n) self.device one) whole c.make_room.ensures.crash in
    let same = subst (λ (n : ℕ). IsSameTo n (D.seen self.device) (D.seen one)) whole c.in_ok-size.ensures.same in
    let block = staged-is c.args.buffer.now c.stage.new.buffer c.args.end c.requires.head (omega (arith, c.requires.room)) c.stage.ensures in
    let two = c.write_at.new.self in
    let second = subst (λ (b : List ℕ). (how : Crash) → Passes D.moment D.may_leave D.left_since how (IsWritten how (self.end + 2) b) one two) block c.write_at.ensures.crash in
    let long : length bytes ≡ c.args.end - 10 = length-held c.args.buffer.now c.args.end c.requires.head (omega (arith, c.requires.room)) in
    let small : length bytes < 2 ^ 64 = omega (arith, long) in
    let written = subst (λ (b : List ℕ). Holds (D.seen one) (self.end + 2) b (D.seen two)) block c.in_ok-write_at.ensures.written in
    let three = c.write_at-2.new.self in
    let added = is_added D.seen D.moment D.may_leave D.left_since g.met.D.Device.alive self.kept self.end self.device rest begin bytes one first same two second
    small written three c.write_at-2.ensures.crash c.in_ok-write_at-2.ensures.written in
    added.stopped

pub returns-clause-outcomes : goal.returns-clause-outcomes
returns-clause-outcomes g c =
    let D = g.D.Device in
    let self = c.args.self.now in
    let bytes : List ℕ = held c.args.buffer.now c.args.end in
    let rest = self.at_rest c.if-not-self.false in
    let begin = self.durable c.if-not-self.false in
    let whole = self.whole c.if-not-self.false in
    let one = c.make_room.new.device in
    let first = subst (λ (n : ℕ). (how : Crash) → Passes D.moment D.may_leave D.left_since how (IsSameTo n) self.device one) whole c.make_room.ensures.crash in
    let same = subst (λ (n : ℕ). IsSameTo n (D.seen self.device) (D.seen one)) whole c.in_ok-size.ensures.same in
    let block = staged-is c.args.buffer.now c.stage.new.buffer c.args.end c.requires.head (omega (arith, c.requires.room)) c.stage.ensures in
    let two = c.write_at.new.self in
    let second = subst (λ (b : List ℕ). (how : Crash) → Passes D.moment D.may_leave D.left_since how (IsWritten how (self.end + 2) b) one two) block c.write_at.ensures.crash in
    let long : length bytes ≡ c.args.end - 10 = length-held c.args.buffer.now c.args.end c.requires.head (omega (arith, c.requires.room)) in
    let small : length bytes < 2 ^ 64 = omega (arith, long) in
    let written = subst (λ (b : List ℕ). Holds (D.seen one) (self.end + 2) b (D.seen two)) block c.in_ok-write_at.ensures.written in
    let three = c.write_at-2.new.self in
    let added = is_added D.seen D.moment D.may_leave D.left_since g.met.D.Device.alive self.kept self.end self.device rest begin bytes one first same two second
    small written three c.write_at-2.ensures.crash c.in_ok-write_at-2.ensures.written in
    as_seen (D.seen three) self.kept (self.end + (10 + length bytes)) (D.may_leave three) added.rest added.front (g.met.D.Device.alive three)

pub returns-clause-any_moment : goal.returns-clause-any_moment
returns-clause-any_moment g c =
    let D = g.D.Device in
    let self = c.args.self.now in
    let bytes : List ℕ = held c.args.buffer.now c.args.end in
    let rest = self.at_rest c.if-not-self.false in
    let begin = self.durable c.if-not-self.false in
    let whole = self.whole c.if-not-self.false in
    let one = c.make_room.new.device in
    let first = subst (λ (n : ℕ). (how : Crash) → Passes D.moment D.may_leave D.left_since how (IsSameTo n) self.device one) whole c.make_room.ensures.crash in
    let same = subst (λ (n : ℕ). IsSameTo n (D.seen self.device) (D.seen one)) whole c.in_ok-size.ensures.same in
    let block = staged-is c.args.buffer.now c.stage.new.buffer c.args.end c.requires.head (omega (arith, c.requires.room)) c.stage.ensures in
    let two = c.write_at.new.self in
    let second = subst (λ (b : List ℕ). (how : Crash) → Passes D.moment D.may_leave D.left_since how (IsWritten how (self.end + 2) b) one two) block c.write_at.ensures.crash in
    let long : length bytes ≡ c.args.end - 10 = length-held c.args.buffer.now c.args.end c.requires.head (omega (arith, c.requires.room)) in
    let small : length bytes < 2 ^ 64 = omega (arith, long) in
    let written = subst (λ (b : List ℕ). Holds (D.seen one) (self.end + 2) b (D.seen two)) block c.in_ok-write_at.ensures.written in
    let three = c.write_at-2.new.self in
    after-gate D.seen D.moment D.may_leave D.left_since g.met.D.Device.alive self.kept self.end self.device rest begin bytes one first same two second small written three c.write_at-2.ensures.crash
