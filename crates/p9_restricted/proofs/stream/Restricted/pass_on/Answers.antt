use Rattle.std.proofs.Common.{◌≡◌, ◌<◌, ◌∙◌, ap, arith, drop, inl, inr, length, take}
use Rattle.std.proofs.lemmas.List.{length-append, length-drop, length-take, length-take-le}
use Rattle.p9_restricted.specs.Stream.{Over}
use Rattle.p9_restricted.proofs.Holdings.{came_through, ends}
use Rattle.p9_restricted.proofs.stream.Restricted.pass_on.Goals as goal

pub returns-then-count-gt0-clause-gave : goal.returns-then-count-gt0-clause-gave
returns-then-count-gt0-clause-gave g c =
    let none = ap (λ (all : Over _). all.held) c.self.view_is ∙ c.requires in
    rw (← c.self.view_is)
    (rw c.if-passed-eq0.true at
    (came_through g.S.Read.remaining _
    (record { stream = c.receive.new.self; gate = c.pass-passed.new.self; held = c.hold.new.self })
    (take c.in_ok-count.count c.receive.new.bytes) c.pass-passed.new.bytes
    (drop c.in_ok-count.count c.receive.new.bytes) c.in_ok-count.count c.pass-passed.result none
    c.hold.ensures
    (length-take-le c.in_ok-count.count c.receive.new.bytes
    (omega (arith, c.in_ok-count.ensures.bound)))
    c.in_ok-count.ensures.read.0 c.pass-passed.ensures.passed))

pub returns-clause-gave : goal.returns-clause-gave
returns-clause-gave g c =
    let none = ap (λ (all : Over _). all.held) c.self.view_is ∙ c.requires in
    rw (← c.self.view_is)
    (came_through g.S.Read.remaining _
    (record { stream = c.receive.new.self; gate = c.pass-passed.new.self; held = c.hold.new.self })
    (take c.in_ok-count.count c.receive.new.bytes) c.pass-passed.new.bytes
    (drop c.in_ok-count.count c.receive.new.bytes) c.in_ok-count.count c.pass-passed.result none
    c.hold.ensures
    (length-take-le c.in_ok-count.count c.receive.new.bytes
    (omega (arith, c.in_ok-count.ensures.bound)))
    c.in_ok-count.ensures.read.0 c.pass-passed.ensures.passed)

pub returns-clause-end : goal.returns-clause-end
returns-clause-end g c =
    let count = c.in_ok-count.count in
    λ zero some. elim c.else-passed-eq0.either [
      | inl both ↦
          let nothing : count ≡ 0 = omega (arith, both) in
          let room : 0 < length c.receive.new.bytes =
          omega (
            arith,
            length-append c.pass-passed.new.bytes (drop count c.receive.new.bytes),
            length-drop count c.receive.new.bytes,
            c.pass-passed.ensures.passed.length_is,
            length-take count c.receive.new.bytes,
          ) in
          ends c.pass-passed.new.self c.hold.new.self _ _ _ c.hold.ensures (omega arith)
          (c.in_ok-count.ensures.read.1 nothing room)
      | inr other ↦ absurd (other zero)
    ]
