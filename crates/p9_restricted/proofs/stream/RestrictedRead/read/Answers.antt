use Rattle.std.proofs.Common.{◌≡◌, ◌<◌, ◌∙◌, ap, arith, length, refl, sym}
use Rattle.std.proofs.lemmas.Bool.{ltb-true}
use Rattle.p9_restricted.specs.Stream.{Over}
use Rattle.p9_restricted.proofs.Holdings.{gave-consumes, gave-then, given_of}
use Rattle.p9_restricted.proofs.stream.RestrictedRead.read.Goals as goal

pub returns-then-is_ready-clause-gave : goal.returns-then-is_ready-clause-gave
returns-then-is_ready-clause-gave g c =
    let r = c.self.inside in
    rw (← c.self.view_is)
    (given_of g.S.Read.remaining _
    (record { stream = r.stream; gate = r.passing; held = c.give.new.self }) c.give.new.room
    c.give.result refl refl c.give.ensures)

pub returns-then-is_ready-clause-bytes : goal.returns-then-is_ready-clause-bytes
returns-then-is_ready-clause-bytes g c =
    let r = c.self.inside in
    let some : 0 < length r.held.ready =
    ltb-true 0 (length r.held.ready) (sym c.is_ready.ensures ∙ c.if-is_ready.true) in (
      gave-consumes g.S.Read.remaining _ _ _ (returns-then-is_ready-clause-gave g c),
      λ none room. absurd (omega (arith, c.give.ensures.count_is)),
    )

pub returns-clause-gave : goal.returns-clause-gave
returns-clause-gave g c =
    let r = c.self-2.inside in
    gave-then g.S.Read.remaining _ c.decide.new.self _ _ _ c.in_ok-decide.ensures.gave
    (rw (← c.self-2.view_is)
    (given_of g.S.Read.remaining _
    (record { stream = r.stream; gate = r.passing; held = c.give-2.new.self }) c.give-2.new.room
    c.give-2.result refl refl c.give-2.ensures))

pub returns-clause-bytes : goal.returns-clause-bytes
returns-clause-bytes g c =
    let same : length c.self-2.inside.held.ready ≡ length c.decide.new.self.held.ready =
    ap (λ (all : Over _). length all.held.ready) c.self-2.view_is in (
      gave-consumes g.S.Read.remaining _ _ _ (returns-clause-gave g c),
      λ none room. absurd
          (omega (arith, c.give-2.ensures.count_is, c.in_ok-decide.ensures.ready, same)),
    )
