use Rattle.std.proofs.Common.{◌≡◌, ◌+◌, ◌++◌, ◌∙◌, ℕ, ap, arith, refl, subst, suc, sym}
use Rattle.std.specs.Prelude.{count_by}
use Rattle.p9_clients.specs.Serving.{Turned, is_closed, is_moved, turns_of}
use Rattle.p9_clients.proofs.Keyed.{counted}
use Rattle.p9_clients.proofs.clients.Clients.turns.Goals as goal

pub loop-key-preserved : goal.loop-key-preserved
loop-key-preserved g c =
    let so_far = c.loop-key.invariant in
    let first = so_far.0 in
    let more = turns_of c.turn_at.result in
    let next : c.loop-key.key + 1 ≡ suc c.loop-key.key = omega arith in (
      first ++ more,
      subst (λ (n : ℕ). Turned g.S.Read.remaining g.S.Write.contents c.args.clock n c.args.self.now
          c.turn_at.new.self (first ++ more)) (sym next)
          (c.loop-key.self, first, c.turn_at.result, so_far.1, c.turn_at.ensures, refl),
      c.with-tally.ensures.moved ∙ ap (λ (n : ℕ). n + count_by is_moved more) so_far.2
          ∙ sym (counted is_moved first more),
      c.with-tally.ensures.closed ∙ ap (λ (n : ℕ). n + count_by is_closed more) so_far.3
          ∙ sym (counted is_closed first more),
      omega (arith, c.with-tally.ensures.few_moved, so_far.4),
      omega (arith, c.with-tally.ensures.few_closed, so_far.5),
    )
