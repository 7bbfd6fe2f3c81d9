use Rattle.std.proofs.Common.{◌≤◌, ◌∙◌, List, ℕ, ap, arith, drop, length, subst, sym}
use Rattle.p9_conn.proofs.Buffers.{part, part-length, part-shorter}
use Rattle.p9_conn.proofs.window.Window.skip.Goals as goal

pub returns : goal.returns
returns g c =
    let b = c.self.inside in
    let held : c.args.count ≤ length (part b.start b.end b.bytes.items) =
    subst (λ (zs : List ℕ). c.args.count ≤ length zs) (sym c.self.view_is) c.requires in
    let long = part-length b.bytes.items b.start b.end c.self.invariant.0
    (omega (arith, c.self.invariant.1, b.bytes.ok.0)) in
    part-shorter b.bytes.items b.start b.end c.args.count
    (omega (arith, held, long, c.self.invariant.0))
    ∙ ap (drop c.args.count) c.self.view_is
