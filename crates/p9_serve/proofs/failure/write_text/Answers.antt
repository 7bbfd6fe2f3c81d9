use Rattle.std.proofs.Common.{◌≡◌, ◌≤◌, ◌-◌, ℕ, List, arith, drop, length, length-drop}
use Rattle.std.proofs.Common.{subst, sym, take, take_all}
use Rattle.std.proofs.KnownBytes.{Appends-trans}
use Rattle.std.proofs.Math.Seq.{take-add}
use Rattle.std.specs.Io.KnownBytes.{Appends}
use Rattle.p9_serve.proofs.failure.write_text.Goals as goal

pub loop-preserved : goal.loop-preserved
loop-preserved g c =
    let n = c.loop.count in
    let more = c.in_ok-count.field-0 in
    let text = c.args.text.now in
    let rest : take (length text - n) (drop n text) ≡ drop n text =
    take_all (length text - n) (drop n text) (omega (arith, length-drop n text)) in
    let long : length (drop n text) ≡ length text - n = length-drop n text in
    let within : more ≤ length (drop n text) = rw rest at c.in_ok-count.ensures.within in
    let front = take n text in (
      omega (arith, within, long, c.loop.invariant.0),
      subst (λ (zs : List ℕ). Appends (g.W.Write.contents c.args.out.now)
          (g.W.Write.contents c.write_on.new.out) zs) (sym (take-add n more text))
          (Appends-trans (g.W.Write.contents c.args.out.now) (g.W.Write.contents c.loop.out)
          (g.W.Write.contents c.write_on.new.out) front (take more (drop n text))
          c.loop.invariant.1 (rw rest at c.in_ok-count.ensures.written)),
    )
