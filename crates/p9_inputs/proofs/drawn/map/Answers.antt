use Rattle.std.proofs.Common.{List, [], ℕ, subst, sym}
use Rattle.p9_prepared.specs.Prepared.{prepared_of}
use Rattle.p9_prepared.specs.declared.prepared.Needs.TheVariants.{Nothing}
use Rattle.p9_map.specs.Picture.{IsMapped}
use Rattle.p9_inputs.proofs.Drawings.{mapped_after}
use Rattle.p9_inputs.proofs.drawn.map.Goals as goal

pub returns-clause-ok : goal.returns-clause-ok
returns-clause-ok g c =
    let asked = prepared_of Nothing c.args.input.now in
    let status = c.in_ok-status.status in
    let printed = c.as_slice.result.now in
    let reported = c.as_slice-2.result.now in
    let first = c.new-printed.result.items in
    let second = c.new-reported.result.items in
    mapped_after status printed reported c.args.out.now.items c.add_both.new.out.items
    c.args.err.now.items c.add_both.new.err.items c.in_ok-add_both.ensures.ok asked
    (subst (λ (t : List ℕ). IsMapped asked status t printed [] reported) c.new-printed.ensures.items
    (subst (λ (t : List ℕ). IsMapped asked status first printed t reported) c.new-reported.ensures.items
    (subst (λ (t : List ℕ). IsMapped asked status first t second reported) (sym c.as_slice.ensures.value)
    (subst (λ (t : List ℕ). IsMapped asked status first c.map.new.out.items second t)
    (sym c.as_slice-2.ensures.value) c.in_ok-status.ensures))))
