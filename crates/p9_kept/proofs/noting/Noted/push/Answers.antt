use Rattle.std.proofs.Common.{◌≡◌, ℕ, ◌+◌, ◌≤◌, List, ◌++◌, length, take, drop, ap, ◌∙◌, arith}
use Rattle.p9_log.specs.Rest.{held}
use Rattle.p9_record.specs.Closed.{closed_spelling}
use Rattle.p9_tree.specs.ForestChange.{forest_edit_of}
use Rattle.p9_kept.proofs.Held.{filled, held-longer, held-more}
use Rattle.p9_kept.proofs.noting.Noted.push.Goals as goal

pub invariant_of-self-2 : goal.invariant_of-self-2
invariant_of-self-2 g c =
    let v = c.lengthen.new.buffer in
    let put = c.put_closed-self-inside in
    let whole : take v.len (put.new.buffer ++ drop (length put.new.buffer) v.items) ≡ put.new.buffer =
    filled v.len put.new.buffer v.items (omega (arith, put.auto.buffer, c.as_mut_slice.ensures.len)) in (
      omega (arith, c.self.invariant.0, put.ensures.bytes.ends),
      omega (
        arith,
        ap length whole,
        put.auto.buffer,
        ap length c.as_mut_slice.ensures.value,
        put.ensures.next,
        c.data_len-data.ensures,
        c.in_ok-lengthen.ensures.long,
      ),
    )

pub returns-clause-ok : goal.returns-clause-ok
returns-clause-ok g c =
    let v = c.lengthen.new.buffer in
    let put = c.put_closed-self-inside in
    let old : List ℕ = c.self.inside.buffer.items in
    let end : ℕ = c.self.inside.end in
    let spelled : List ℕ = closed_spelling (forest_edit_of c.args.change.now) in
    let from : 10 ≤ end = c.self.invariant.0 in
    let room : end + 2 ≤ length old = c.self.invariant.1 in
    let within : end ≤ length old = omega (arith, room) in
    let longer : end ≤ length c.as_mut_slice.result.now =
    omega (arith, ap length c.as_mut_slice.ensures.value, c.in_ok-lengthen.ensures.long) in
    let whole : take v.len (put.new.buffer ++ drop (length put.new.buffer) v.items) ≡ put.new.buffer =
    filled v.len put.new.buffer v.items (omega (arith, put.auto.buffer, c.as_mut_slice.ensures.len)) in
    ap (λ (b : List ℕ). held b put.result) whole
    ∙ held-more spelled c.as_mut_slice.result.now put.new.buffer end put.result from longer put.ensures.bytes
    ∙ ap (λ (b : List ℕ). b ++ spelled)
    (ap (λ (b : List ℕ). held b end) c.as_mut_slice.ensures.value
    ∙ held-longer old v.items end from within c.in_ok-lengthen.ensures.front ∙ c.self.view_is)
