use Rattle.std.proofs.Common.{◌≡◌, ◌+◌, ◌-◌, ◌<◌, ◌≤◌, Bool, length, ap, arith, subst, count_by, ◌∙◌}
use Rattle.p9_cert.specs.Rows.{is_row}
use Rattle.p9_map.specs.Plan.{AreFirst, boxes_max}
use Rattle.p9_map.specs.declared.order.Spot.{Spot}
use Rattle.p9_map.proofs.Ranks.{first-counts, first-few, first-plan}
use Rattle.p9_map.proofs.plan.plan_of.Goals as goal

pub overflow_sub-left_out : goal.overflow_sub-left_out
overflow_sub-left_out g c =
    omega (
      arith,
      ap length c.as_slice-3.ensures.value,
      ap length c.as_slice-4.ensures.value,
      ap length c.as_slice-2.ensures.value,
      first-few c.args.forest.now c.args.hidden.now.keys c.args.marked.now.keys
          c.as_slice-2.result.now c.in_ok-spots.spots.items c.in_ok-spots.ensures,
    )

pub overflow_sub-marked_left_out : goal.overflow_sub-marked_left_out
overflow_sub-marked_left_out g c =
    let p : Spot → Bool = λ s. is_row c.args.marked.now.keys s.node in
    let all = c.in_ok-all.all.items in
    let spots = c.in_ok-spots.spots.items in
    let first = subst
    (λ all. AreFirst c.args.forest.now c.args.hidden.now.keys c.args.marked.now.keys all spots)
    c.as_slice-2.ensures.value c.in_ok-spots.ensures in
    let a : c.count_marked.result ≡ count_by p all =
    c.count_marked.ensures ∙ ap (count_by p) c.as_slice-5.ensures.value in
    let b : c.count_marked-2.result ≡ count_by p spots =
    c.count_marked-2.ensures ∙ ap (count_by p) c.as_slice-6.ensures.value in
    omega (
      arith,
      a,
      b,
      first-counts c.args.forest.now c.args.hidden.now.keys c.args.marked.now.keys p all spots first,
    )

pub returns : goal.returns
returns g c =
    let p : Spot → Bool = λ s. is_row c.args.marked.now.keys s.node in
    let all = c.in_ok-all.all.items in
    let spots = c.in_ok-spots.spots.items in
    let first = subst
    (λ all. AreFirst c.args.forest.now c.args.hidden.now.keys c.args.marked.now.keys all spots)
    c.as_slice-2.ensures.value c.in_ok-spots.ensures in
    let many : boxes_max < length all = omega (arith, ap length c.as_slice.ensures.value) in
    let few : length spots ≤ length all =
    first-few c.args.forest.now c.args.hidden.now.keys c.args.marked.now.keys all spots first in
    let others : (length c.as_slice-3.result.now - length c.as_slice-4.result.now) + length spots
    ≡ length all =
    omega (
      arith,
      ap length c.as_slice-3.ensures.value,
      ap length c.as_slice-4.ensures.value,
      few,
    ) in
    let a : c.count_marked.result ≡ count_by p all =
    c.count_marked.ensures ∙ ap (count_by p) c.as_slice-5.ensures.value in
    let b : c.count_marked-2.result ≡ count_by p spots =
    c.count_marked-2.ensures ∙ ap (count_by p) c.as_slice-6.ensures.value in
    let counts =
    first-counts c.args.forest.now c.args.hidden.now.keys c.args.marked.now.keys p all spots first in
    let marked_others : (c.count_marked.result - c.count_marked-2.result) + count_by p spots
    ≡ count_by p all =
    omega (arith, a, b, counts) in
    first-plan c.args.forest.now c.args.hidden.now.keys c.args.marked.now.keys all spots _ _
    c.in_ok-all.ensures many first others marked_others
