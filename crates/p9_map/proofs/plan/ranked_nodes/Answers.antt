use Rattle.std.proofs.Common.{◌≡◌, ◌-◌, ◌+◌, ◌<◌, length, sym, ◌∙◌, arith, subst}
use Rattle.p9_map.proofs.Ranks.{AreRanked, ranked-all, ranked-more, ranked-none}
use Rattle.p9_map.proofs.plan.ranked_nodes.Goals as goal

pub loop-done-init : goal.loop-done-init
loop-done-init g c =
    let n = length c.args.spots.now in
    subst
    (λ found. AreRanked c.args.forest.now c.args.hidden.now.keys c.args.marked.now.keys
    c.args.spots.now (n - 0) found 0 0)
    (sym c.new-ranked.ensures.items)
    (ranked-none c.args.forest.now c.args.hidden.now.keys c.args.marked.now.keys c.args.spots.now
    (n - 0) (omega arith))

pub loop-done-preserved : goal.loop-done-preserved
loop-done-preserved g c =
    let n = length c.args.spots.now in
    let done = c.loop-done.done in
    let below : done < n = c.loop-done-test.true in
    let l : n - (done + 1) < n = omega arith in
    let next : n - done ≡ (n - (done + 1)) + 1 = omega arith in
    ranked-more c.args.forest.now c.args.hidden.now.keys c.args.marked.now.keys c.args.spots.now
    (n - (done + 1)) (n - done) c.loop-done.ranked.items c.push.new.self.items
    c.loop-done.noted_depth c.loop-done.kept_depth c.depth_with-noted_depth.result
    c.depth_with-kept_depth.result c.spot_before-spot.result c.spot_before-spot.result
    c.is_noted-noted.result c.is_noted-kept.result c.rank.result l next c.spot_before-spot.ensures
    c.is_noted-noted.ensures c.is_noted-kept.ensures c.rank.ensures c.depth_with-noted_depth.ensures
    c.depth_with-kept_depth.ensures c.in_ok-push.ensures.items c.loop-done.invariant

pub returns : goal.returns
returns g c =
    let n = length c.args.spots.now in
    let first : n - c.loop-done.done ≡ 0 = omega arith in
    c.reverse.ensures.items
    ∙ ranked-all c.args.forest.now c.args.hidden.now.keys c.args.marked.now.keys c.args.spots.now
    (n - c.loop-done.done) c.loop-done.ranked.items c.loop-done.noted_depth c.loop-done.kept_depth
    first c.loop-done.invariant
