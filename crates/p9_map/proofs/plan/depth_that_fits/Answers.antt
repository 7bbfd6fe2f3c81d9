use Rattle.std.proofs.Common.{◌≡◌, ◌≤◌, ◌⊎◌, count_by, inl, refl, subst, arith}
use Rattle.p9_map.specs.Plan.{boxes_max, is_within}
use Rattle.p9_map.proofs.plan.depth_that_fits.Goals as goal

pub returns : goal.returns
returns c =
    let last : c.loop-depth.depth ≡ boxes_max = omega (arith, c.loop-depth.auto.depth-end) in
    record {
      fits =
          subst (λ d. (d ≡ 1) ⊎ (count_by (is_within d) c.args.ranked.now ≤ boxes_max)) last
          c.loop-depth.invariant;
      full = inl refl;
    }
