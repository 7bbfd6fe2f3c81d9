use Rattle.std.proofs.Common.{◌-◌, ◌∙◌, ap, subst}
use Rattle.p9_map.specs.Plan.{IsDepth, boxes_max, chosen_at, kept_count}
use Rattle.p9_map.proofs.plan.first_spots.Goals as goal

pub returns : goal.returns
returns g c =
    let is = c.as_slice-ranked.ensures.value ∙ c.in_ok-ranked.ensures in
    let depth = c.depth_that_fits.result in
    record {
      depth = depth;
      greatest = subst (λ rs. IsDepth rs depth) is c.depth_that_fits.ensures;
      chosen =
          c.in_ok-spots.ensures ∙ ap (λ rs. chosen_at depth (boxes_max - kept_count rs) rs) is;
    }
