use Rattle.std.proofs.Common.{ap, ◌∙◌, subst, sym}
use Rattle.std.specs.List.{All}
use Rattle.p9_map.specs.Line.{IsBetween}
use Rattle.p9_map.proofs.Between.{all-push}
use Rattle.p9_map.proofs.link.push_row.Goals as goal
use Rattle.p9_map.proofs.link.push_row.Goals.{in-Some-position_of+in_ok-push, in_default-position_of}

pub loop-i-preserved : goal.loop-i-preserved
loop-i-preserved g c =
    elim c.match-position_of-2.branch [
      | in-Some-position_of+in_ok-push w ↦
          all-push (IsBetween c.args.spots.now) c.loop-i.links.items
          c.match-position_of-2.links.items _
          (ap (λ v. v.items) w.links-is ∙ w.in_ok-push.ensures.items)
          (record { from = c.in-Some.ensures.within; to = w.in-Some-position_of.ensures.within })
          c.loop-i.invariant
      | in_default-position_of w ↦
          subst (All (IsBetween c.args.spots.now)) (sym (ap (λ v. v.items) w.links-is))
          c.loop-i.invariant
    ]
