use Rattle.std.proofs.Common.{ap, ◌∙◌, subst, sym}
use Rattle.std.specs.List.{All}
use Rattle.p9_map.specs.Line.{IsBetween}
use Rattle.p9_map.proofs.Between.{all-push}
use Rattle.p9_map.proofs.link.entry_links.Goals as goal
use Rattle.p9_map.proofs.link.entry_links.Goals.{in-Some+in_ok-push, in_default}

pub loop-to-preserved : goal.loop-to-preserved
loop-to-preserved g c =
    elim c.match-position_of_dir.branch [
      | in-Some+in_ok-push w ↦
          all-push (IsBetween c.args.spots.now) c.loop-to.links.items
          c.match-position_of_dir.links.items _
          (ap (λ v. v.items) w.links-is ∙ w.in_ok-push.ensures.items)
          (record { from = w.in-Some.ensures; to = c.loop-to-test.true }) c.loop-to.invariant
      | in_default w ↦
          subst (All (IsBetween c.args.spots.now)) (sym (ap (λ v. v.items) w.links-is))
          c.loop-to.invariant
    ]
