use Rattle.std.proofs.Common.{◌≡◌, ℕ, List, ◌∷◌, sym, ◌∙◌}
use Rattle.p9_tree.specs.Server.{Server}
use Rattle.p9_tree.specs.Forest.{IsForest}
use Rattle.p9_space.specs.Table.{MountRow}
use Rattle.p9_fids.specs.Fid.{FidRow}
use Rattle.p9_step.specs.ForestChange.{all_applied}
use Rattle.p9_step.specs.Sound.{AreWellOpen}
use Rattle.p9_step.specs.End.{on_end, on_ends}
use Rattle.p9_step.proofs.Ends.{ends-first, fits-ended}
use Rattle.p9_walks.proofs.end.end_fids.Goals as goal

-- the rest ends as all would have, once the first has
after-first : (table : List MountRow) (now : ℕ) (f f' : List Server) (fids rest : List FidRow)
    (row : FidRow) → IsForest f → AreWellOpen table f fids → fids ≡ row ∷ rest
    → f' ≡ all_applied (on_end table now f row.1) f
    → AreWellOpen table f' rest
    × (all_applied (on_ends table now f' rest) f' ≡ all_applied (on_ends table now f fids) f)
after-first table now f f' fids rest row sound fit is ended =
    rw (ended, is)
    (fits-ended table now f row rest sound (rw is at fit), sym (ends-first table now f row rest))

pub loop-fid-preserved : goal.loop-fid-preserved
loop-fid-preserved g c =
    let first =
    after-first c.args.setting.now.table c.args.clock c.loop-fid.forest c.end_fid.new.forest
    c.loop-fid.fids.fids c.take_first.new.self.fids (c.in-Some.field-0-0, c.in-Some.fid.fid)
    c.well_formed-in-Some.ensures c.loop-fid.invariant.0 c.in-Some.ensures.some c.end_fid.ensures in (
      first.0,
      first.1 ∙ c.loop-fid.invariant.1,
      c.take_first.ensures.after_fits c.args.setting.now.table c.loop-fid.invariant.2,
    )
