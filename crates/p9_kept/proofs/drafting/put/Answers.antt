use Rattle.p9_tree.specs.ForestChange.{forest_edit_of}
use Rattle.p9_kept.proofs.Making.{makes-more}
use Rattle.p9_kept.proofs.drafting.put.Goals as goal

pub returns-in_ok-flush-clause-made : goal.returns-in_ok-flush-clause-made
returns-in_ok-flush-clause-made g c = λ forest made.
    c.in_ok-flush.ensures.made _
    (makes-more (g.D.Device.drafted c.args.log.now.device) c.args.noted.now
    c.push.new.self (forest_edit_of c.args.change.now) forest c.in-Ok.ensures.ok c.in-Ok.ensures.fits made)

pub returns-else-len-ge-FLUSHED-clause-made : goal.returns-else-len-ge-FLUSHED-clause-made
returns-else-len-ge-FLUSHED-clause-made g c = λ forest made.
    makes-more (g.D.Device.drafted c.args.log.now.device) c.args.noted.now
    c.push.new.self (forest_edit_of c.args.change.now) forest c.in-Ok.ensures.ok c.in-Ok.ensures.fits made
