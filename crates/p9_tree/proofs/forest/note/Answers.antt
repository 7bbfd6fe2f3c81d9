use Rattle.p9_tree.specs.ForestChange.{forest_edit_of}
use Rattle.p9_tree.proofs.JournalLemmas.{keeps-noted, keeps-only}
use Rattle.p9_tree.proofs.forest.note.Goals as goal

pub returns-in-Some : goal.returns-in-Some
returns-in-Some g c forest was =
    keeps-only g.J.Journal.is_whole g.J.Journal.stands_for c.note.new.self _
    (keeps-noted g.J.Journal.is_whole g.J.Journal.stands_for c.in-Some.journal c.note.new.self
    (forest_edit_of c.args.change.now) forest c.note.ensures.whole c.note.ensures.noted
    (was c.in-Some.journal c.in-Some.is))
