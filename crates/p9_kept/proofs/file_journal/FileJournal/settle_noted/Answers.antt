use Rattle.p9_kept.proofs.file_journal.FileJournal.settle_noted.Goals as goal

pub returns-then-is_err-clause-any_moment : goal.returns-then-is_err-clause-any_moment
returns-then-is_err-clause-any_moment g c = c.append_to.ensures.any_moment

pub returns-clause-any_moment : goal.returns-clause-any_moment
returns-clause-any_moment g c = c.append_to.ensures.any_moment
