use Rattle.p9_base.proofs.group.Groups.at.Goals as goal

pub returns-clause-only : goal.returns-clause-only
returns-clause-only g c = rw (← c.self.view_is) c.get_index.ensures.value
