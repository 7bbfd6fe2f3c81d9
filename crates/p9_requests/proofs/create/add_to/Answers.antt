use Rattle.p9_requests.proofs.create.add_to.Goals as goal

pub new_qid-requires : goal.new_qid-requires
new_qid-requires g c = rw c.in_ok-at.ensures.made c.requires.number_left

pub returns-clause-qid : goal.returns-clause-qid
returns-clause-qid g c = rw c.in_ok-at.ensures.made at c.new_qid.ensures
