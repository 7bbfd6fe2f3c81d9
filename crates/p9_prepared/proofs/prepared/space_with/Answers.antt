use Rattle.p9_prepared.proofs.prepared.space_with.Goals as goal

pub returns-in-Err-clause-stop : goal.returns-in-Err-clause-stop
returns-in-Err-clause-stop g c = c.in-Err.ensures.stop c.args.space
