use Rattle.p9_walks.proofs.Places.{node_of-below}
use Rattle.p9_walks.proofs.walk.arrive.Goals as goal

pub qid_of-requires : goal.qid_of-requires
qid_of-requires g c =
    node_of-below _ c.args.arrival.at c.args.arrival.file.now c.well_formed-2.ensures
    c.requires.file
