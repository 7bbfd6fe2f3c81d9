use Rattle.std.proofs.Common.{sym}
use Rattle.p9_walks.proofs.Places.{node_of-below}
use Rattle.p9_requests.proofs.open.open.Goals as goal

pub qid_of-qid-requires : goal.qid_of-qid-requires
qid_of-qid-requires g c =
    node_of-below _ c.file-at.result c.in-Some-node.file.now c.well_formed-2.ensures
    (sym c.in-Some-node.ensures)
