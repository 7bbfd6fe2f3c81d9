use Rattle.std.proofs.Common.{sym}
use Rattle.p9_walks.proofs.Places.{node_of-below}
use Rattle.p9_requests.proofs.attach.attach_to.Goals as goal

pub qid_of-requires : goal.qid_of-requires
qid_of-requires g c =
    node_of-below _ c.file-at.result c.in-Some.file.now c.well_formed-2.ensures
    (sym c.in-Some.ensures)
