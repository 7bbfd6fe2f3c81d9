use Rattle.std.proofs.Common.{◌≡◌, ap, arith, refl, ◌∙◌}
use Rattle.p9_base.specs.NodeRef.{beside}
use Rattle.p9_wire.proofs.Lengths.{length-stat_bytes}
use Rattle.p9_wire.specs.Fields.{stat_len}
use Rattle.p9_wire.specs.Stat.{stat_view}
use Rattle.p9_step.specs.Qid.{stat_of}
use Rattle.p9_walks.proofs.listing.put_stat.Goals as goal

pub returns-then-size-buffer : goal.returns-then-size-buffer
returns-then-size-buffer g c =
    let node = c.args.node.now in
    let stat = stat_of (beside c.args.dir node.number) node in
    let same : stat_view c.stat_of-stat.result ≡ stat =
    c.stat_of-stat.ensures.value
    ∙ ap (λ at. stat_of at node)
    (c.beside.ensures ∙ ap (beside c.args.dir) c.number.ensures) in
    let long = length-stat_bytes stat in
    let size = c.size.ensures ∙ ap stat_len same in
    let short = c.if-size-buffer.true in
    (omega (arith, long, size, short), refl)
