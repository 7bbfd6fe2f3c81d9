use Rattle.std.proofs.Common.{refl}
use Rattle.p9_map.proofs.Joined.{joined-more}
use Rattle.p9_map.proofs.line.lines_of.Goals as goal

pub loop-link-preserved : goal.loop-link-preserved
loop-link-preserved g c =
    joined-more c.args.boxes.now c.args.links.now c.loop-link.link-index c.loop-link.lines.items
    c.push.new.self.items _ _ c.line_of.result c.loop-link-test.true refl c.line_of.ensures.link
    c.line_of.ensures.joined c.in_ok-push.ensures.items c.loop-link.invariant
