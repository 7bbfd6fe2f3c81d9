use Rattle.p9_map.specs.Box.{lock_text}
use Rattle.p9_map.proofs.drawing.draw_lock.Goals as goal

pub returns : goal.returns
unfolding lock_text
returns g c = c.in_ok-writeln.ensures.bytes
