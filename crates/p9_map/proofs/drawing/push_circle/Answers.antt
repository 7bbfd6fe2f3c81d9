use Rattle.p9_map.specs.Box.{circle_element}
use Rattle.p9_map.proofs.drawing.push_circle.Goals as goal

pub returns : goal.returns
unfolding circle_element
returns g c = c.in_ok-writeln.ensures.bytes
