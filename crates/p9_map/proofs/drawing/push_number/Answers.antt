use Rattle.p9_map.specs.Box.{number_element}
use Rattle.p9_map.proofs.drawing.push_number.Goals as goal

pub returns : goal.returns
unfolding number_element
returns g c = c.in_ok-writeln.ensures.bytes
