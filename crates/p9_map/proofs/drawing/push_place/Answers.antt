use Rattle.p9_map.specs.Box.{place_text}
use Rattle.p9_map.proofs.drawing.push_place.Goals as goal

pub returns : goal.returns
unfolding place_text
returns g c = c.in_ok-write.ensures.bytes
