use Rattle.std.proofs.Common.{◌∙◌}
use Rattle.p9_world.proofs.Puts.{hex-all, hex-more}
use Rattle.p9_world.proofs.put.put_hex.Goals as goal

pub loop-rest-preserved : goal.loop-rest-preserved
loop-rest-preserved g c =
    hex-more _ c.loop-rest.rest.now c.split_at.result.0.now c.split_at.result.1.now
    c.as_bytes.result.now c.loop-rest.text.items c.extend_from_slice.new.self.items
    c.split_at.ensures.front c.split_at.ensures.back
    (c.as_bytes.ensures.value ∙ c.in_ok-encode.ensures) c.in_ok-extend_from_slice.ensures.items
    ∙ c.loop-rest.invariant

pub returns : goal.returns
returns g c =
    hex-all c.loop-rest.rest.now c.loop-rest.text.items _ c.is_empty.result c.is_empty.ensures
    c.loop-rest-test.false c.loop-rest.invariant
