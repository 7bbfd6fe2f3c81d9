use Rattle.std.proofs.Common.{◌<◌, arith}
use Rattle.std.specs.Prelude.{encode_utf8_all, take}
use Rattle.std.specs.Str.{chars}
use Rattle.std.specs.Str.Iter.{chars_rest}
use Rattle.std.specs.String.{string_bytes}
use Rattle.p9_map.proofs.Cut.{front-end, front-more}
use Rattle.p9_map.proofs.Entities.{utf8-more}
use Rattle.p9_map.proofs.label.front_of.Goals as goal

pub loop-c-preserved : goal.loop-c-preserved
loop-c-preserved g c =
    let next = c.in-Some.ensures.steps.0 in
    let some : 0 < c.loop-c.left = omega arith in (
      utf8-more (chars_rest c.loop-c.c-iterator) (chars_rest c.next.new.self) c.in-Some.c
          c.loop-c.invariant.0 next,
      front-more (chars_rest c.loop-c.c-iterator) (chars_rest c.next.new.self)
          (string_bytes c.loop-c.front) (string_bytes c.push.new.self)
          (encode_utf8_all (take c.args.most (chars c.args.text.now))) c.loop-c.left c.in-Some.c
          c.loop-c.invariant.0 next c.in_ok-push.ensures.bytes some c.loop-c.invariant.1,
    )

pub returns : goal.returns
returns g c =
    front-end (chars_rest c.loop-c.c-iterator) (string_bytes c.loop-c.front) _ c.loop-c.left
    c.in-None.ensures.steps.0.0 c.loop-c.invariant.1
