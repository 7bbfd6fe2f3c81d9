use Rattle.std.specs.Str.Iter.{chars_rest}
use Rattle.std.specs.String.{string_bytes}
use Rattle.std.proofs.lemmas.Str.{IsUtf8-past_char}
use Rattle.p9_shown.proofs.Texts.{shown-end, shown-more}
use Rattle.p9_shown.specs.Text.{shown_text}
use Rattle.std.proofs.Common.{◌++◌}
use Rattle.p9_shown.proofs.text.push_shown.Goals as goal

pub loop-c-preserved : goal.loop-c-preserved
loop-c-preserved g c =
    let next = c.in-Some.ensures.steps.0 in (
      IsUtf8-past_char (chars_rest c.loop-c.c-iterator) (chars_rest c.next.new.self) c.in-Some.c
          c.loop-c.invariant.0 next,
      shown-more (chars_rest c.loop-c.c-iterator) (chars_rest c.next.new.self)
          (string_bytes c.loop-c.out) (string_bytes c.push_char.new.out)
          (string_bytes c.args.out.now ++ shown_text c.args.text.now) c.in-Some.c c.loop-c.invariant.0
          next c.in_ok-push_char.ensures c.loop-c.invariant.1,
    )

pub returns : goal.returns
returns g c =
    shown-end (chars_rest c.loop-c.c-iterator) (string_bytes c.loop-c.out)
    (string_bytes c.args.out.now ++ shown_text c.args.text.now) c.in-None.ensures.steps.0.0
    c.loop-c.invariant.1
