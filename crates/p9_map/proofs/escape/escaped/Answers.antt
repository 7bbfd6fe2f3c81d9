use Rattle.std.proofs.Common.{ap, ◌∙◌, subst, sym}
use Rattle.std.specs.Prelude.{encode_utf8_all}
use Rattle.std.specs.List.{All}
use Rattle.std.specs.Str.{chars}
use Rattle.std.specs.Str.Iter.{chars_rest}
use Rattle.std.specs.String.{string_bytes}
use Rattle.std.proofs.lemmas.Str.{IsUtf8-string_bytes}
use Rattle.p9_map.specs.Escape.{IsHarmless, unescaped}
use Rattle.p9_map.proofs.Entities.{escape-all, escape-end, escape-more, escaped_chars, harmless-escaped}
use Rattle.p9_map.proofs.Entities.{unescaped-escaped, utf8-more}
use Rattle.p9_map.proofs.escape.escaped.Goals as goal

pub loop-c-preserved : goal.loop-c-preserved
loop-c-preserved g c =
    let next = c.in-Some.ensures.steps.0 in (
      utf8-more (chars_rest c.loop-c.c-iterator) (chars_rest c.next.new.self) c.in-Some.c
          c.loop-c.invariant.0 next,
      escape-more (chars_rest c.loop-c.c-iterator) (chars_rest c.next.new.self)
          (string_bytes c.loop-c.out) (string_bytes c.push_escaped.new.out)
          (encode_utf8_all (escaped_chars (chars c.args.text.now))) c.in-Some.c c.loop-c.invariant.0
          next c.in_ok-push_escaped.ensures c.loop-c.invariant.1,
    )

pub returns-clause-harmless : goal.returns-clause-harmless
returns-clause-harmless g c =
    subst (All IsHarmless)
    (sym
    (escape-all (string_bytes c.loop-c.out) (chars_rest c.loop-c.c-iterator) c.args.text.now
    (IsUtf8-string_bytes c.loop-c.out) c.in-None.ensures.steps.0.0 c.loop-c.invariant.1))
    (harmless-escaped (chars c.args.text.now))

pub returns-clause-read : goal.returns-clause-read
returns-clause-read g c =
    ap unescaped
    (escape-all (string_bytes c.loop-c.out) (chars_rest c.loop-c.c-iterator) c.args.text.now
    (IsUtf8-string_bytes c.loop-c.out) c.in-None.ensures.steps.0.0 c.loop-c.invariant.1)
    ∙ unescaped-escaped (chars c.args.text.now)

pub returns-clause-written : goal.returns-clause-written
returns-clause-written g c =
    escape-end (chars_rest c.loop-c.c-iterator) (string_bytes c.loop-c.out) _
    c.in-None.ensures.steps.0.0 c.loop-c.invariant.1
