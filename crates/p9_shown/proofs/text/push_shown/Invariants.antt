use Rattle.std.proofs.Common.{◌≡◌, ◌++◌}
use Rattle.std.specs.Prelude.{encode_utf8_all}
use Rattle.std.specs.List.{flat_map}
use Rattle.std.specs.Str.{IsUtf8, chars}
use Rattle.std.specs.Str.Iter.{chars_rest}
use Rattle.std.specs.String.{string_bytes}
use Rattle.p9_shown.specs.Text.{shown_char, shown_text}
use Rattle.p9_shown.proofs.text.push_shown.Given as goal

-- what is left is a text, and what is written goes on with its characters
abbrev pub invariant-loop-c : goal.invariant-loop-c
invariant-loop-c g l =
    IsUtf8 (chars_rest l.c-iterator)
    × (string_bytes l.out ++ encode_utf8_all (flat_map shown_char (chars (chars_rest l.c-iterator)))
    ≡ string_bytes l.initial.out ++ shown_text l.fn.text)
