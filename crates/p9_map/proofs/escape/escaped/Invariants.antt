use Rattle.std.proofs.Common.{◌≡◌, ◌++◌}
use Rattle.std.specs.Prelude.{encode_utf8_all}
use Rattle.std.specs.List.{flat_map}
use Rattle.std.specs.Str.{IsUtf8, chars}
use Rattle.std.specs.Str.Iter.{chars_rest}
use Rattle.std.specs.String.{string_bytes}
use Rattle.p9_map.specs.Escape.{escaped_char}
use Rattle.p9_map.proofs.escape.escaped.Given as goal

-- what is left is a text, and what is written goes on with its characters
abbrev pub invariant-loop-c : goal.invariant-loop-c
invariant-loop-c g l =
    IsUtf8 (chars_rest l.c-iterator)
    × (string_bytes l.out ++ encode_utf8_all (flat_map escaped_char (chars (chars_rest l.c-iterator)))
    ≡ encode_utf8_all (flat_map escaped_char (chars l.text)))
