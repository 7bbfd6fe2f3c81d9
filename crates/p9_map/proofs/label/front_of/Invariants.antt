use Rattle.std.proofs.Common.{◌≡◌, ◌++◌, take}
use Rattle.std.specs.Prelude.{encode_utf8_all}
use Rattle.std.specs.Str.{IsUtf8, chars}
use Rattle.std.specs.Str.Iter.{chars_rest}
use Rattle.std.specs.String.{string_bytes}
use Rattle.p9_map.proofs.label.front_of.Given as goal

-- what is left is a text, and the front goes on with its characters
abbrev pub invariant-loop-c : goal.invariant-loop-c
invariant-loop-c g l =
    IsUtf8 (chars_rest l.c-iterator)
    × (string_bytes l.front ++ encode_utf8_all (take l.left (chars (chars_rest l.c-iterator)))
    ≡ encode_utf8_all (take l.most (chars l.text)))
