use Rattle.std.proofs.Common.{◌≡◌, ◌++◌, encode_utf8_all}
use Rattle.std.specs.Char.Escape.{escape_unicode}
use Rattle.std.specs.Char.Iter.{escape_rest}
use Rattle.std.specs.String.{string_bytes}
use Rattle.p9_shown.proofs.text.push_code.Given as goal

-- what is written goes on with the characters that are left
abbrev pub invariant-loop-digit : goal.invariant-loop-digit
invariant-loop-digit g l =
    string_bytes l.out ++ encode_utf8_all (escape_rest l.digit-iterator)
    ≡ string_bytes l.initial.out ++ encode_utf8_all (escape_unicode l.fn.c)
