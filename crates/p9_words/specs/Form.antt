-- What a field of a message holds.
use Rattle.std.specs.Prelude.{ℕ}
use Rattle.p9_words.specs.declared.form.Width.{Width}
use Rattle.p9_words.specs.declared.form.Width.TheVariants.{U8, U16, U32, U64}
use Rattle.p9_words.specs.declared.form.Base.{Base}
use Rattle.p9_words.specs.declared.form.Base.TheVariants.{Octal, Decimal, Hexadecimal}

-- how many bytes a number takes
abbrev pub bytes_of : Width → ℕ
bytes_of U8 = 1
bytes_of U16 = 2
bytes_of U32 = 4
bytes_of U64 = 8

-- how many digits there are
abbrev pub radix_of : Base → ℕ
radix_of Octal = 8
radix_of Decimal = 10
radix_of Hexadecimal = 16
