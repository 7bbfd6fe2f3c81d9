-- The test of UTF-8.
use Rattle.std.proofs.Common.{◌≡◌, ℕ, true, false, List}
use Rattle.std.specs.Str.{IsUtf8, is_utf8}
use Rattle.std.proofs.lemmas.Bool.{false_from_ne_true}
use Rattle.std.proofs.lemmas.Str.{IsUtf8-from_is_utf8, is_utf8-from_IsUtf8}

-- what is not UTF-8 does not pass
pub no_utf8 : (bytes : List ℕ) → (IsUtf8 bytes → ⊥) → is_utf8 bytes ≡ false
no_utf8 bytes bad = false_from_ne_true _ (λ e. bad (IsUtf8-from_is_utf8 bytes e))

-- what is passes
pub some_utf8 : (bytes : List ℕ) → IsUtf8 bytes → is_utf8 bytes ≡ true
some_utf8 bytes good = is_utf8-from_IsUtf8 bytes good
