-- The test of a text.
use Rattle.std.proofs.Common.{◌≡◌, ℕ, false, List}
use Rattle.std.specs.Str.{IsUtf8}
use Rattle.std.proofs.lemmas.Bool.{and_left, false_from_ne_true}
use Rattle.std.proofs.lemmas.Str.{IsUtf8-from_is_utf8}
use Rattle.p9_base.specs.Text.{is_text}

-- what is not UTF-8 is no text
pub no_text_without_utf8 : (bytes : List ℕ) → (IsUtf8 bytes → ⊥) → is_text bytes ≡ false
no_text_without_utf8 bytes bad =
    and_left _ _ (false_from_ne_true _ (λ e. bad (IsUtf8-from_is_utf8 bytes e)))
