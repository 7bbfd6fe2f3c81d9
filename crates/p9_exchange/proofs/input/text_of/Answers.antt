use Rattle.std.proofs.Common.{◌≡◌, true, false, ℕ, List, Bor, Result, Ok, Err}
use Rattle.std.specs.Option.{IfNone, IfSome}
use Rattle.std.specs.Result.{MatchResult, result_ok}
use Rattle.std.specs.Str.{IsUtf8, is_utf8}
use Rattle.std.proofs.lemmas.Bool.{false_from_ne_true}
use Rattle.std.proofs.lemmas.Str.{IsUtf8-from_is_utf8, is_utf8-from_IsUtf8}
use Rattle.p9_exchange.proofs.input.text_of.Goals as goal

module _ (input : List ℕ) {E : Type 0} (Q : E → Type 0) where
  abbrev IsRead : Result (Bor (List ℕ)) E → Type 0
  IsRead r =
      MatchResult r (λ s. (s.now ≡ input) × IsUtf8 input) (λ e. (IsUtf8 input → ⊥) × Q e)

  some : (r : Result (Bor (List ℕ)) E) → IsRead r
      → IfSome (result_ok r) (λ text. (text.now ≡ input) × (is_utf8 input ≡ true))
  some (Ok s) cases = (cases.0, is_utf8-from_IsUtf8 _ cases.1)
  some (Err e) cases = tt

  none : (r : Result (Bor (List ℕ)) E) → IsRead r
      → IfNone (result_ok r) (is_utf8 input ≡ false)
  none (Ok s) cases = tt
  none (Err e) cases = false_from_ne_true _ (λ valid. cases.0 (IsUtf8-from_is_utf8 _ valid))

pub returns-clause-some : goal.returns-clause-some
returns-clause-some c =
    rw c.ok.ensures.value (some c.args.input.now _ c.from_utf8.result c.from_utf8.ensures.cases)

pub returns-clause-none : goal.returns-clause-none
returns-clause-none c =
    rw c.ok.ensures.value (none c.args.input.now _ c.from_utf8.result c.from_utf8.ensures.cases)
