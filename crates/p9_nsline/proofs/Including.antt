-- Steps of including a file.
use Rattle.std.proofs.Common.{◌≡◌, ℕ, Bool, true, false, List, Some, Result, Ok, Err, refl, sym, ap}
use Rattle.std.proofs.Common.{subst, ◌∙◌}
use Rattle.std.specs.Prelude.{if◌then◌else◌}
use Rattle.std.specs.Result.{IsErrAnd}
use Rattle.std.specs.Str.{IsUtf8, is_utf8}
use Rattle.std.proofs.lemmas.Str.{IsUtf8-from_is_utf8, is_utf8-from_IsUtf8}
use Rattle.p9_base.specs.declared.stop.Stop.{Stop}
use Rattle.p9_base.specs.declared.stop.Stop.TheVariants as stops
use Rattle.p9_base.specs.Results.{and_then}
use Rattle.p9_tree.specs.Node.{Node, is_dir}
use Rattle.p9_nsline.specs.declared.fault.OpFault.{OpFault}
use Rattle.p9_nsline.specs.declared.fault.OpFault.TheVariants.{BadInclude}
use Rattle.p9_nsline.specs.Answer.{Acts, GivesLines}
use Rattle.p9_nsline.specs.Include.{file_lines, or_bad_include}
use Rattle.p9_nsline.specs.Line.{NumberedLine, lines_in}
use Rattle.p9_nsline.specs.Space.{Space}

module _ (n : Node) (directory : Bool) (bytes : List ℕ) (asked : directory ≡ is_dir n)
    (file : directory ≡ false) (read : bytes ≡ n.bytes) where
  -- a file that isn't a directory, by whether it is text
  file_lines-by : (utf8 : Bool) → is_utf8 n.bytes ≡ utf8
      → file_lines (Some n) ≡ (if utf8 then or_bad_include (lines_in n.bytes) else Err BadInclude)
  file_lines-by utf8 e =
      ap (λ b. if b then Err BadInclude
      else (if is_utf8 n.bytes then or_bad_include (lines_in n.bytes) else Err BadInclude))
      (sym asked ∙ file)
      ∙ ap (λ b. if b then or_bad_include (lines_in n.bytes) else Err BadInclude) e

  -- a file of text has the lines of its text
  pub file_lines-text : (text : List ℕ) → text ≡ bytes → IsUtf8 bytes
      → or_bad_include (lines_in text) ≡ file_lines (Some n)
  file_lines-text text same utf8 =
      ap (λ t. or_bad_include (lines_in t)) (same ∙ read)
      ∙ sym (file_lines-by true (is_utf8-from_IsUtf8 n.bytes (subst IsUtf8 read utf8)))

  -- any other can't be included
  pub file_lines-bad : (IsUtf8 bytes → ⊥) → file_lines (Some n) ≡ Err BadInclude
  file_lines-bad none = by_test (is_utf8 n.bytes) refl where
    by_test : (b : Bool) → is_utf8 n.bytes ≡ b → file_lines (Some n) ≡ Err BadInclude
    by_test true e = absurd (none (subst IsUtf8 (sym read) (IsUtf8-from_is_utf8 n.bytes e)))
    by_test false e = file_lines-by false e

-- a file whose lines aren't found: its fault, or a failed allocation
pub Acts-no_lines : (A : Type 0) {U : Type 0} (answer : Result (List NumberedLine) OpFault)
    (next : List NumberedLine → Result Space OpFault) (space : Space) (stop : Stop OpFault)
    (r : Result U (Stop OpFault)) →
    IsErrAnd r (λ e. e ≡ stop) → GivesLines {A = A} answer (Err stop)
    → Acts (and_then answer next) space space r
Acts-no_lines A answer next space stop (Ok u) is gives = absurd is
Acts-no_lines A {U} answer next space stop (Err e) is gives =
    subst (λ s. Acts {U = U} (and_then answer next) space space (Err s)) (sym is)
    (by_stop stop gives) where
      by_stop : (s : Stop OpFault) → GivesLines {A = A} answer (Err s)
          → Acts {U = U} (and_then answer next) space space (Err s)
      by_stop (stops.Refused fault) gives = (ap (λ a. and_then a next) gives, refl)
      by_stop stops.NoMemory gives = tt
