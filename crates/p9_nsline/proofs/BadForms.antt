-- The first line of bad form of a text is the one for which it is refused.
use Rattle.std.proofs.Common.{◌≡◌, ℕ, List, [], ◌∷◌, ◌++◌, Result, Ok, Err, refl}
use Rattle.std.specs.Prelude.{slice_get}
use Rattle.std.specs.Result.{result_err}
use Rattle.p9_base.specs.Results.{and_then}
use Rattle.p9_base.specs.Statement.{statements_of}
use Rattle.p9_nsline.specs.Faults.{bad_form_in, bad_lines_in}
use Rattle.p9_nsline.specs.Line.{BadLineOf, NumberedLine, line_of, lines_in, with_line}
use Rattle.p9_nsline.proofs.Founds.{first-found}

agree : (lines : List NumberedLine) (line : Result NumberedLine BadLineOf)
    → result_err (and_then line (λ l. Ok (lines ++ l ∷ []))) ≡ result_err line
agree lines (Ok line) = refl
agree lines (Err bad) = refl

pub first-bad : (text : List ℕ) → slice_get (bad_lines_in text) 0 ≡ result_err (lines_in text)
unfolding lines_in
first-bad text =
    first-found with_line bad_form_in (λ lines statement. agree lines (line_of statement)) []
    (statements_of text)
