-- A line of bad form ends a text.
use Rattle.std.proofs.Common.{◌≡◌, ℕ, ◌<◌, List, [], ◌∷◌, ◌++◌, length, get_or, drop, map, Result}
use Rattle.std.proofs.Common.{Ok, sym, ap, ◌∙◌}
use Rattle.p9_base.specs.Results.{and_then, try_fold}
use Rattle.p9_base.proofs.Results.{try_fold-err}
use Rattle.p9_nsline.specs.declared.error.NsError.{NsError}
use Rattle.p9_nsline.specs.declared.error.NsError.TheVariants.{BadLine, NoMemory}
use Rattle.p9_nsline.specs.Flags.{Word}
use Rattle.p9_nsline.specs.Line.{BadLineOf, IsNsFault, NumberedLine, line_of, with_line}

pub lines-fault : {X : Type 0} (view : X → ℕ × List Word) (items : List X)
    (statements : List (ℕ × List Word)) (same : map view items ≡ statements)
    (lines : List NumberedLine) (i : ℕ) (x d : X) →
    i < length items → x ≡ get_or items i d
    → (error : NsError) (all : Result (List NumberedLine) BadLineOf)
    → IsNsFault (line_of (view x)) error →
    try_fold with_line lines (drop i statements) ≡ all → IsNsFault all error
lines-fault view items statements same lines i x d l at NoMemory all fault kept = tt
lines-fault view items statements same lines i x d l at (BadLine number kind) all fault kept =
    sym kept
    ∙ try_fold-err with_line view items statements same lines i (number, kind) x d l at
    (ap (λ r. and_then r (λ line. Ok (lines ++ line ∷ []))) fault)
