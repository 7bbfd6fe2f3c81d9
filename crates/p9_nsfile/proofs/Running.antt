-- Steps of running lines.
use Rattle.std.proofs.Common.{◌≡◌, ◌-◌, ◌<◌, ℕ, zero, suc, List, Some, Ok, Err, refl, ap, arith}
use Rattle.p9_base.specs.Results.{and_then}
use Rattle.p9_nsline.specs.declared.fault.OpFault.TheVariants.{TooDeep}
use Rattle.p9_nsline.specs.Environment.{Environment}
use Rattle.p9_nsline.specs.Include.{included_lines}
use Rattle.p9_nsline.specs.Space.{Space}
use Rattle.p9_nsfile.specs.Run.{included, lines_done}

-- no file may be nested any more
pub included-none : (environment : Environment) (line : ℕ) (space : Space) (path : List ℕ)
    → included environment 0 line space path ≡ Err TooDeep
unfolding included
included-none environment line space path = refl

-- one nested file, in which one fewer may be nested
pub included-more : (environment : Environment) (left line : ℕ) (space : Space) (path : List ℕ) → 0 < left →
    included environment left line space path
    ≡ and_then (included_lines environment space path)
    (λ lines. Ok (lines_done environment (left - 1) (Some line) space lines))
unfolding included
included-more environment zero line space path some = absurd (omega arith)
included-more environment (suc left) line space path some =
    let less : left ≡ suc left - 1 = omega arith in
    ap (λ k. and_then (included_lines environment space path)
    (λ lines. Ok (lines_done environment k (Some line) space lines))) less
