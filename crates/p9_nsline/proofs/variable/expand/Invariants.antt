use Rattle.std.proofs.Common.{◌≡◌, ◌++◌, drop, map, string_bytes}
use Rattle.std.specs.List.{flat_map}
use Rattle.p9_base.specs.Variable.{variables_of}
use Rattle.p9_nsline.specs.Variable.{expanded, with_value}
use Rattle.p9_nsline.proofs.variable.expand.Given as goal

-- what is written so far, and what the pieces that are left add
abbrev pub invariant-loop-piece : goal.invariant-loop-piece
invariant-loop-piece g l =
    string_bytes l.text ++ flat_map (with_value (variables_of l.vars))
    (map (λ p. p.now) (drop l.piece-index l.others)) ≡ expanded (variables_of l.vars) l.word
