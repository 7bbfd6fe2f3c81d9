use Rattle.std.proofs.Common.{◌≡◌, ◌++◌, drop}
use Rattle.std.specs.Prelude.{codes}
use Rattle.std.specs.List.{flat_map}
use Rattle.std.specs.String.{string_bytes}
use Rattle.p9_map.specs.Claim.{shown_path}
use Rattle.p9_map.proofs.claim.hidden_paths.Given as goal

-- the text so far, and what the directories that are left add
abbrev pub invariant-loop-dir : goal.invariant-loop-dir
invariant-loop-dir g l =
    string_bytes l.text
    ++ flat_map (λ d. codes ", " ++ shown_path l.fn.world d) (drop l.dir-index l.others)
    ≡ string_bytes l.initial.text ++ flat_map (λ d. codes ", " ++ shown_path l.fn.world d) l.others
