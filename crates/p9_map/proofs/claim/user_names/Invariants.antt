use Rattle.std.proofs.Common.{◌≡◌, ◌++◌, drop}
use Rattle.std.specs.Prelude.{codes}
use Rattle.std.specs.List.{flat_map}
use Rattle.std.specs.String.{string_bytes}
use Rattle.p9_shown.specs.Text.{shown_text}
use Rattle.p9_map.proofs.claim.user_names.Given as goal

-- the text so far, and what the users that are left add
abbrev pub invariant-loop-user : goal.invariant-loop-user
invariant-loop-user g l =
    string_bytes l.text ++ flat_map (λ u. codes ", " ++ shown_text u) (drop l.user-index l.others)
    ≡ string_bytes l.initial.text ++ flat_map (λ u. codes ", " ++ shown_text u) l.others
