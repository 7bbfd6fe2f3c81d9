use Rattle.std.proofs.Common.{◌≡◌, ◌++◌, drop}
use Rattle.std.specs.Prelude.{codes}
use Rattle.std.specs.List.{flat_map}
use Rattle.p9_shown.specs.Text.{shown_text}
use Rattle.p9_view.proofs.passing.print_names.Given as goal

-- what is printed, and what the users that are left print
abbrev pub invariant-loop-user : goal.invariant-loop-user
invariant-loop-user g l =
    l.out.items ++ flat_map (λ u. codes ", " ++ shown_text u) (drop l.user-index l.others)
    ≡ l.initial.out.items ++ flat_map (λ u. codes ", " ++ shown_text u) l.others
