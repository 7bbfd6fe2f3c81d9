use Rattle.std.proofs.Common.{◌≡◌, ◌++◌, drop}
use Rattle.std.specs.Prelude.{codes}
use Rattle.std.specs.List.{flat_map}
use Rattle.p9_view.specs.Line.{member_text}
use Rattle.p9_view.proofs.line.print_members.Given as goal

-- what is printed, and what the members that are left print
abbrev pub invariant-loop-member : goal.invariant-loop-member
invariant-loop-member g l =
    l.out.items
    ++ flat_map (λ m. codes " + " ++ member_text l.fn.world m) (drop l.member-index l.others)
    ≡ l.initial.out.items ++ flat_map (λ m. codes " + " ++ member_text l.fn.world m) l.others
