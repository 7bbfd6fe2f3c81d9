use Rattle.std.proofs.Common.{◌≡◌, ◌++◌, drop}
use Rattle.std.specs.List.{flat_map}
use Rattle.p9_commands.specs.Listing.{later_line}
use Rattle.p9_commands.proofs.listing.print_row.Given as goal

-- what is printed, and what the members that are left print
abbrev pub invariant-loop-member : goal.invariant-loop-member
invariant-loop-member g l =
    l.out.items ++ flat_map (later_line l.fn.world l.fn.key) (drop l.member-index l.others)
    ≡ l.initial.out.items ++ flat_map (later_line l.fn.world l.fn.key) l.others
