use Rattle.std.proofs.Common.{◌≡◌, ◌++◌, drop}
use Rattle.p9_commands.specs.Listing.{table_text}
use Rattle.p9_commands.proofs.listing.print_table.Given as goal

-- what is printed, and what the rows that are left print
abbrev pub invariant-loop-position : goal.invariant-loop-position
invariant-loop-position g l =
    l.out.items ++ table_text l.fn.world (drop l.position l.fn.table) ≡ l.fn.out.items
    ++ table_text l.fn.world l.fn.table
