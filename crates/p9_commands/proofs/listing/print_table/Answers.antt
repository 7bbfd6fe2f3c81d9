use Rattle.std.proofs.Common.{◌≡◌, ◌<◌, Some, None, ◌∙◌, ◌++◌, length, sym, ap, subst, arith}
use Rattle.std.specs.Prelude.{slice_get}
use Rattle.std.proofs.lemmas.Option.{get_or_from_slice_get, slice_get_cases, slice_get_within}
use Rattle.p9_space.specs.Table.{MountRow}
use Rattle.p9_commands.specs.Listing.{members_text, row_text}
use Rattle.p9_commands.proofs.Prints.{printed-more}
use Rattle.p9_commands.proofs.listing.print_table.Goals as goal
use Rattle.p9_commands.proofs.listing.print_table.Goals.{in-Some+in_ok-print_row, in_default}

pub loop-position-preserved : goal.loop-position-preserved
loop-position-preserved g c =
    let table = c.args.table.now in
    let i = c.loop-position.position in
    elim c.match-row.branch [
      | in-Some+in_ok-print_row w ↦
          let row : MountRow = (w.in-Some.key, w.in-Some.members) in
          let found : slice_get table i ≡ Some row = sym c.row.ensures ∙ w.in-Some.is in
          printed-more (row_text c.args.world.now) table c.args.out.now.items i
          c.loop-position.out.items row row c.match-row.out.items
          (slice_get_within table i row found) (sym (get_or_from_slice_get table i row row found))
          (ap (λ out. out.items) w.out-is ∙ w.in_ok-print_row.ensures
          ∙ ap (λ ms. c.loop-position.out.items
          ++ members_text c.args.world.now w.in-Some.key ms) w.as_slice.ensures)
          c.loop-position.invariant
      | in_default w ↦
          let none : slice_get table i ≡ None = sym c.row.ensures ∙ w.in_default.is in
          let within : i < length table =
          subst (λ n. i < n) c.len-position-end.ensures c.loop-position-test.true in
          absurd (grind (arith, slice_get_cases))
    ]
