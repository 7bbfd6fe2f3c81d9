use Rattle.std.proofs.Common.{◌≡◌, ◌∙◌, ◌<◌, sym, subst, false, true, refl, add-one, drop}
use Rattle.p9_table.specs.Given.{is_row_given, is_table_given}
use Rattle.p9_table.proofs.GivenRows.{list_all-rest, none-past}
use Rattle.p9_table.proofs.given.is_table_given.Goals as goal
use Rattle.p9_table.proofs.given.is_table_given.Goals.{in-Some+else-not-is_row_given, in_default}

pub returns-then-not-is_row_given : goal.returns-then-not-is_row_given
returns-then-not-is_row_given g c =
    let forest = c.args.forest.now in
    let rest =
    list_all-rest (is_row_given forest) c.args.table.now c.loop-position.position
    (c.in-Some.key, c.in-Some.members) (sym c.row.ensures ∙ c.in-Some.is) in
    let row : is_row_given forest (c.in-Some.key, c.in-Some.members) ≡ false =
    sym c.is_row_given.ensures ∙ c.if-not-is_row_given.true in
    sym (sym c.loop-position.invariant ∙ rest ∙ rw row refl)

pub loop-position-preserved : goal.loop-position-preserved
loop-position-preserved g c =
    let forest = c.args.forest.now in
    elim c.match-row.branch [
      | in-Some+else-not-is_row_given w ↦
          let rest =
          list_all-rest (is_row_given forest) c.args.table.now c.loop-position.position
          (w.in-Some.key, w.in-Some.members) (sym c.row.ensures ∙ w.in-Some.is) in
          let row : is_row_given forest (w.in-Some.key, w.in-Some.members) ≡ true =
          sym w.is_row_given.ensures ∙ w.if-not-is_row_given.false in
          subst (λ i. is_table_given forest (drop i c.args.table.now)
          ≡ is_table_given forest c.args.table.now) (sym (add-one c.loop-position.position))
          (sym (rest ∙ rw row refl) ∙ c.loop-position.invariant)
      | in_default w ↦
          absurd (none-past c.args.table.now c.loop-position.position
          (sym c.row.ensures ∙ w.in_default.is)
          (subst (λ n. c.loop-position.position < n) c.len-position-end.ensures
          c.loop-position-test.true))
    ]
