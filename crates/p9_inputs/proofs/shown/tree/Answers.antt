use Rattle.std.proofs.Common.{List, [], ℕ, Option, codes, subst, sym}
use Rattle.std.specs.Option.{option_copied}
use Rattle.clap.specs.Matches.{first_value, found_of}
use Rattle.p9_prepared.specs.Prepared.{prepared_of}
use Rattle.p9_prepared.specs.declared.prepared.Needs.TheVariants.{Nothing}
use Rattle.p9_view.specs.Tree.{IsInputShown}
use Rattle.p9_inputs.proofs.Showings.{input_shown_after}
use Rattle.p9_inputs.proofs.shown.tree.Goals as goal

pub returns-clause-ok : goal.returns-clause-ok
returns-clause-ok g c =
    let asked = prepared_of Nothing c.args.input.now in
    let given = option_copied c.get_str-user.result in
    let user = first_value (found_of c.args.options.now) (codes "user") in
    let status = c.in_ok-status.status in
    let printed = c.as_slice.result.now in
    let reported = c.as_slice-2.result.now in
    let first = c.new-printed.result.items in
    let second = c.new-reported.result.items in
    input_shown_after status printed reported c.args.out.now.items c.add_both.new.out.items
    c.args.err.now.items c.add_both.new.err.items c.in_ok-add_both.ensures.ok asked user
    (subst (λ (u : Option (List ℕ)). IsInputShown asked u status [] printed [] reported)
    c.get_str-user.ensures
    (subst (λ (t : List ℕ). IsInputShown asked given status t printed [] reported)
    c.new-printed.ensures.items
    (subst (λ (t : List ℕ). IsInputShown asked given status first printed t reported)
    c.new-reported.ensures.items
    (subst (λ (t : List ℕ). IsInputShown asked given status first t second reported)
    (sym c.as_slice.ensures.value)
    (subst
    (λ (t : List ℕ). IsInputShown asked given status first c.show_tree.new.out.items second t)
    (sym c.as_slice-2.ensures.value) c.in_ok-status.ensures)))))
