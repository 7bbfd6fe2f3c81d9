use Rattle.std.proofs.Common.{◌≡◌, ◌++◌, ℕ, List}
use Rattle.std.specs.Option.{option_map}
use Rattle.p9_space.specs.Rights.{who_view}
use Rattle.p9_view.specs.Tree.{AreLines}
use Rattle.p9_view.proofs.tree.print_lines.Given as goal

-- what is printed are the lines of the entries before this one
abbrev pub invariant-loop-index : goal.invariant-loop-index
invariant-loop-index g l =
    let space = l.space in
    let tour = l.tour in
    (text : List ℕ) × AreLines space (option_map who_view l.view.who) tour l.index text
    × (l.out.items ≡ l.initial.out.items ++ text)
