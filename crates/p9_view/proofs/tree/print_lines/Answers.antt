use Rattle.std.proofs.Common.{◌≡◌, ◌∙◌, ◌++◌, [], Some, length, sym, ap, subst, append_assoc}
use Rattle.std.proofs.Common.{append-nil, arith, string_bytes}
use Rattle.std.specs.Prelude.{slice_get}
use Rattle.std.specs.Option.{option_copied, option_map}
use Rattle.std.proofs.lemmas.Option.{slice_get-get_or}
use Rattle.p9_space.specs.Rights.{who_view}
use Rattle.p9_view.specs.Line.{line_text}
use Rattle.p9_view.specs.Tree.{AreLines}
use Rattle.p9_view.specs.Tree.AreLines.{NoLine, OneMore}
use Rattle.p9_view.proofs.tree.print_lines.Goals as goal

pub loop-index-init : goal.loop-index-init
loop-index-init g c = ([], NoLine, sym (append-nil c.args.out.now.items))

pub loop-index-preserved : goal.loop-index-preserved
loop-index-preserved g c =
    let space = c.args.space.now in
    let who = option_map who_view c.args.view.now.who in
    let tour = c.args.tour.now in
    let items = c.entries-entry-items.result.now in
    let i = c.loop-index.index in
    let entry = c.entry-item.result in
    let path = string_bytes c.in_ok-path.path in
    let same = option_map string_bytes c.in_ok-same.same in
    let done = c.loop-index.invariant in
    let line = line_text space who path same entry in
    let there : slice_get tour i ≡ Some entry =
    ap (λ es. slice_get es i) (sym c.entries-entry-items.ensures)
    ∙ slice_get-get_or items i entry c.loop-index-test.true ∙ ap Some (sym c.entry-item.is) in (
      done.0 ++ line,
      OneMore i done.0 entry path same done.1 there c.in_ok-path.ensures
          (c.in_ok-same.ensures entry there),
      c.in_ok-print_line.ensures
          ∙ ap (λ p. c.loop-index.out.items
          ++ line_text space who p (option_copied c.as_text.result) entry) c.as_str.ensures.value
          ∙ ap (λ s. c.loop-index.out.items ++ line_text space who path s entry) c.as_text.ensures
          ∙ ap (λ out. out ++ line) done.2
          ∙ append_assoc c.args.out.now.items done.0 line,
    )

pub returns : goal.returns
returns g c =
    let space = c.args.space.now in
    let who = option_map who_view c.args.view.now.who in
    let tour = c.args.tour.now in
    let items = c.entries-entry-items.result.now in
    let done = c.loop-index.invariant in
    let high = c.loop-index-test.false in
    let low = c.loop-index.auto.index-end in
    let all : c.loop-index.index ≡ length items = omega (arith, high, low) in (
      done.0,
      subst (λ count. AreLines space who tour count done.0)
          (all ∙ ap length c.entries-entry-items.ensures) done.1,
      done.2,
    )
