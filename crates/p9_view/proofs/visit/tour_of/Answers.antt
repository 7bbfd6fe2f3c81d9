use Rattle.std.proofs.Common.{◌≡◌, ◌++◌, ◌∷◌, ◌∙◌, [], length, reverse, sym, ap, subst, arith}
use Rattle.std.specs.Option.{option_map}
use Rattle.std.proofs.lemmas.List.{nil_from_length, reverse-append}
use Rattle.p9_space.specs.Rights.{who_view}
use Rattle.p9_view.specs.Tour.{root_entry}
use Rattle.p9_view.specs.Visit.{IsUnderway}
use Rattle.p9_view.proofs.Tours.{underway-root}
use Rattle.p9_view.proofs.Walks.{tour-whole}
use Rattle.p9_view.proofs.visit.tour_of.Goals as goal

pub visit-requires : goal.visit-requires
visit-requires g c =
    let forest = c.args.forest.now in
    let table = c.args.table.now in
    let who = option_map who_view c.args.who in
    subst (λ waiting. IsUnderway forest table who c.loop-entry.underway.tour waiting c.loop-entry.underway.met)
    (ap reverse c.in-Some.ensures.items ∙ reverse-append c.pop.new.self.items (c.in-Some.entry ∷ []))
    c.loop-entry.invariant

pub loop-entry-smaller : goal.loop-entry-smaller
loop-entry-smaller g c =
    let longer = c.in_ok-visit.ensures.longer in
    let small = c.in_ok-visit.ensures.small in
    omega (arith, longer, small)

pub loop-entry-init : goal.loop-entry-init
loop-entry-init g c =
    let forest = c.args.forest.now in
    let table = c.args.table.now in
    let who = option_map who_view c.args.who in
    let waits : c.push.new.self.items ≡ root_entry ∷ [] =
    c.in_ok-push.ensures.items ∙ ap (λ es. es ++ c.root.result ∷ []) c.new-3.ensures.items
    ∙ ap (λ e. e ∷ []) c.root.ensures in
    subst (λ waiting. IsUnderway forest table who c.new.result (reverse waiting) c.new-2.result)
    (sym waits)
    (subst (λ tour. IsUnderway forest table who tour (root_entry ∷ []) c.new-2.result)
    (sym c.new.ensures) (underway-root forest table who c.new-2.result c.new-2.ensures))

pub loop-entry-preserved : goal.loop-entry-preserved
loop-entry-preserved g c = c.in_ok-visit.ensures.underway

pub returns : goal.returns
returns g c =
    let forest = c.args.forest.now in
    let table = c.args.table.now in
    let who = option_map who_view c.args.who in
    let count = c.in_default.ensures.cases.0 in
    let ok = c.loop-entry.underway.waiting.ok.0 in
    let none : length c.loop-entry.underway.waiting.items ≡ 0 = omega (arith, count, ok) in
    tour-whole forest table who c.well_formed-2.ensures c.loop-entry.underway.tour c.loop-entry.underway.met
    (subst (λ waiting. IsUnderway forest table who c.loop-entry.underway.tour (reverse waiting) c.loop-entry.underway.met)
    (nil_from_length c.loop-entry.underway.waiting.items none) c.loop-entry.invariant)
