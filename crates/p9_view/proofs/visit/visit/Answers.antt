use Rattle.std.proofs.Common.{◌≡◌, ◌≢◌, ◌++◌, ◌∷◌, ◌∙◌, [], List, Some, None, length, reverse, sym, ap, subst}
use Rattle.std.specs.Option.{option_map}
use Rattle.std.proofs.lemmas.Result.{on_ok_weaker}
use Rattle.p9_base.specs.declared.node_ref.NodeRef.{NodeRef}
use Rattle.p9_space.specs.Rights.{who_view}
use Rattle.p9_view.specs.Met.{met_at, nodes_at, nodes_of}
use Rattle.p9_view.specs.Visit.{IsUnderway, entries_below}
use Rattle.p9_view.specs.Way.{ways_from}
use Rattle.p9_view.proofs.Tours.{can_follow, can_follow-same, underway-new, underway-same}
use Rattle.p9_view.proofs.visit.visit.Goals as goal

pub push-requires : goal.push-requires
push-requires g c =
    let forest = c.args.forest.now in
    let table = c.args.table.now in
    let who = option_map who_view c.args.who in
    let nodes : c.as_slice-2.result.now ≡ nodes_at c.args.entry.place table =
    c.as_slice-2.ensures.value ∙ c.in_ok-nodes.ensures
    ∙ ap nodes_of (c.as_slice.ensures ∙ c.members-members.ensures.members) in
    let there : met_at c.args.underway.now.met (nodes_at c.args.entry.place table) ≡ Some c.in-Some.same =
    ap (met_at c.args.underway.now.met) (sym nodes) ∙ sym c.get.ensures ∙ c.in-Some.is in
    can_follow-same forest table who c.args.underway.now.tour (reverse c.args.underway.now.waiting.items) c.args.entry
    c.args.underway.now.met c.requires c.in-Some.same there

pub returns-in-Some-clause-underway : goal.returns-in-Some-clause-underway
returns-in-Some-clause-underway g c =
    let forest = c.args.forest.now in
    let table = c.args.table.now in
    let who = option_map who_view c.args.who in
    let nodes : c.as_slice-2.result.now ≡ nodes_at c.args.entry.place table =
    c.as_slice-2.ensures.value ∙ c.in_ok-nodes.ensures
    ∙ ap nodes_of (c.as_slice.ensures ∙ c.members-members.ensures.members) in
    let there : met_at c.args.underway.now.met (nodes_at c.args.entry.place table) ≡ Some c.in-Some.same =
    ap (met_at c.args.underway.now.met) (sym nodes) ∙ sym c.get.ensures ∙ c.in-Some.is in
    subst (λ tour. IsUnderway forest table who tour (reverse c.args.underway.now.waiting.items) c.args.underway.now.met)
    (sym c.in_ok-push.ensures)
    (underway-same forest table who c.args.underway.now.tour (reverse c.args.underway.now.waiting.items) c.args.entry
    c.args.underway.now.met c.requires c.in-Some.same there)

pub push-requires-2 : goal.push-requires-2
push-requires-2 g c =
    can_follow c.args.forest.now c.args.table.now (option_map who_view c.args.who) c.args.underway.now.tour
    (reverse c.args.underway.now.waiting.items) c.args.entry c.args.underway.now.met c.requires

pub returns-clause-underway : goal.returns-clause-underway
returns-clause-underway g c =
    let forest = c.args.forest.now in
    let table = c.args.table.now in
    let who = option_map who_view c.args.who in
    let place = c.args.entry.place in
    let n = length c.args.underway.now.tour in
    let nodes : c.as_slice-2.result.now ≡ nodes_at place table =
    c.as_slice-2.ensures.value ∙ c.in_ok-nodes.ensures
    ∙ ap nodes_of (c.as_slice.ensures ∙ c.members-members.ensures.members) in
    let items : c.in_ok-nodes.nodes.items ≡ nodes_at place table =
    sym c.as_slice-2.ensures.value ∙ nodes in
    let none : met_at c.args.underway.now.met (nodes_at place table) ≡ None =
    ap (met_at c.args.underway.now.met) (sym nodes) ∙ sym c.get.ensures ∙ c.in_default.is in
    let at : met_at c.insert.new.self (nodes_at place table) ≡ Some n =
    ap (met_at c.insert.new.self) (sym items) ∙ c.in_ok-insert.ensures.at
    ∙ ap Some c.count-index.ensures in
    let others : (ns : List NodeRef) → ns ≢ nodes_at place table
    → met_at c.insert.new.self ns ≡ met_at c.args.underway.now.met ns =
    λ ns apart. c.in_ok-insert.ensures.others ns (λ same. apart (same ∙ items)) in
    let waits : reverse c.await_ways.new.waiting.items
    ≡ entries_below n c.args.entry.access (ways_from forest table who place)
    ++ reverse c.args.underway.now.waiting.items =
    c.in_ok-await_ways.ensures
    ∙ ap (λ ws. entries_below c.count-index.result c.args.entry.access ws
    ++ reverse c.args.underway.now.waiting.items) c.in_ok-ways.ensures
    ∙ ap (λ k. entries_below k c.args.entry.access (ways_from forest table who place)
    ++ reverse c.args.underway.now.waiting.items) c.count-index.ensures in
    let grown = underway-new forest table who c.args.underway.now.tour (reverse c.args.underway.now.waiting.items)
    c.args.entry c.args.underway.now.met c.requires c.insert.new.self none at others in
    on_ok_weaker c.push-2.result
    (λ is. subst (λ tour. IsUnderway forest table who tour (reverse c.await_ways.new.waiting.items)
    c.insert.new.self) (sym is)
    (subst (λ waiting. IsUnderway forest table who (c.args.underway.now.tour ++ c.args.entry ∷ []) waiting
    c.insert.new.self) (sym waits) grown))
    c.push-2.ensures
