use Rattle.std.proofs.Common.{◌∙◌, sym, ap, map, subst}
use Rattle.std.specs.Option.{option_map}
use Rattle.std.proofs.lemmas.List.{map_push}
use Rattle.p9_view.proofs.Names.{IsAbove, above-end, above-more, above-none}
use Rattle.p9_view.proofs.tour.Tour.names_from.Goals as goal

pub loop-parent-init : goal.loop-parent-init
loop-parent-init g c =
    subst (λ names. IsAbove c.args.self.now c.args.index c.args.index (map (λ n. n.now) names))
    (sym c.new-names.ensures.items) (above-none c.args.self.now c.args.index c.requires)

pub loop-parent-smaller : goal.loop-parent-smaller
loop-parent-smaller g c =
    let up =
    above-more c.args.self.now c.well_formed-2.ensures c.loop-parent.here c.args.index
    (map (λ n. n.now) c.loop-parent.names.items) c.loop-parent.invariant c.in-Some.parent
    c.in-Some.name.now (map (λ n. n.now) c.push.new.self.items)
    (sym c.origin.ensures ∙ ap (option_map (λ o. (o.0, o.1.now))) c.in-Some.is)
    (ap (map (λ n. n.now)) c.in_ok-push.ensures.items
    ∙ map_push (λ n. n.now) c.loop-parent.names.items c.in-Some.name) in
    up.0

pub loop-parent-preserved : goal.loop-parent-preserved
loop-parent-preserved g c =
    let up =
    above-more c.args.self.now c.well_formed-2.ensures c.loop-parent.here c.args.index
    (map (λ n. n.now) c.loop-parent.names.items) c.loop-parent.invariant c.in-Some.parent
    c.in-Some.name.now (map (λ n. n.now) c.push.new.self.items)
    (sym c.origin.ensures ∙ ap (option_map (λ o. (o.0, o.1.now))) c.in-Some.is)
    (ap (map (λ n. n.now)) c.in_ok-push.ensures.items
    ∙ map_push (λ n. n.now) c.loop-parent.names.items c.in-Some.name) in
    up.1

pub returns : goal.returns
returns g c =
    above-end c.args.self.now c.well_formed-2.ensures c.loop-parent.here c.args.index
    (map (λ n. n.now) c.loop-parent.names.items) c.loop-parent.invariant
    (sym c.origin.ensures ∙ ap (option_map (λ o. (o.0, o.1.now))) c.in_default.is)
