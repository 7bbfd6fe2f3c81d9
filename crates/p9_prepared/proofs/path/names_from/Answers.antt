use Rattle.std.proofs.Common.{◌-◌, ◌+◌, ◌≡◌, ◌<◌, ◌++◌, map, reverse, sym, ap, ◌∙◌, arith}
use Rattle.std.specs.Option.{option_map}
use Rattle.p9_tree.specs.Forest.{server_at}
use Rattle.p9_prepared.specs.Path.{entry_at, names_below}
use Rattle.p9_prepared.proofs.Paths.{names-end, names-up, reverse-push}
use Rattle.p9_prepared.proofs.path.names_from.Goals as goal

pub returns-in_default : goal.returns-in_default
returns-in_default g c =
    let forest = c.args.forest.now in
    let nodes = (server_at c.args.at.server forest).nodes in
    let end = names-end (c.args.at.number - c.loop.counter) c.loop.here.number nodes c.entry.result
    (c.entry.ensures
    ∙ ap (λ s. entry_at c.loop.here.number (server_at s forest).nodes) c.loop.invariant.0)
    c.in_default.is in
    ap (λ names. names ++ reverse (map (λ n. n.now) c.loop.names.items)) (sym end)
    ∙ c.loop.invariant.1

pub loop-preserved : goal.loop-preserved
loop-preserved g c =
    let forest = c.args.forest.now in
    let nodes = (server_at c.args.at.server forest).nodes in
    let left = c.args.at.number - c.loop.counter in
    let some : 0 < left = omega arith in
    let less : c.args.at.number - (c.loop.counter + 1) ≡ left - 1 = omega arith in (
      c.loop.invariant.0,
      ap (λ k. names_below k c.in-Some.parent nodes
          ++ reverse (map (λ n. n.now) c.push.new.self.items)) less
          ∙ names-up left c.loop.here.number nodes c.in-Some.parent c.in-Some.name.now
          (reverse (map (λ n. n.now) c.loop.names.items))
          (reverse (map (λ n. n.now) c.push.new.self.items)) _ some
          (ap (λ s. entry_at c.loop.here.number (server_at s forest).nodes) (sym c.loop.invariant.0)
          ∙ sym c.entry.ensures ∙ ap (option_map (λ e. (e.0, e.1.now))) c.in-Some.is)
          (reverse-push c.loop.names.items c.push.new.self.items c.in-Some.name
          c.in_ok-push.ensures.items)
          c.loop.invariant.1,
    )
