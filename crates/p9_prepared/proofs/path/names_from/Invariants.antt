use Rattle.std.proofs.Common.{◌≡◌, ◌-◌, ◌++◌, map, reverse}
use Rattle.p9_tree.specs.Forest.{server_at}
use Rattle.p9_prepared.specs.Path.{names_below, names_to}
use Rattle.p9_prepared.proofs.path.names_from.Given as goal

-- the names above the directory reached, and those that lead on from there
abbrev pub invariant-loop : goal.invariant-loop
invariant-loop g l =
    let nodes = (server_at l.fn.at.server l.fn.forest).nodes in
    (l.here.server ≡ l.fn.at.server)
    × (names_below (l.fn.at.number - l.counter) l.here.number nodes
    ++ reverse (map (λ n. n.now) l.names.items) ≡ names_to l.fn.at.number nodes)
