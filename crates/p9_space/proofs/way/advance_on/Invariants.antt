use Rattle.std.proofs.Common.{◌≡◌, drop, map}
use Rattle.std.specs.Option.{option_map}
use Rattle.p9_space.specs.Channel.{Fits, trail_of}
use Rattle.p9_table.specs.Rights.{who_view}
use Rattle.p9_space.specs.Walk.{walk}
use Rattle.p9_space.proofs.way.advance_on.Given as goal

-- the walk along the names that are left, from here, is the whole walk
abbrev pub invariant-loop-name : goal.invariant-loop-name
invariant-loop-name g l =
    let forest = l.forest in
    (walk forest l.table (option_map who_view l.who) (trail_of l.way)
    (map (λ n. n.now) (drop l.name-index l.names))
    ≡ walk forest l.table (option_map who_view l.who) (trail_of l.fn.way)
    (map (λ n. n.now) l.names)) × Fits l.table l.way
