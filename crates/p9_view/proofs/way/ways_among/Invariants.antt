use Rattle.std.proofs.Common.{◌≡◌, ◌++◌, ℕ, List, [], drop, take}
use Rattle.std.specs.Map.{lookup}
use Rattle.std.specs.Option.{option_map}
use Rattle.std.specs.Str.{bytes_eq}
use Rattle.p9_space.specs.Rights.{who_view}
use Rattle.p9_space.specs.Walk.{child_among}
use Rattle.p9_view.specs.Way.{ways_among}
use Rattle.p9_view.proofs.way.ways_among.Given as goal

-- the children of the members before this one that are searched, and the ways that are left
abbrev pub invariant-loop-member : goal.invariant-loop-member
invariant-loop-member g l =
    let forest = l.forest in
    let table = l.table in
    let who = option_map who_view l.who in record {
      children : (name : List ℕ) → lookup (bytes_eq name) l.children.entries
          ≡ child_among forest who name (take l.member-index l.members);
      ways : l.ways.items ++ ways_among forest table who (take l.member-index l.members)
          (drop l.member-index l.members) ≡ ways_among forest table who [] l.members;
    }
