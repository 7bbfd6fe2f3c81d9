use Rattle.std.proofs.Common.{◌≡◌, ◌||◌, drop}
use Rattle.std.specs.List.{list_any}
use Rattle.std.specs.Option.{option_copied, option_map}
use Rattle.p9_table.specs.Rights.{who_view}
use Rattle.p9_space.specs.Walk.{is_alive, is_alive_dir, is_searched, named_among}
use Rattle.p9_space.proofs.walk.find_among.Given as goal

-- what is found so far, with what the members that are left have, is what all of them have
abbrev pub invariant-loop-member : goal.invariant-loop-member
invariant-loop-member g l =
    let forest = l.forest in
    let who = option_map who_view l.who in
    let left = drop l.member-index l.members in
    record {
      alive : (l.alive || list_any (is_alive forest) left) ≡ list_any (is_alive forest) l.members;
      dir : (l.dir || list_any (is_alive_dir forest) left)
          ≡ list_any (is_alive_dir forest) l.members;
      searched : (l.searched || list_any (is_searched forest who) left)
          ≡ list_any (is_searched forest who) l.members;
      child : named_among forest who (option_copied l.name) left
          ≡ named_among forest who (option_copied l.name) l.members;
    }
