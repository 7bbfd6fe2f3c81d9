use Rattle.std.proofs.Common.{◌∙◌, Some, false, get_or, is_some, sym, ap, take}
use Rattle.std.specs.Map.{lookup}
use Rattle.std.specs.Option.{option_map, option_or}
use Rattle.std.specs.Str.{bytes_eq}
use Rattle.std.proofs.lemmas.List.{drop_more, take_more}
use Rattle.p9_table.specs.declared.row.Member.{Member}
use Rattle.p9_space.specs.Rights.{who_view}
use Rattle.p9_space.specs.Walk.{child_among, named_child}
use Rattle.p9_view.proofs.Ways.{among-end, among-more, child_among-more}
use Rattle.p9_view.proofs.way.ways_among.Goals as goal

pub loop-member-preserved : goal.loop-member-preserved
loop-member-preserved g c =
    let forest = c.args.forest.now in
    let table = c.args.table.now in
    let who = option_map who_view c.args.who in
    let ms = c.args.members.now in
    let i = c.loop-member.member-index in
    let none : Member = record { node = record { server = 0; number = 0 }; create = false } in
    let m = get_or ms i none in
    let done = c.loop-member.invariant in
    record {
      children = λ name. c.in_ok-add_children_of.ensures name
          ∙ ap (λ o. option_or o (named_child forest who (Some name) m)) (done.children name)
          ∙ child_among-more forest who name (take i ms) m
          ∙ ap (child_among forest who name) (sym (take_more ms i none c.loop-member-test.true));
      ways = among-more forest table who ms i m
          (λ name. is_some (lookup (bytes_eq name) c.loop-member.children.entries))
          c.loop-member.ways.items c.add_ways_through.new.ways.items _
          (drop_more ms i none c.loop-member-test.true) (take_more ms i none c.loop-member-test.true)
          (λ name. ap is_some (done.children name)) c.in_ok-add_ways_through.ensures done.ways;
    }

pub returns : goal.returns
returns g c =
    among-end c.args.forest.now c.args.table.now (option_map who_view c.args.who) c.args.members.now
    c.loop-member.member-index c.loop-member.ways.items _ c.loop-member-test.false
    c.loop-member.invariant.ways
