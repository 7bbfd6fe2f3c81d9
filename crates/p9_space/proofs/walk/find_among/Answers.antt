use Rattle.std.proofs.Common.{◌≡◌, ◌||◌, ◌∙◌, ap, sym}
use Rattle.std.specs.Option.{option_copied, option_map}
use Rattle.p9_space.specs.Found.{place_of}
use Rattle.p9_table.specs.Rights.{who_view}
use Rattle.p9_space.specs.Walk.{is_alive, is_alive_dir, is_searched}
use Rattle.p9_space.proofs.Walks.{any-done, any-on, found-alive, found-dir, found-searched}
use Rattle.p9_space.proofs.Walks.{named-done, named-here, named-on, none-viewed, some-viewed}
use Rattle.p9_space.proofs.walk.find_among.Goals as goal
use Rattle.p9_space.proofs.walk.find_among.Goals.{else-alive, else-dir, else-searched}
use Rattle.p9_space.proofs.walk.find_among.Goals.{then-alive, then-dir, then-searched}

pub loop-member-preserved : goal.loop-member-preserved
loop-member-preserved g c =
    let forest = c.args.forest.now in
    let who = option_map who_view c.args.who in
    let members = c.args.members.now in
    let found = c.find_in-found.ensures in
    let i = c.loop-member.member-index in
    let here = c.find_in-found.result in
    let alive : c.if-alive.alive ≡ (c.loop-member.alive || here.alive) =
    elim c.if-alive.branch [
      | then-alive w ↦ w.alive-is ∙ w.if-alive.true ∙ ap (λ b. b || here.alive) (sym w.if-alive.true)
      | else-alive w ↦ w.alive-is ∙ ap (λ b. b || here.alive) (sym w.if-alive.false)
    ] in
    let dir : c.if-dir.dir ≡ (c.loop-member.dir || here.dir) =
    elim c.if-dir.branch [
      | then-dir w ↦ w.dir-is ∙ w.if-dir.true ∙ ap (λ b. b || here.dir) (sym w.if-dir.true)
      | else-dir w ↦ w.dir-is ∙ ap (λ b. b || here.dir) (sym w.if-dir.false)
    ] in
    let searched : c.if-searched.searched ≡ (c.loop-member.searched || here.searched) =
    elim c.if-searched.branch [
      | then-searched w ↦ w.searched-is ∙ w.if-searched.true ∙ ap (λ b. b || here.searched) (sym w.if-searched.true)
      | else-searched w ↦ w.searched-is ∙ ap (λ b. b || here.searched) (sym w.if-searched.false)
    ] in
    record {
      alive =
          any-on (is_alive forest) members i _ _ _ _ _ c.loop-member-test.true found.alive alive
          c.loop-member.invariant.alive;
      dir =
          any-on (is_alive_dir forest) members i _ _ _ _ _ c.loop-member-test.true found.dir dir
          c.loop-member.invariant.dir;
      searched =
          any-on (is_searched forest who) members i _ _ _ _ _ c.loop-member-test.true
          found.searched searched c.loop-member.invariant.searched;
      child =
          named-on forest who (option_copied c.args.name) members i _ _ c.loop-member-test.true
          (none-viewed place_of here.child _ found.child c.if-is_some.ensures)
          c.loop-member.invariant.child;
    }

pub returns-then-is_some-clause-alive : goal.returns-then-is_some-clause-alive
returns-then-is_some-clause-alive g c =
    let found = c.find_in-found.ensures in
    found-alive c.args.forest.now (option_map who_view c.args.who) (option_copied c.args.name)
    c.args.members.now c.loop-member.member-index _ _ _ _ c.loop-member-test.true
    (some-viewed place_of c.find_in-found.result.child _ found.child c.if-is_some.ensures)
    found.alive c.loop-member.invariant.alive

pub returns-then-is_some-clause-dir : goal.returns-then-is_some-clause-dir
returns-then-is_some-clause-dir g c =
    let found = c.find_in-found.ensures in
    found-dir c.args.forest.now (option_map who_view c.args.who) (option_copied c.args.name)
    c.args.members.now c.loop-member.member-index _ _ _ _ c.loop-member-test.true
    (some-viewed place_of c.find_in-found.result.child _ found.child c.if-is_some.ensures)
    found.dir c.loop-member.invariant.dir

pub returns-then-is_some-clause-searched : goal.returns-then-is_some-clause-searched
returns-then-is_some-clause-searched g c =
    let found = c.find_in-found.ensures in
    found-searched c.args.forest.now (option_map who_view c.args.who) (option_copied c.args.name)
    c.args.members.now c.loop-member.member-index _ _ _ _ c.loop-member-test.true
    (some-viewed place_of c.find_in-found.result.child _ found.child c.if-is_some.ensures)
    found.searched c.loop-member.invariant.searched

pub returns-then-is_some-clause-child : goal.returns-then-is_some-clause-child
returns-then-is_some-clause-child g c =
    let found = c.find_in-found.ensures in
    found.child
    ∙ named-here c.args.forest.now (option_map who_view c.args.who) (option_copied c.args.name)
    c.args.members.now c.loop-member.member-index _ _ c.loop-member-test.true
    (some-viewed place_of c.find_in-found.result.child _ found.child c.if-is_some.ensures)
    c.loop-member.invariant.child

pub returns-then-is_some-clause-node : goal.returns-then-is_some-clause-node
returns-then-is_some-clause-node g c = c.find_in-found.ensures.node

pub returns-clause-alive : goal.returns-clause-alive
returns-clause-alive g c =
    any-done (is_alive c.args.forest.now) c.args.members.now c.loop-member.member-index _ _
    c.loop-member-test.false c.loop-member.invariant.alive

pub returns-clause-dir : goal.returns-clause-dir
returns-clause-dir g c =
    any-done (is_alive_dir c.args.forest.now) c.args.members.now c.loop-member.member-index _ _
    c.loop-member-test.false c.loop-member.invariant.dir

pub returns-clause-searched : goal.returns-clause-searched
returns-clause-searched g c =
    any-done (is_searched c.args.forest.now (option_map who_view c.args.who)) c.args.members.now
    c.loop-member.member-index _ _ c.loop-member-test.false c.loop-member.invariant.searched

pub returns-clause-child : goal.returns-clause-child
returns-clause-child g c =
    named-done c.args.forest.now (option_map who_view c.args.who) (option_copied c.args.name)
    c.args.members.now c.loop-member.member-index _ c.loop-member-test.false
    c.loop-member.invariant.child
