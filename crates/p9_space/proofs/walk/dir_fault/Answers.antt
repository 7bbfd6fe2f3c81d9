use Rattle.std.proofs.Common.{◌∙◌, true, false, is_some, refl, ap, sym}
use Rattle.std.specs.Option.{option_map_or}
use Rattle.p9_tree.specs.Node.{is_dir}
use Rattle.p9_space.specs.Walk.{is_alive, is_alive_dir}
use Rattle.p9_space.proofs.Walks.{any-done, any-here, any-on, fault-dead, fault-files}
use Rattle.p9_space.proofs.Walks.{fault-none, or-false, or-true}
use Rattle.p9_space.proofs.walk.dir_fault.Goals as goal
use Rattle.p9_space.proofs.walk.dir_fault.Goals.{in-Some+else-is_dir, in_default}

pub loop-member-preserved : goal.loop-member-preserved
loop-member-preserved g c =
    let forest = c.args.forest.now in
    let members = c.args.members.now in
    let i = c.loop-member.member-index in
    let within = c.loop-member-test.true in
    let before = c.loop-member.invariant in
    elim c.match-node.branch [
      | in-Some+else-is_dir w ↦ record {
        alive =
            any-on (is_alive forest) members i _ c.loop-member.alive true _ _ within
            (ap is_some w.in-Some.ensures) (w.alive-is ∙ sym (or-true c.loop-member.alive))
            before.alive;
        dir =
            any-on (is_alive_dir forest) members i _ false false false _ within
            (w.if-is_dir.ensures ∙ ap (λ n. option_map_or is_dir n false) w.in-Some.ensures) refl
            before.dir;
      }
      | in_default w ↦ record {
        alive =
            any-on (is_alive forest) members i _ c.loop-member.alive false _ _ within
            (ap is_some w.in_default.ensures) (w.alive-is ∙ or-false c.loop-member.alive)
            before.alive;
        dir =
            any-on (is_alive_dir forest) members i _ false false false _ within
            (ap (λ n. option_map_or is_dir n false) w.in_default.ensures) refl before.dir;
      }
    ]

pub returns-then-is_dir : goal.returns-then-is_dir
returns-then-is_dir g c =
    let forest = c.args.forest.now in
    let members = c.args.members.now in
    let i = c.loop-member.member-index in
    fault-none forest members
    (any-here (is_alive forest) members i _ c.loop-member.alive _ c.loop-member-test.true
    (sym (ap is_some c.in-Some.ensures)) c.loop-member.invariant.alive)
    (any-here (is_alive_dir forest) members i _ false _ c.loop-member-test.true
    (sym (c.if-is_dir.ensures ∙ ap (λ n. option_map_or is_dir n false) c.in-Some.ensures))
    c.loop-member.invariant.dir)

pub returns-then-alive : goal.returns-then-alive
returns-then-alive g c =
    let forest = c.args.forest.now in
    let members = c.args.members.now in
    let i = c.loop-member.member-index in
    fault-files forest members
    (sym (any-done (is_alive forest) members i _ _ c.loop-member-test.false
    c.loop-member.invariant.alive) ∙ c.if-alive.true)
    (sym (any-done (is_alive_dir forest) members i false _ c.loop-member-test.false
    c.loop-member.invariant.dir))

pub returns-else-alive : goal.returns-else-alive
returns-else-alive g c =
    fault-dead c.args.forest.now c.args.members.now
    (sym (any-done (is_alive c.args.forest.now) c.args.members.now c.loop-member.member-index _ _
    c.loop-member-test.false c.loop-member.invariant.alive) ∙ c.if-alive.false)
