use Rattle.std.proofs.Common.{◌≡◌, ◌<◌, ◌∙◌, length, refl, sym, ap, subst, arith}
use Rattle.std.proofs.lemmas.List.{length-map}
use Rattle.p9_world.specs.Entry.{dir_line}
use Rattle.p9_world.specs.LastDir.{IsWhereNamesLead}
use Rattle.p9_world.specs.World.{World}
use Rattle.p9_world.proofs.Refused.{no-last_server, none-counted}
use Rattle.p9_world.proofs.Worlds.{IsWorld-last, Makes-last, led-last, state-last}
use Rattle.p9_world.proofs.entry.add_dir.Goals as goal

pub invariant_of-world-2 : goal.invariant_of-world-2
invariant_of-world-2 g c =
    let some : 0 < length c.world.inside.trees.items =
    omega (arith, c.in-Some.ensures.variant.0 refl, c.world.inside.trees.ok.0) in
    record {
      world =
          IsWorld-last g.T.Tree.state c.world.inside.trees.items c.in-Some.tree.now
          c.add_dir_to.new.tree _ c.world.inside.trees.ok.0 some c.in-Some.ensures.value _
          refl _ _ _ _ _
          c.world.invariant.world c.add_dir_to.ensures.next;
      users = c.world.invariant.users;
      vars = c.world.invariant.vars;
      servers = c.world.invariant.servers;
      hidden = c.world.invariant.hidden;
      led =
          led-last g.T.Tree.state c.world.inside.trees.items c.in-Some.tree.now
          c.add_dir_to.new.tree _ c.world.inside.trees.ok.0 some c.in-Some.ensures.value _
          refl c.add_dir_to.new.last_dir c.add_dir_to.ensures.led;
    }

pub returns : goal.returns
returns g c =
    let some : 0 < length c.world.inside.trees.items =
    omega (arith, c.in-Some.ensures.variant.0 refl, c.world.inside.trees.ok.0) in
    rw (← c.world.view_is)
    (Makes-last g.T.Tree.state c.world.inside.trees.items c.in-Some.tree.now
    c.add_dir_to.new.tree _ c.world.inside.trees.ok.0 some c.in-Some.ensures.value _
    refl _ _ _ _ _
    (dir_line c.args.words.path.now c.args.words.mode.now c.args.words.uid.now c.args.words.gid.now)
    c.add_dir_to.result c.add_dir_to.ensures.made)

pub add_dir_to-requires : goal.add_dir_to-requires
add_dir_to-requires g c =
    let some : 0 < length c.world.inside.trees.items =
    omega (arith, c.in-Some.ensures.variant.0 refl, c.world.inside.trees.ok.0) in
    subst (λ s. IsWhereNamesLead c.world.inside.last_dir s)
    (state-last g.T.Tree.state c.world.inside.trees.items c.in-Some.tree.now c.in-Some.tree.now _
    c.world.inside.trees.ok.0 some c.in-Some.ensures.value _ refl)
    c.world.invariant.led

pub invariant_of-world : goal.invariant_of-world
invariant_of-world g c = c.world.invariant

pub returns-in_default : goal.returns-in_default
returns-in_default g c =
    let none : length c.args.world.now.forest ≡ 0 =
    sym (ap (λ (w : World). length w.forest) c.world.view_is)
    ∙ length-map c.world.inside.trees.items g.T.Tree.state ∙ sym c.world.inside.trees.ok.0
    ∙ none-counted c.world.inside.trees.len c.in_default.ensures.variant.1 in (
      no-last_server (dir_line c.args.words.path.now c.args.words.mode.now c.args.words.uid.now c.args.words.gid.now)
          c.args.world.now none,
      c.world.view_is,
    )
