use Rattle.std.proofs.Common.{◌≡◌, ◌++◌, ◌∷◌, [], true, false, not, sym, ap, map, ◌∙◌}
use Rattle.p9_world.specs.Hide.{is_hidden_by}
use Rattle.p9_world.specs.World.{World, world_view}
use Rattle.p9_world.proofs.Readers.{IsWorld-hidden, hidden-joined}
use Rattle.p9_world.proofs.Refused.{with_hidden-again, with_hidden-new}
use Rattle.p9_world.proofs.hide.add_hidden.Goals as goal

pub invariant_of-world-2 : goal.invariant_of-world-2
invariant_of-world-2 g c =
    let joined : c.push.new.self.items ≡ c.world.inside.hidden.items ++ c.args.node ∷ [] =
    rw (c.unwrap.ensures, c.reserve.ensures.items) at c.push.ensures.items in
    rw joined record {
      world = IsWorld-hidden _ c.args.node c.world.invariant.world
          (rw (← c.world.view_is) at c.requires);
      users = c.world.invariant.users;
      vars = c.world.invariant.vars;
      servers = c.world.invariant.servers;
      hidden = hidden-joined _ c.args.node _ _ c.world.invariant.hidden
          c.in_ok-insert.ensures.updates.0;
      led = c.world.invariant.led;
    }

pub returns : goal.returns
returns g c =
    let joined : c.push.new.self.items ≡ c.world.inside.hidden.items ++ c.args.node ∷ [] =
    rw (c.unwrap.ensures, c.reserve.ensures.items) at c.push.ensures.items in
    let absent : not (is_hidden_by c.world.inside.hidden.items c.args.node) ≡ true =
    sym (c.in_ok-insert.ensures.added ∙ ap not (c.world.invariant.hidden c.args.node))
    ∙ c.if-not-branch.false in
    rw (← c.world.view_is, joined)
    (with_hidden-new c.args.node
    (world_view (map g.T.Tree.state c.world.inside.trees.items) c.world.inside.users.items c.world.inside.groups
    c.world.inside.hidden.items c.world.inside.vars.items c.world.inside.servers.items) absent)

pub returns-then-not-branch : goal.returns-then-not-branch
returns-then-not-branch g c =
    let there : not (is_hidden_by c.world.inside.hidden.items c.args.node) ≡ false =
    sym (c.in_ok-insert.ensures.added ∙ ap not (c.world.invariant.hidden c.args.node))
    ∙ c.if-not-branch.true in (
      with_hidden-again c.args.node c.args.world.now
          (ap (λ (w : World). not (is_hidden_by w.hidden c.args.node)) (sym c.world.view_is) ∙ there),
      rw c.reserve.ensures.items c.world.view_is,
    )
