use Rattle.std.proofs.Common.{◌≤◌, arith, sym, ap, ◌∙◌, subst, length, string_bytes}
use Rattle.std.proofs.lemmas.List.{length-map}
use Rattle.p9_base.specs.NodeRef.{servers_max}
use Rattle.p9_world.proofs.Worlds.{all_made}
use Rattle.p9_world.proofs.world.World.go_on_with.Goals as goal

pub invariant_of-self : goal.invariant_of-self
invariant_of-self g c =
    record {
      named = omega (arith, length-map c.self.inside.servers.items string_bytes, c.if-trees-len.false, c.len.ensures, ap length c.trees.ensures, length-map c.trees.result.now g.T.Tree.state);
      few = subst (λ f. length f ≤ servers_max) c.forest.view_is c.forest.invariant.few;
      distinct = c.self.invariant.distinct;
      below =
          let tested = sym c.are_made.ensures ∙ c.if-not-are_made.false in
          all_made c.args.forest c.self.inside.hidden.items (rw c.deref.ensures.value at tested);
    }
