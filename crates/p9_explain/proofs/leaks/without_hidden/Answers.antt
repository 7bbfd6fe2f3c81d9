use Rattle.std.proofs.Common.{◌<◌, Bool, ap, not, subst, sym, ◌∙◌}
use Rattle.std.specs.Prelude.{All, filter}
use Rattle.std.proofs.lemmas.List.Elements.{All-filter}
use Rattle.p9_base.specs.declared.node_ref.NodeRef.{NodeRef}
use Rattle.p9_base.specs.NodeRef.{same_node}
use Rattle.p9_tree.specs.Forest.{next_of}
use Rattle.p9_explain.proofs.leaks.without_hidden.Goals as goal

pub invariant_of-result : goal.invariant_of-result
invariant_of-result g c =
    let world = c.world.invariant in
    let kept : NodeRef → Bool = λ other. not (same_node other c.args.dir) in
    let below : NodeRef → Type 0 = λ r. r.number < next_of r.server c.world.inside.forest in
    record {
      named = world.named;
      few = world.few;
      distinct = world.distinct;
      below = subst (All below)
          (sym (c.in_ok-kept.ensures ∙ ap (filter kept) c.as_slice.ensures.value))
          (All-filter kept below c.world.inside.hidden.items world.below);
    }
