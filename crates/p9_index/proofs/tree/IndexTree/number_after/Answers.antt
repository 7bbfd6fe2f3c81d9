use Rattle.std.proofs.Common.{◌≡◌, Some, None, refl, subst}
use Rattle.std.specs.Option.{IfNone, IfSome, option_map}
use Rattle.std.specs.BTreeMap.{values}
use Rattle.p9_tree.specs.Node.{Node}
use Rattle.p9_tree.specs.Server.{child_after}
use Rattle.p9_index.specs.Entries.{IsLeast, IsNoneAbove}
use Rattle.p9_index.proofs.Numbers.{least_child, no_child}
use Rattle.p9_index.proofs.tree.IndexTree.number_after.Goals as goal

pub returns : goal.returns
returns g c =
    let t = c.args.self.now in
    elim c.number_after.result as
    (λ o. c.number_after.result ≡ o
    → o ≡ option_map (λ (n : Node). n.number) (child_after c.args.dir c.args.floor (values t.nodes))) [
      | Some k ↦ λ is. least_child t.nodes.entries t.entries t.index t.well_formed.rising c.args.dir
          c.args.floor k
          (subst (λ o. IfSome o (λ j. IsLeast c.args.dir c.args.floor j t.entries)) is
          c.number_after.ensures.some)
      | None ↦ λ is. no_child t.nodes.entries t.entries t.index t.well_formed.rising c.args.dir
          c.args.floor (subst (λ o. IfNone o (IsNoneAbove c.args.dir c.args.floor t.entries)) is
          c.number_after.ensures.none)
    ] refl
