use Rattle.std.proofs.Common.{◌∙◌, ap, subst, sym}
use Rattle.std.specs.BTreeMap.{BTreeMap}
use Rattle.std.specs.Map.{values_of}
use Rattle.p9_tree.specs.Node.{IsTellable, with_owner}
use Rattle.p9_tree.specs.Server.{with_nodes}
use Rattle.p9_tree.proofs.Changed.{keeps-with_owner, sound-with_owner}
use Rattle.p9_index.specs.Tree.{server_of}
use Rattle.p9_index.proofs.Changed.{root_is_dir, state-changed, tree-kept}
use Rattle.p9_index.proofs.Nodes.{absent-changed, node_at-values_of}
use Rattle.p9_index.proofs.tree.IndexTreeTree.set_root.Goals as goal

pub invariant_of-self : goal.invariant_of-self
invariant_of-self g c =
    let t = c.args.self.now in
    let kept = tree-kept t.nodes.entries _ t.next 0 t.entries
    (with_owner c.args.permissions c.args.uid c.args.gid) c.in-Some.node.now _ t.index t.well_formed
    c.in-Some.ensures.value (c.get_mut.follows.holds c.set_owner.new.self).0 c.set_owner.ensures.node
    (keeps-with_owner _ _ _)
    (sound-with_owner _ _ _ _
    (root_is_dir (values_of t.nodes.entries) c.in-Some.node.now (node_at-values_of 0 t.nodes.entries t.index.keyed ∙ sym c.in-Some.ensures.value) t.well_formed.root)
    (subst IsTellable c.set_owner.ensures.node c.set_owner.ensures.tellable)) in
    record { well_formed = kept.0; index = kept.1 }

pub returns-in-Some : goal.returns-in-Some
returns-in-Some g c =
    let t = c.args.self.now in
    state-changed t.nodes.entries _ t.next 0 t.entries
    (with_owner c.args.permissions c.args.uid c.args.gid) c.in-Some.node.now _ t.index t.well_formed
    c.in-Some.ensures.value (c.get_mut.follows.holds c.set_owner.new.self).0 c.set_owner.ensures.node
    (keeps-with_owner _ _ _).in_dir

pub returns-in_default : goal.returns-in_default
returns-in_default g c =
    let t = c.args.self.now in
    ap (λ (m : BTreeMap _ _). server_of m.entries t.next) c.get_mut.follows.holds-at-none
    ∙ ap (with_nodes (server_of t.nodes.entries t.next))
    (absent-changed 0 (with_owner c.args.permissions c.args.uid c.args.gid) _ t.index.keyed
    c.in_default.ensures.value)
