use Rattle.std.proofs.Common.{◌∙◌, ap, subst}
use Rattle.std.specs.BTreeMap.{BTreeMap}
use Rattle.p9_tree.specs.Node.{IsTellable}
use Rattle.p9_tree.specs.Saved.{saved_node, with_fields}
use Rattle.p9_tree.specs.Server.{with_nodes}
use Rattle.p9_tree.proofs.Changed.{keeps-with_fields, sound-with_fields}
use Rattle.p9_index.specs.Tree.{server_of}
use Rattle.p9_index.proofs.Changed.{state-changed, tree-kept}
use Rattle.p9_index.proofs.Nodes.{absent-changed}
use Rattle.p9_index.proofs.tree.IndexTree.set_root_fields.Goals as goal

pub invariant_of-self-2 : goal.invariant_of-self-2
invariant_of-self-2 g c =
    let t = c.args.self.now in
    let kept = tree-kept t.nodes.entries _ t.next 0 t.entries
    (with_fields (saved_node c.args.saved.now)) c.in-Some.node.now _ t.index t.well_formed
    c.in-Some.ensures.value (c.get_mut.follows.holds c.set_fields.new.self).0 c.set_fields.ensures.node
    (keeps-with_fields (saved_node c.args.saved.now))
    (sound-with_fields (saved_node c.args.saved.now) c.in-Some.node.now (subst IsTellable c.set_fields.ensures.node c.set_fields.ensures.tellable)) in
    record { well_formed = kept.0; index = kept.1 }

pub returns : goal.returns
returns g c =
    let t = c.args.self.now in
    state-changed t.nodes.entries _ t.next 0 t.entries
    (with_fields (saved_node c.args.saved.now)) c.in-Some.node.now _ t.index t.well_formed
    c.in-Some.ensures.value (c.get_mut.follows.holds c.set_fields.new.self).0 c.set_fields.ensures.node
    (keeps-with_fields (saved_node c.args.saved.now)).in_dir

pub returns-in_default : goal.returns-in_default
returns-in_default g c =
    let t = c.args.self.now in
    ap (λ (m : BTreeMap _ _). server_of m.entries t.next) c.get_mut.follows.holds-at-none
    ∙ ap (with_nodes (server_of t.nodes.entries t.next))
    (absent-changed 0 (with_fields (saved_node c.args.saved.now)) _ t.index.keyed
    c.in_default.ensures.value)
