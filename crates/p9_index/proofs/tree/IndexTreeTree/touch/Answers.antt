use Rattle.std.proofs.Common.{◌∙◌, ap, subst}
use Rattle.std.specs.BTreeMap.{BTreeMap}
use Rattle.p9_tree.specs.Node.{IsTellable, touched}
use Rattle.p9_tree.specs.Server.{with_nodes}
use Rattle.p9_tree.proofs.Changed.{keeps-touched, sound-touched}
use Rattle.p9_index.specs.Tree.{server_of}
use Rattle.p9_index.proofs.Changed.{state-changed, tree-kept}
use Rattle.p9_index.proofs.Nodes.{absent-changed}
use Rattle.p9_index.proofs.tree.IndexTreeTree.touch.Goals as goal

pub invariant_of-self : goal.invariant_of-self
invariant_of-self g c =
    let t = c.args.self.now in
    let kept = tree-kept t.nodes.entries _ t.next c.args.number t.entries
    (touched c.args.clock) c.in-Some.node.now _ t.index t.well_formed
    c.in-Some.ensures.value (c.get_mut.follows.holds c.touch.new.self).0 c.touch.ensures.node
    (keeps-touched _)
    (sound-touched _ _ (subst IsTellable c.touch.ensures.node c.touch.ensures.tellable)) in
    record { well_formed = kept.0; index = kept.1 }

pub returns-in-Some : goal.returns-in-Some
returns-in-Some g c =
    let t = c.args.self.now in
    state-changed t.nodes.entries _ t.next c.args.number t.entries
    (touched c.args.clock) c.in-Some.node.now _ t.index t.well_formed
    c.in-Some.ensures.value (c.get_mut.follows.holds c.touch.new.self).0 c.touch.ensures.node
    (keeps-touched _).in_dir

pub returns-in_default : goal.returns-in_default
returns-in_default g c =
    let t = c.args.self.now in
    ap (λ (m : BTreeMap _ _). server_of m.entries t.next) c.get_mut.follows.holds-at-none
    ∙ ap (with_nodes (server_of t.nodes.entries t.next))
    (absent-changed c.args.number (touched c.args.clock) _ t.index.keyed
    c.in_default.ensures.value)
