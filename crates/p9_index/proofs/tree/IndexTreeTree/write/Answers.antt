use Rattle.std.proofs.Common.{◌∙◌, ap, inl, inr, sym}
use Rattle.std.specs.BTreeMap.{BTreeMap}
use Rattle.std.proofs.lemmas.Result.{err_from_is_err_and}
use Rattle.p9_tree.specs.Bytes.{overwritten}
use Rattle.p9_tree.specs.Node.{with_bytes}
use Rattle.p9_tree.specs.Server.{with_nodes}
use Rattle.p9_tree.proofs.Changed.{done_or_kept, keeps-with_bytes}
use Rattle.p9_index.specs.Tree.{server_of}
use Rattle.p9_index.proofs.Changed.{exists-found, sound-written, state-changed, state-same}
use Rattle.p9_index.proofs.Changed.{tree-kept, tree-same}
use Rattle.p9_index.proofs.Nodes.{absent-changed, node_at-values_of}
use Rattle.p9_index.proofs.tree.IndexTreeTree.write.Goals as goal

pub invariant_of-self : goal.invariant_of-self
invariant_of-self g c =
    let t = c.args.self.now in
    let written = (c.get_mut.follows.holds c.write.new.self).0 in
    elim (done_or_kept c.write.result c.write.ensures.ok c.write.ensures.err) [
      | inl new ↦
          (let kept = tree-kept t.nodes.entries _ t.next c.args.number t.entries
          (with_bytes (overwritten c.args.offset c.args.bytes.now)) c.in-Some.node.now _ t.index
          t.well_formed c.in-Some.ensures.value written new (keeps-with_bytes _)
          (sound-written c.args.offset c.args.bytes.now _ c.args.number _
          (node_at-values_of c.args.number _ t.index.keyed ∙ sym c.in-Some.ensures.value)
          c.requires.file c.requires.fits) in
          record { well_formed = kept.0; index = kept.1 })
      | inr same ↦
          (let kept = tree-same t.nodes.entries _ t.next c.args.number t.entries
          c.in-Some.node.now _ c.in-Some.ensures.value written same t.index t.well_formed in
          record { well_formed = kept.0; index = kept.1 })
    ]

pub returns-in_ok-write-clause-ok : goal.returns-in_ok-write-clause-ok
returns-in_ok-write-clause-ok g c =
    let t = c.args.self.now in
    state-changed t.nodes.entries _ t.next c.args.number t.entries
    (with_bytes (overwritten c.args.offset c.args.bytes.now)) c.in-Some.node.now _ t.index
    t.well_formed c.in-Some.ensures.value (c.get_mut.follows.holds c.write.new.self).0
    c.in_ok-write.ensures.ok (keeps-with_bytes _).in_dir

pub returns-in_default-clause-ok : goal.returns-in_default-clause-ok
returns-in_default-clause-ok g c =
    let t = c.args.self.now in
    ap (λ (m : BTreeMap _ _). server_of m.entries t.next) c.get_mut.follows.holds-at-none
    ∙ ap (with_nodes (server_of t.nodes.entries t.next))
    (absent-changed c.args.number (with_bytes (overwritten c.args.offset c.args.bytes.now)) _
    t.index.keyed c.in_default.ensures.value)

pub returns-in_err-write-clause-err : goal.returns-in_err-write-clause-err
returns-in_err-write-clause-err g c =
    let t = c.args.self.now in
    let p = err_from_is_err_and c.from_residual.result c.from_residual.ensures.1 in
    rw p.1
    (state-same t.nodes.entries _ t.next c.args.number t.entries c.in-Some.node.now _
    c.in-Some.ensures.value (c.get_mut.follows.holds c.write.new.self).0
    c.in_err-write.ensures.err)

pub returns-in_err-write-clause-there : goal.returns-in_err-write-clause-there
returns-in_err-write-clause-there g c =
    let p = err_from_is_err_and c.from_residual.result c.from_residual.ensures.1 in
    rw p.1
    (exists-found c.args.self.now.nodes.entries c.args.number c.in-Some.node.now
    c.args.self.now.index.keyed c.in-Some.ensures.value)
