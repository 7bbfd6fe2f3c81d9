use Rattle.std.proofs.Common.{◌∙◌, ◌<◌, arith, subst}
use Rattle.p9_tree.specs.Node.{IsTellable}
use Rattle.p9_tree.specs.Saved.{saved_node}
use Rattle.p9_tree.specs.Server.{Server, next_max}
use Rattle.p9_tree.proofs.Restored.{WellFormed-put_back, below_next_max, put_back-joined}
use Rattle.p9_tree.proofs.Restored.{put_back-root, saved-name, saved-parent}
use Rattle.p9_tree.proofs.plain.PlainTreeTree.put_back.Goals as goal

pub overflow_add-self : goal.overflow_add-self
overflow_add-self g c =
    let s : Server = record { nodes = c.args.self.now.nodes.items; next = c.args.self.now.next } in
    let below : c.args.saved.now.number < next_max =
    below_next_max s (saved_node c.args.saved.now) c.in-Some._entry.parent
    c.args.self.now.well_formed c.requires
    (saved-parent c.args.saved.now c.in-Some._entry c.in-Some.is) in
    omega arith

pub invariant_of-self-2 : goal.invariant_of-self-2
invariant_of-self-2 g c =
    let s : Server = record { nodes = c.args.self.now.nodes.items; next = c.args.self.now.next } in
    rw (c.in_ok-push.ensures.items, c.in_ok-node.ensures.node) (record {
      well_formed =
          WellFormed-put_back s (saved_node c.args.saved.now) c.in-Some._entry.parent
          c.args.self.now.well_formed c.requires
          (saved-parent c.args.saved.now c.in-Some._entry c.in-Some.is)
          (saved-name c.args.saved.now c.in-Some._entry c.in-Some.is c.restored.ensures.name)
          (subst IsTellable c.in_ok-node.ensures.node c.in_ok-node.ensures.tellable);
    })

pub returns-clause-ok : goal.returns-clause-ok
returns-clause-ok g c =
    let s : Server = record { nodes = c.args.self.now.nodes.items; next = c.args.self.now.next } in
    rw (c.in_ok-push.ensures.items, c.in_ok-node.ensures.node)
    (put_back-joined s (saved_node c.args.saved.now) c.in-Some._entry.parent
    c.args.self.now.well_formed c.requires
    (saved-parent c.args.saved.now c.in-Some._entry c.in-Some.is))

pub returns-in_default-clause-ok : goal.returns-in_default-clause-ok
returns-in_default-clause-ok g c =
    let s : Server = record { nodes = c.args.self.now.nodes.items; next = c.args.self.now.next } in
    c.set_root_fields.ensures ∙ put_back-root c.args.saved.now s c.in_default.is
