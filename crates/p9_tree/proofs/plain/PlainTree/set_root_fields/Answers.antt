use Rattle.std.proofs.Common.{ap, ◌∙◌, subst, sym}
use Rattle.p9_tree.specs.Node.{IsTellable}
use Rattle.p9_tree.specs.Saved.{saved_node, with_fields}
use Rattle.p9_tree.specs.Server.{Server, with_nodes}
use Rattle.p9_tree.proofs.Lookups.{absent-changed_at, set-changed_at}
use Rattle.p9_tree.proofs.Changed.{WellFormed-set, keeps-with_fields, sound-with_fields}
use Rattle.p9_tree.proofs.plain.PlainTree.set_root_fields.Goals as goal

pub invariant_of-self : goal.invariant_of-self
invariant_of-self g c =
    let s : Server = record { nodes = c.args.self.now.nodes.items; next = c.args.self.now.next } in
    record {
      well_formed =
          WellFormed-set 0 (with_fields (saved_node c.args.saved.now)) s _ _ _
          (sym c.position.ensures ∙ c.in-Some.is) c.index_mut.ensures.value c.set_fields.ensures.node
          (keeps-with_fields (saved_node c.args.saved.now))
          (sound-with_fields (saved_node c.args.saved.now) c.index_mut.result.now (subst IsTellable c.set_fields.ensures.node c.set_fields.ensures.tellable))
          c.args.self.now.well_formed;
    }

pub returns : goal.returns
returns g c =
    let s : Server = record { nodes = c.args.self.now.nodes.items; next = c.args.self.now.next } in
    ap (with_nodes s)
    (set-changed_at 0 (with_fields (saved_node c.args.saved.now)) _ _ _ _
    (sym c.position.ensures ∙ c.in-Some.is) c.index_mut.ensures.value c.set_fields.ensures.node)

pub returns-in_default : goal.returns-in_default
returns-in_default g c =
    let s : Server = record { nodes = c.args.self.now.nodes.items; next = c.args.self.now.next } in
    ap (with_nodes s)
    (absent-changed_at 0 (with_fields (saved_node c.args.saved.now)) _
    (sym c.position.ensures ∙ c.in_default.is))
