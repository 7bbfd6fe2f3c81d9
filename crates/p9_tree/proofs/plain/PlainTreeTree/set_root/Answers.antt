use Rattle.std.proofs.Common.{ap, ◌∙◌, subst, sym}
use Rattle.p9_tree.specs.Node.{IsTellable, with_owner}
use Rattle.p9_tree.specs.Server.{Server, with_nodes}
use Rattle.p9_tree.proofs.Lookups.{absent-changed_at, set-changed_at}
use Rattle.p9_tree.proofs.Changed.{WellFormed-set, keeps-with_owner, root_is_dir, sound-with_owner}
use Rattle.p9_tree.proofs.plain.PlainTreeTree.set_root.Goals as goal

pub invariant_of-self : goal.invariant_of-self
invariant_of-self g c =
    let s : Server = record { nodes = c.args.self.now.nodes.items; next = c.args.self.now.next } in
    record {
      well_formed =
          WellFormed-set 0 (with_owner c.args.permissions c.args.uid c.args.gid) s _ _ _
          (sym c.position.ensures ∙ c.in-Some.is) c.index_mut.ensures.value c.set_owner.ensures.node
          (keeps-with_owner _ _ _)
          (sound-with_owner _ _ _ _
          (root_is_dir s _ _ c.args.self.now.well_formed (sym c.position.ensures ∙ c.in-Some.is)
          c.index_mut.ensures.value) (subst IsTellable c.set_owner.ensures.node c.set_owner.ensures.tellable))
          c.args.self.now.well_formed;
    }

pub returns-in-Some : goal.returns-in-Some
returns-in-Some g c =
    let s : Server = record { nodes = c.args.self.now.nodes.items; next = c.args.self.now.next } in
    ap (with_nodes s)
    (set-changed_at 0 (with_owner c.args.permissions c.args.uid c.args.gid) _ _ _ _
    (sym c.position.ensures ∙ c.in-Some.is) c.index_mut.ensures.value c.set_owner.ensures.node)

pub returns-in_default : goal.returns-in_default
returns-in_default g c =
    let s : Server = record { nodes = c.args.self.now.nodes.items; next = c.args.self.now.next } in
    ap (with_nodes s)
    (absent-changed_at 0 (with_owner c.args.permissions c.args.uid c.args.gid) _
    (sym c.position.ensures ∙ c.in_default.is))
