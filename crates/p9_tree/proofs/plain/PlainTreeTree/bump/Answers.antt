use Rattle.std.proofs.Common.{ap, ◌∙◌, subst, sym}
use Rattle.p9_tree.specs.Node.{IsTellable, marked}
use Rattle.p9_tree.specs.Server.{Server, with_nodes}
use Rattle.p9_tree.proofs.Lookups.{absent-changed_at, set-changed_at}
use Rattle.p9_tree.proofs.Changed.{WellFormed-set, keeps-marked, sound-marked}
use Rattle.p9_tree.proofs.plain.PlainTreeTree.bump.Goals as goal

pub invariant_of-self : goal.invariant_of-self
invariant_of-self g c =
    let s : Server = record { nodes = c.args.self.now.nodes.items; next = c.args.self.now.next } in
    record {
      well_formed =
          WellFormed-set c.args.number (marked c.args.user c.args.clock) s _ _ _
          (sym c.position.ensures ∙ c.in-Some.is) c.index_mut.ensures.value c.mark.ensures.node
          (keeps-marked _ _)
          (sound-marked _ _ _ (subst IsTellable c.mark.ensures.node c.mark.ensures.tellable))
          c.args.self.now.well_formed;
    }

pub returns-in-Some : goal.returns-in-Some
returns-in-Some g c =
    let s : Server = record { nodes = c.args.self.now.nodes.items; next = c.args.self.now.next } in
    ap (with_nodes s)
    (set-changed_at c.args.number (marked c.args.user c.args.clock) _ _ _ _
    (sym c.position.ensures ∙ c.in-Some.is) c.index_mut.ensures.value c.mark.ensures.node)

pub returns-in_default : goal.returns-in_default
returns-in_default g c =
    let s : Server = record { nodes = c.args.self.now.nodes.items; next = c.args.self.now.next } in
    ap (with_nodes s)
    (absent-changed_at c.args.number (marked c.args.user c.args.clock) _
    (sym c.position.ensures ∙ c.in_default.is))
