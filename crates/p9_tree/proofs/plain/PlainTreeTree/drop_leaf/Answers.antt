use Rattle.std.proofs.Common.{ap, ◌∙◌, sym}
use Rattle.p9_tree.specs.Server.{Server, with_nodes}
use Rattle.p9_tree.proofs.Lookups.{absent-dropped_at, remove-dropped_at}
use Rattle.p9_tree.proofs.Dropped.{WellFormed-remove}
use Rattle.p9_tree.proofs.plain.PlainTreeTree.drop_leaf.Goals as goal

pub invariant_of-self : goal.invariant_of-self
invariant_of-self g c =
    let s : Server = record { nodes = c.args.self.now.nodes.items; next = c.args.self.now.next } in
    record {
      well_formed =
          rw c.remove.ensures.items
          (WellFormed-remove s c.args.number c.in-Some.at c.args.self.now.well_formed
          (sym c.position.ensures ∙ c.in-Some.is) c.requires.not_root c.requires.empty);
    }

pub returns-in-Some : goal.returns-in-Some
returns-in-Some g c =
    let s : Server = record { nodes = c.args.self.now.nodes.items; next = c.args.self.now.next } in
    ap (with_nodes s)
    (remove-dropped_at c.args.number s.nodes c.remove.new.self.items c.in-Some.at
    (sym c.position.ensures ∙ c.in-Some.is) c.remove.ensures.items)

pub returns-in_default : goal.returns-in_default
returns-in_default g c =
    let s : Server = record { nodes = c.args.self.now.nodes.items; next = c.args.self.now.next } in
    ap (with_nodes s) (absent-dropped_at c.args.number _ (sym c.position.ensures ∙ c.in_default.is))
