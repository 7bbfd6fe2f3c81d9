use Rattle.std.proofs.Common.{ap, ◌∙◌, sym}
use Rattle.p9_tree.specs.Bytes.{cut_to}
use Rattle.p9_tree.specs.Node.{with_bytes}
use Rattle.p9_tree.specs.Server.{Server, with_nodes}
use Rattle.p9_tree.proofs.Lookups.{absent-changed_at, set-changed_at}
use Rattle.p9_tree.proofs.Changed.{WellFormed-set, keeps-with_bytes, sound-cut_to}
use Rattle.p9_tree.proofs.plain.PlainTreeTree.cut.Goals as goal

pub invariant_of-self : goal.invariant_of-self
invariant_of-self g c =
    let s : Server = record { nodes = c.args.self.now.nodes.items; next = c.args.self.now.next } in
    record {
      well_formed =
          WellFormed-set c.args.number (with_bytes (cut_to c.args.size)) s _ _ _
          (sym c.position.ensures ∙ c.in-Some.is) c.index_mut.ensures.value c.cut.ensures
          (keeps-with_bytes _) (sound-cut_to c.args.size _) c.args.self.now.well_formed;
    }

pub returns-in-Some : goal.returns-in-Some
returns-in-Some g c =
    let s : Server = record { nodes = c.args.self.now.nodes.items; next = c.args.self.now.next } in
    ap (with_nodes s)
    (set-changed_at c.args.number (with_bytes (cut_to c.args.size)) _ _ _ _
    (sym c.position.ensures ∙ c.in-Some.is) c.index_mut.ensures.value c.cut.ensures)

pub returns-in_default : goal.returns-in_default
returns-in_default g c =
    let s : Server = record { nodes = c.args.self.now.nodes.items; next = c.args.self.now.next } in
    ap (with_nodes s)
    (absent-changed_at c.args.number (with_bytes (cut_to c.args.size)) _
    (sym c.position.ensures ∙ c.in_default.is))
