use Rattle.p9_index.proofs.Left.{IsIndex-left, at_number, state-left, well-left}
use Rattle.p9_index.proofs.Standing.{stands-entry, stands-nowhere}
use Rattle.p9_index.proofs.tree.IndexTreeTree.drop_leaf.Goals as goal

pub invariant_of-self : goal.invariant_of-self
invariant_of-self g c =
    let t = c.args.self.now in
    let stands = stands-entry c.in-Some.node c.in-Some-entry.left c.in-Some-entry.ensures in
    record {
      well_formed =
          well-left t.nodes.entries _ t.next c.args.number t.entries c.in-Some.node t.index
          t.well_formed c.in-Some.ensures.value c.remove.ensures.entries c.requires.not_root
          c.requires.empty;
      index =
          IsIndex-left t.nodes.entries _ t.next c.args.number t.entries c.in-Some.node t.index
          t.well_formed c.in-Some.ensures.value c.remove.ensures.entries c.take_out.new.self
          c.in-Some-entry.left stands.0 stands.1 c.take_out.ensures.listed
          c.take_out.ensures.named;
    }

pub returns-in-Some-entry : goal.returns-in-Some-entry
returns-in-Some-entry g c =
    let t = c.args.self.now in
    state-left t.nodes.entries _ t.next c.args.number t.index.keyed c.remove.ensures.entries

pub invariant_of-self-in_default-entry : goal.invariant_of-self-in_default-entry
invariant_of-self-in_default-entry g c =
    let t = c.args.self.now in
    let at =
    at_number t.nodes.entries _ t.next c.args.number t.entries c.in-Some.node t.index t.well_formed
    c.in-Some.ensures.value c.remove.ensures.entries in
    absurd
    (c.requires.not_root
    (t.well_formed.only_root c.args.number c.in-Some.node at
    (stands-nowhere c.in-Some.node c.in_default-entry.ensures)))

pub returns-in-Some : goal.returns-in-Some
returns-in-Some g c =
    let t = c.args.self.now in
    state-left t.nodes.entries _ t.next c.args.number t.index.keyed c.remove.ensures.entries

pub returns : goal.returns
returns g c =
    let t = c.args.self.now in
    state-left t.nodes.entries _ t.next c.args.number t.index.keyed c.remove.ensures.entries
