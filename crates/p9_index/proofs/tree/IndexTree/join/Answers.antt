use Rattle.std.proofs.Common.{◌≡◌, ◌<◌, Some, arith, subst, sym}
use Rattle.std.proofs.lemmas.Grind.{common_steps}
use Rattle.std.specs.BTreeMap.{IsUnchanged, insert_entry}
use Rattle.std.specs.Ordering.{nat_cmp}
use Rattle.p9_tree.specs.Server.{WellFormed, next_max}
use Rattle.p9_index.specs.Entries.{child_at, is_listed, number_at}
use Rattle.p9_index.specs.Tree.{IsIndex, server_of}
use Rattle.p9_index.proofs.Joined.{IsIndex-joined}
use Rattle.p9_index.proofs.Joining.{free-entry, state-joining, unlisted-number, well-joining}
use Rattle.p9_index.proofs.Joining.{well-skipped}
use Rattle.p9_index.proofs.TakenBack.{IsIndex-same, listed_back, named_back}
use Rattle.p9_index.proofs.tree.IndexTree.join.Goals as goal

pub enter-requires-clause-unnamed : goal.enter-requires-clause-unnamed
enter-requires-clause-unnamed g c =
    let t = c.args.self.now in
    free-entry t.nodes.entries t.next t.entries c.args.entry c.args.number c.args.node t.index
    t.well_formed c.requires

pub enter-requires-clause-unlisted : goal.enter-requires-clause-unlisted
enter-requires-clause-unlisted g c =
    let t = c.args.self.now in
    unlisted-number t.nodes.entries t.next t.entries c.args.entry c.args.number c.args.node t.index
    t.well_formed c.requires

pub overflow_add-self : goal.overflow_add-self
overflow_add-self g c =
    let left : c.args.number < next_max = c.requires.can_add.number_left in omega arith

pub invariant_of-self-then-is_err : goal.invariant_of-self-then-is_err
invariant_of-self-then-is_err g c =
    let t = c.args.self.now in
    let same : IsUnchanged t.nodes c.insert.new.self =
    grind (arith, common_steps, c.insert.ensures.err, c.is_err.ensures.value, c.if-is_err.true) in
    record {
      well_formed = subst (λ es. WellFormed (server_of es t.next)) (sym same) t.well_formed;
      index =
          subst
          (λ es. IsIndex es (is_listed c.take_out.new.self) (number_at c.take_out.new.self))
          (sym same)
          (IsIndex-same t.nodes.entries t.entries c.take_out.new.self (
            listed_back t.entries c.enter.new.self c.take_out.new.self
                (child_at c.args.entry.parent c.args.number) c.in_ok-enter.ensures.listed
                c.take_out.ensures.listed
                (unlisted-number t.nodes.entries t.next t.entries c.args.entry c.args.number
                c.args.node t.index t.well_formed c.requires),
            named_back t.entries.numbers c.enter.new.self.numbers c.take_out.new.self.numbers c.args.entry
                (Some c.args.number) c.in_ok-enter.ensures.named c.take_out.ensures.named
                (free-entry t.nodes.entries t.next t.entries c.args.entry c.args.number c.args.node
                t.index t.well_formed c.requires),
          ) t.index);
    }

pub invariant_of-self-2 : goal.invariant_of-self-2
invariant_of-self-2 g c =
    let t = c.args.self.now in
    let put : c.insert.new.self.entries
    ≡ insert_entry nat_cmp t.nodes.entries c.args.number c.args.node =
    grind
    (arith, common_steps, c.insert.ensures.entries, c.is_err.ensures.value, c.if-is_err.false) in
    record {
      well_formed =
          well-joining t.nodes.entries t.next t.entries c.args.entry c.args.number c.args.node
          t.index t.well_formed c.requires _ put;
      index =
          IsIndex-joined t.nodes.entries _ c.args.number t.entries c.enter.new.self c.args.entry
          c.args.node t.index
          (well-skipped t.nodes.entries t.next t.entries c.args.entry c.args.number c.args.node
          t.index t.well_formed c.requires) c.requires.own c.requires.parent c.requires.name put
          c.in_ok-enter.ensures.listed c.in_ok-enter.ensures.named
          (free-entry t.nodes.entries t.next t.entries c.args.entry c.args.number c.args.node
          t.index t.well_formed c.requires);
    }

pub returns-clause-ok : goal.returns-clause-ok
returns-clause-ok g c =
    let t = c.args.self.now in
    let put : c.insert.new.self.entries
    ≡ insert_entry nat_cmp t.nodes.entries c.args.number c.args.node =
    grind
    (arith, common_steps, c.insert.ensures.entries, c.is_err.ensures.value, c.if-is_err.false) in
    state-joining t.nodes.entries t.next t.entries c.args.entry c.args.number c.args.node t.index
    t.well_formed c.requires _ put
