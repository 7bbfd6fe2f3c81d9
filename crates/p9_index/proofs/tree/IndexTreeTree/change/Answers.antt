use Rattle.std.proofs.Common.{◌≡◌, ◌∙◌, Some, None, ap, inl, inr, refl, subst, sym}
use Rattle.std.proofs.lemmas.Result.{err_from_is_err_and}
use Rattle.std.specs.BTreeMap.{BTreeMap}
use Rattle.p9_tree.specs.Change.{changed}
use Rattle.p9_tree.specs.Node.{IsTellable, Node}
use Rattle.p9_tree.specs.Server.{with_nodes}
use Rattle.p9_tree.proofs.Changed.{both_done, both_or_kept}
use Rattle.p9_tree.proofs.Renewed.{keeps-changed}
use Rattle.p9_index.specs.Entries.{HasSame, number_at}
use Rattle.p9_index.specs.Tree.{Renames, server_of}
use Rattle.p9_index.proofs.Changed.{exists-found, index-changed, state-changed}
use Rattle.p9_index.proofs.Changed.{state-same, tree-same}
use Rattle.p9_index.proofs.Granted.{at-key, can-node, in-dir, well-made}
use Rattle.p9_index.proofs.Nodes.{absent-changed}
use Rattle.p9_index.proofs.Outcomes.{err_from, err_then, ok_from, ok_then}
use Rattle.p9_index.proofs.Renamed.{IsIndex-renamed, free-name}
use Rattle.p9_index.proofs.TakenBack.{IsIndex-same, named_back}
use Rattle.p9_tree.proofs.Lookups.{number-node_at}
use Rattle.p9_index.proofs.tree.IndexTreeTree.change.Goals as goal

pub returns-in_default-clause-ok : goal.returns-in_default-clause-ok
returns-in_default-clause-ok g c =
    let t = c.args.self.now in
    ap (λ (m : BTreeMap _ _). server_of m.entries t.next) c.get_mut.follows.holds-at-none
    ∙ ap (with_nodes (server_of t.nodes.entries t.next))
    (absent-changed c.args.number (changed c.args.change.now) _ t.index.keyed
    c.in_default.ensures.value)

pub renaming_of-requires : goal.renaming_of-requires
renaming_of-requires g c =
    let t = c.args.self.now in
    in-dir t.nodes.entries t.next c.args.number c.in-Some.node.now c.args.change.now t.index.keyed
    t.well_formed c.in-Some.ensures.value c.requires

pub change-requires-clause-named : goal.change-requires-clause-named
change-requires-clause-named g c =
    let t = c.args.self.now in
    in-dir t.nodes.entries t.next c.args.number c.in-Some.node.now c.args.change.now t.index.keyed
    t.well_formed c.in-Some.ensures.value c.requires

pub change-requires-clause-small : goal.change-requires-clause-small
change-requires-clause-small g c =
    let t = c.args.self.now in
    (can-node t.nodes.entries t.next c.args.number c.in-Some.node.now c.args.change.now
    t.index.keyed t.well_formed c.in-Some.ensures.value c.requires).small

pub invariant_of-self-in_default-renaming_of : goal.invariant_of-self-in_default-renaming_of
invariant_of-self-in_default-renaming_of g c =
    let t = c.args.self.now in
    let n : Node = c.in-Some.node.now in
    let written = (c.get_mut.follows.holds c.change.new.self).0 in
    elim (both_or_kept c.change.result c.change.ensures.ok
    (both_done c.change.result _ _ c.change.ensures.name c.change.ensures.tellable)
    c.change.ensures.err) [
      | inl new ↦ record {
        well_formed =
            well-made t.nodes.entries _ t.next c.args.number t.entries n _ c.args.change.now t.index
            t.well_formed c.in-Some.ensures.value c.requires written new.0 new.1.0
            (subst IsTellable new.0 new.1.1);
        index =
            index-changed t.nodes.entries _ t.next c.args.number t.entries
            (changed c.args.change.now) n _ t.index t.well_formed c.in-Some.ensures.value written
            new.0 (keeps-changed c.args.change.now) c.in_default-renaming_of.ensures.none;
      }
      | inr same ↦
          (let kept = tree-same t.nodes.entries _ t.next c.args.number t.entries n _
          c.in-Some.ensures.value written same t.index t.well_formed in
          record { well_formed = kept.0; index = kept.1 })
    ]

pub returns-in_default-renaming_of-clause-ok : goal.returns-in_default-renaming_of-clause-ok
returns-in_default-renaming_of-clause-ok g c =
    let t = c.args.self.now in
    ok_then c.change.result c.change.ensures.ok
    (λ new. state-changed t.nodes.entries _ t.next c.args.number t.entries
    (changed c.args.change.now) c.in-Some.node.now _ t.index t.well_formed c.in-Some.ensures.value
    (c.get_mut.follows.holds c.change.new.self).0 new (keeps-changed c.args.change.now))

pub returns-in_default-renaming_of-clause-err : goal.returns-in_default-renaming_of-clause-err
returns-in_default-renaming_of-clause-err g c =
    let t = c.args.self.now in
    err_then c.change.result c.change.ensures.err
    (λ same. state-same t.nodes.entries _ t.next c.args.number t.entries c.in-Some.node.now _
    c.in-Some.ensures.value (c.get_mut.follows.holds c.change.new.self).0 same)

pub returns-in_default-renaming_of-clause-there : goal.returns-in_default-renaming_of-clause-there
returns-in_default-renaming_of-clause-there g c =
    err_then c.change.result c.change.ensures.err
    (λ same. exists-found c.args.self.now.nodes.entries c.args.number c.in-Some.node.now
    c.args.self.now.index.keyed c.in-Some.ensures.value)

pub invariant_of-self-in-Break-1 : goal.invariant_of-self-in-Break-1
invariant_of-self-in-Break-1 g c =
    let t = c.args.self.now in
    let kept = tree-same t.nodes.entries _ t.next c.args.number t.entries c.in-Some.node.now
    c.in-Some.node.now c.in-Some.ensures.value (c.get_mut.follows.holds c.in-Some.node.now).0 refl
    t.index t.well_formed in
    record {
      well_formed = kept.0;
      index = IsIndex-same _ t.entries c.name.new.self c.in_err-name.ensures.err kept.1;
    }

pub returns-in_err-name-clause-err : goal.returns-in_err-name-clause-err
returns-in_err-name-clause-err g c =
    let t = c.args.self.now in
    let p = err_from_is_err_and c.from_residual.result c.from_residual.ensures.1 in
    rw p.1
    (state-same t.nodes.entries _ t.next c.args.number t.entries c.in-Some.node.now
    c.in-Some.node.now c.in-Some.ensures.value (c.get_mut.follows.holds c.in-Some.node.now).0 refl)

pub returns-in_err-name-clause-there : goal.returns-in_err-name-clause-there
returns-in_err-name-clause-there g c =
    let p = err_from_is_err_and c.from_residual.result c.from_residual.ensures.1 in
    rw p.1
    (exists-found c.args.self.now.nodes.entries c.args.number c.in-Some.node.now
    c.args.self.now.index.keyed c.in-Some.ensures.value)

pub change-requires-2-clause-small : goal.change-requires-2-clause-small
change-requires-2-clause-small g c =
    let t = c.args.self.now in
    (can-node t.nodes.entries t.next c.args.number c.in-Some.node.now c.args.change.now
    t.index.keyed t.well_formed c.in-Some.ensures.value c.requires).small

pub invariant_of-self-then-is_err : goal.invariant_of-self-then-is_err
invariant_of-self-then-is_err g c =
    let t = c.args.self.now in
    let n : Node = c.in-Some.node.now in
    let from = c.in-Some-renaming_of.field-0.from in
    let to = c.in-Some-renaming_of.field-0.to in
    let it : Renames from to c.args.change.now n = c.in-Some-renaming_of.ensures.some in
    let at = at-key t.nodes.entries t.next c.args.number n c.args.change.now t.index.keyed
    t.well_formed c.in-Some.ensures.value c.requires in
    let free : number_at t.entries to ≡ None =
    free-name t.nodes.entries t.next c.args.number t.entries n from to c.args.change.now t.index
    t.well_formed at (number-node_at c.args.number _ n at) it
    (c.requires n at) in
    let same : c.change-2.new.self ≡ n =
    err_from c.change-2.result c.change-2.ensures.err
    (sym c.is_err.ensures.value ∙ c.if-is_err.true) in
    let kept = tree-same t.nodes.entries _ t.next c.args.number t.entries n c.change-2.new.self
    c.in-Some.ensures.value (c.get_mut.follows.holds c.change-2.new.self).0 same t.index
    t.well_formed in
    let back : HasSame t.entries c.unname.new.self = (
      (λ q. c.unname.ensures.listed q ∙ c.in_ok-name.ensures.listed q),
      named_back t.entries.numbers c.name.new.self.numbers c.unname.new.self.numbers to (Some c.args.number)
          c.in_ok-name.ensures.named c.unname.ensures.named free,
    ) in
    record {
      well_formed = kept.0;
      index = IsIndex-same _ t.entries c.unname.new.self back kept.1;
    }

pub returns-then-is_err-clause-err : goal.returns-then-is_err-clause-err
returns-then-is_err-clause-err g c =
    let t = c.args.self.now in
    let same : c.change-2.new.self ≡ c.in-Some.node.now =
    err_from c.change-2.result c.change-2.ensures.err
    (sym c.is_err.ensures.value ∙ c.if-is_err.true) in
    state-same t.nodes.entries _ t.next c.args.number t.entries c.in-Some.node.now
    c.change-2.new.self c.in-Some.ensures.value (c.get_mut.follows.holds c.change-2.new.self).0 same

pub returns-then-is_err-clause-there : goal.returns-then-is_err-clause-there
returns-then-is_err-clause-there g c =
    exists-found c.args.self.now.nodes.entries c.args.number c.in-Some.node.now
    c.args.self.now.index.keyed c.in-Some.ensures.value

pub invariant_of-self-2 : goal.invariant_of-self-2
invariant_of-self-2 g c =
    let t = c.args.self.now in
    let n : Node = c.in-Some.node.now in
    let from = c.in-Some-renaming_of.field-0.from in
    let to = c.in-Some-renaming_of.field-0.to in
    let it : Renames from to c.args.change.now n = c.in-Some-renaming_of.ensures.some in
    let at = at-key t.nodes.entries t.next c.args.number n c.args.change.now t.index.keyed
    t.well_formed c.in-Some.ensures.value c.requires in
    let free : number_at t.entries to ≡ None =
    free-name t.nodes.entries t.next c.args.number t.entries n from to c.args.change.now t.index
    t.well_formed at (number-node_at c.args.number _ n at) it
    (c.requires n at) in
    let written = (c.get_mut.follows.holds c.change-2.new.self).0 in
    let no_err = sym c.is_err.ensures.value ∙ c.if-is_err.false in
    let new : c.change-2.new.self ≡ changed c.args.change.now n =
    ok_from c.change-2.result c.change-2.ensures.ok no_err in
    record {
      well_formed =
          well-made t.nodes.entries _ t.next c.args.number t.entries n c.change-2.new.self
          c.args.change.now t.index t.well_formed c.in-Some.ensures.value c.requires written new
          (ok_from c.change-2.result c.change-2.ensures.name no_err)
          (subst IsTellable new (ok_from c.change-2.result c.change-2.ensures.tellable no_err));
      index =
          IsIndex-renamed t.nodes.entries _ t.next c.args.number t.entries c.name.new.self
          c.unname-2.new.self n c.change-2.new.self from to c.args.change.now t.index t.well_formed
          c.in-Some.ensures.value written new it free
          c.in_ok-name.ensures.listed c.in_ok-name.ensures.named c.unname-2.ensures.listed
          c.unname-2.ensures.named;
    }

pub returns-clause-ok : goal.returns-clause-ok
returns-clause-ok g c =
    let t = c.args.self.now in
    let new : c.change-2.new.self ≡ changed c.args.change.now c.in-Some.node.now =
    ok_from c.change-2.result c.change-2.ensures.ok
    (sym c.is_err.ensures.value ∙ c.if-is_err.false) in
    state-changed t.nodes.entries _ t.next c.args.number t.entries (changed c.args.change.now)
    c.in-Some.node.now c.change-2.new.self t.index t.well_formed c.in-Some.ensures.value
    (c.get_mut.follows.holds c.change-2.new.self).0 new (keeps-changed c.args.change.now)
