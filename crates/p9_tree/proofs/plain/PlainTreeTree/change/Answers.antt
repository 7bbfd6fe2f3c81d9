use Rattle.std.proofs.Common.{ap, ◌∙◌, subst, sym, inl, inr, ◌≡◌, Some}
use Rattle.std.proofs.lemmas.Result.{err_from_is_err_and}
use Rattle.p9_tree.specs.Change.{changed}
use Rattle.p9_tree.specs.Node.{Node, IsTellable}
use Rattle.p9_tree.specs.Server.{Server, node_at, with_nodes}
use Rattle.p9_tree.proofs.Lookups.{absent-changed_at, exists-position, node_at-position}
use Rattle.p9_tree.proofs.Lookups.{set-changed_at}
use Rattle.p9_tree.proofs.Changed.{WellFormed-set_apart, WellFormed-set_same, both_done}
use Rattle.p9_tree.proofs.Changed.{both_or_kept}
use Rattle.p9_tree.proofs.Renewed.{apart-changed, keeps-changed, named, sound-changed}
use Rattle.p9_tree.proofs.plain.PlainTreeTree.change.Goals as goal

pub change-requires-clause-named : goal.change-requires-clause-named
change-requires-clause-named g c =
    let s : Server = record { nodes = c.args.self.now.nodes.items; next = c.args.self.now.next } in
    named s c.args.number c.args.change.now c.index_mut.result.now c.args.self.now.well_formed
    c.requires
    (node_at-position c.args.number s.nodes _ _ (sym c.position.ensures ∙ c.in-Some.is)
    c.index_mut.ensures.value)

pub change-requires-clause-small : goal.change-requires-clause-small
change-requires-clause-small g c =
    let s : Server = record { nodes = c.args.self.now.nodes.items; next = c.args.self.now.next } in
    (c.requires c.index_mut.result.now
    (node_at-position c.args.number s.nodes _ _ (sym c.position.ensures ∙ c.in-Some.is)
    c.index_mut.ensures.value)).small

pub invariant_of-self : goal.invariant_of-self
invariant_of-self g c =
    let s : Server = record { nodes = c.args.self.now.nodes.items; next = c.args.self.now.next } in
    let n : Node = c.index_mut.result.now in
    let found : node_at c.args.number s.nodes ≡ Some n =
    node_at-position c.args.number s.nodes _ _ (sym c.position.ensures ∙ c.in-Some.is)
    c.index_mut.ensures.value in
    elim (both_or_kept c.change.result c.change.ensures.ok
    (both_done c.change.result _ _ c.change.ensures.name c.change.ensures.tellable)
    c.change.ensures.err) [
      | inl new ↦ record {
        well_formed =
            WellFormed-set_apart c.args.number (changed c.args.change.now) s _ _ _
            (sym c.position.ensures ∙ c.in-Some.is) c.index_mut.ensures.value new.0
            (keeps-changed c.args.change.now)
            (sound-changed s n c.args.change.now (c.requires n found) new.1.0
            (named s c.args.number c.args.change.now n c.args.self.now.well_formed c.requires found)
            (subst IsTellable new.0 new.1.1))
            (apart-changed s c.args.number c.args.change.now c.args.self.now.well_formed c.requires)
            c.args.self.now.well_formed;
      }
      | inr same ↦ record {
        well_formed =
            WellFormed-set_same c.args.number s _ _ _ (sym c.position.ensures ∙ c.in-Some.is)
            c.index_mut.ensures.value same c.args.self.now.well_formed;
      }
    ]

pub returns-in_ok-change-clause-ok : goal.returns-in_ok-change-clause-ok
returns-in_ok-change-clause-ok g c =
    let s : Server = record { nodes = c.args.self.now.nodes.items; next = c.args.self.now.next } in
    ap (with_nodes s)
    (set-changed_at c.args.number (changed c.args.change.now) _ _ _ _
    (sym c.position.ensures ∙ c.in-Some.is) c.index_mut.ensures.value c.in_ok-change.ensures.ok)

pub returns-in_default-clause-ok : goal.returns-in_default-clause-ok
returns-in_default-clause-ok g c =
    let s : Server = record { nodes = c.args.self.now.nodes.items; next = c.args.self.now.next } in
    ap (with_nodes s)
    (absent-changed_at c.args.number (changed c.args.change.now) _
    (sym c.position.ensures ∙ c.in_default.is))

pub returns-in_err-change-clause-there : goal.returns-in_err-change-clause-there
returns-in_err-change-clause-there g c =
    let p = err_from_is_err_and c.from_residual.result c.from_residual.ensures.1 in
    rw p.1
    (exists-position c.args.number _ _ _ (sym c.position.ensures ∙ c.in-Some.is)
    c.index_mut.ensures.value)
