use Rattle.std.proofs.Common.{◌≡◌, ◌∙◌, ◌∷◌, ◌++◌, List, sym, ap, subst}
use Rattle.std.specs.List.Sorted.{IsStrictlySortedBy}
use Rattle.p9_base.specs.declared.node_ref.NodeRef.{NodeRef}
use Rattle.p9_judge.proofs.Keys.{node_cmp, row-there, sorted-follows}
use Rattle.p9_judge.proofs.search.Search.certificate.Goals as goal

pub push-requires-clause-greater : goal.push-requires-clause-greater
push-requires-clause-greater g c =
    let all : c.loop-row.certificate ++ c.in-Some.row.now ∷ c.next.new.self
    ≡ c.args.self.now.passed.keys =
    sym (ap (λ rest. c.loop-row.certificate ++ rest) c.in-Some.ensures.steps)
    ∙ c.loop-row.invariant.2 in
    sorted-follows c.loop-row.certificate c.in-Some.row.now c.next.new.self
    (subst (λ (ks : List NodeRef). IsStrictlySortedBy node_cmp ks) (sym all)
    c.into_iter-row-iterator.ensures.into_iter_gives.4)

pub push-requires-clause-number : goal.push-requires-clause-number
push-requires-clause-number g c =
    let all : c.loop-row.certificate ++ c.in-Some.row.now ∷ c.next.new.self
    ≡ c.args.self.now.passed.keys =
    sym (ap (λ rest. c.loop-row.certificate ++ rest) c.in-Some.ensures.steps)
    ∙ c.loop-row.invariant.2 in
    c.requires c.in-Some.row.now
    (row-there c.loop-row.certificate c.in-Some.row.now c.next.new.self
    c.args.self.now.passed.keys all)
