use Rattle.std.proofs.Common.{◌≡◌, ◌∙◌, ◌++◌, Bool, true, false, ◌&&◌, ◌||◌, Some, refl, sym, ap}
use Rattle.std.proofs.Common.{subst}
use Rattle.std.specs.Prelude.{is_some, not}
use Rattle.p9_base.specs.declared.node_ref.NodeRef.{NodeRef}
use Rattle.p9_base.specs.NodeRef.{same_node}
use Rattle.p9_tree.specs.Forest.{node_of}
use Rattle.p9_world.specs.World.{World}
use Rattle.p9_cert.specs.Policy.{policy_of}
use Rattle.p9_cert.specs.Rows.{is_row}
use Rattle.p9_judge.specs.Search.{child_places}
use Rattle.p9_judge.proofs.Discovered.{discovered-again, discovered-new, discovered-none}
use Rattle.p9_judge.proofs.Discovered.{passer-none, passer-some}
use Rattle.p9_judge.proofs.Keys.{has-row, row-inserted}
use Rattle.p9_judge.proofs.search.Search.pass_member.Goals as goal

was_new : (b : Bool) → true ≡ not b → b ≡ false
was_new true e = e
was_new false e = refl

was_there : (b : Bool) → false ≡ not b → b ≡ true
was_there true e = refl
was_there false e = e

pub returns-in_ok-discover_children-clause-places :
    goal.returns-in_ok-discover_children-clause-places
returns-in_ok-discover_children-clause-places g c =
    let world = c.args.world.now in
    let policy = policy_of world in
    let node =
    subst (λ (w : World). Some c.in-Some.node.now ≡ node_of c.args.member w.forest) c.world.view_is
    c.in-Some.ensures in
    let passer =
    passer-some policy world.forest c.args.member c.in-Some.node.now node
    (sym c.may_pass.ensures ∙ c.if-not-may_pass.false) in
    let row : is_row c.args.self.now.passed.keys c.args.member ≡ false =
    sym (has-row c.args.self.now.passed.keys c.args.member)
    ∙ was_new _ (sym c.if-branch.true ∙ c.in_ok-insert.ensures.added) in
    discovered-new policy world.forest c.args.from c.args.self.now.passed.keys c.args.member
    passer.0 passer.1 c.args.self.now.places.items
    c.discover_children.new.self.places.items row
    (subst (λ (w : World). c.discover_children.new.self.places.items
    ≡ c.args.self.now.places.items
    ++ child_places w.forest c.args.from c.args.member)
    c.world.view_is c.in_ok-discover_children.ensures.places)

pub returns-in_ok-discover_children-clause-passed :
    goal.returns-in_ok-discover_children-clause-passed
returns-in_ok-discover_children-clause-passed g c =
    let world = c.args.world.now in
    let policy = policy_of world in
    let old = c.args.self.now.passed.keys in
    let node =
    subst (λ (w : World). Some c.in-Some.node.now ≡ node_of c.args.member w.forest) c.world.view_is
    c.in-Some.ensures in
    let passer =
    passer-some policy world.forest c.args.member c.in-Some.node.now node
    (sym c.may_pass.ensures ∙ c.if-not-may_pass.false) in
    λ (at : NodeRef). ap (λ ks. is_row ks at) c.in_ok-discover_children.ensures.passed
    ∙ row-inserted old c.insert.new.self.keys c.args.member c.in_ok-insert.ensures.updates.0 at
    ∙ sym (ap (λ o. is_row old at || (is_some o && same_node c.args.member at)) passer.1)

pub returns-else-branch-clause-places : goal.returns-else-branch-clause-places
returns-else-branch-clause-places g c =
    let world = c.args.world.now in
    let policy = policy_of world in
    let node =
    subst (λ (w : World). Some c.in-Some.node.now ≡ node_of c.args.member w.forest) c.world.view_is
    c.in-Some.ensures in
    let passer =
    passer-some policy world.forest c.args.member c.in-Some.node.now node
    (sym c.may_pass.ensures ∙ c.if-not-may_pass.false) in
    let row : is_row c.args.self.now.passed.keys c.args.member ≡ true =
    sym (has-row c.args.self.now.passed.keys c.args.member)
    ∙ was_there _ (sym c.if-branch.false ∙ c.in_ok-insert.ensures.added) in
    discovered-again policy world.forest c.args.from c.args.self.now.passed.keys c.args.member
    passer.0 passer.1 c.args.self.now.places.items row

pub returns-then-not-may_pass-clause-places : goal.returns-then-not-may_pass-clause-places
returns-then-not-may_pass-clause-places g c =
    let world = c.args.world.now in
    let policy = policy_of world in
    let places = c.args.self.now.places.items in
    let node =
    subst (λ (w : World). Some c.in-Some.node.now ≡ node_of c.args.member w.forest) c.world.view_is
    c.in-Some.ensures in
    discovered-none policy world.forest c.args.from c.args.self.now.passed.keys c.args.member places
    (passer-none policy world.forest c.args.member c.in-Some.node.now node
    (sym c.may_pass.ensures ∙ c.if-not-may_pass.true))

pub returns-then-not-may_pass-clause-passed : goal.returns-then-not-may_pass-clause-passed
returns-then-not-may_pass-clause-passed g c =
    let world = c.args.world.now in
    let policy = policy_of world in
    let node =
    subst (λ (w : World). Some c.in-Some.node.now ≡ node_of c.args.member w.forest) c.world.view_is
    c.in-Some.ensures in
    let none =
    passer-none policy world.forest c.args.member c.in-Some.node.now node
    (sym c.may_pass.ensures ∙ c.if-not-may_pass.true) in
    λ (at : NodeRef). same (is_row c.args.self.now.passed.keys at)
    ∙ sym (ap (λ o. is_row c.args.self.now.passed.keys at
    || (is_some o && same_node c.args.member at)) none)
  where
    same : (b : Bool) → b ≡ (b || false)
    same true = refl
    same false = refl
