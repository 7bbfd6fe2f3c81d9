-- No world and mount table have both a closed certificate and a breach.
use Rattle.std.proofs.Common.{◌≡◌, List, [], ◌∷◌, Some, None, sym, ◌∙◌, subst}
use Rattle.std.specs.Str.{bytes_eq}
use Rattle.std.proofs.lemmas.Bool.{and_from, and_parts}
use Rattle.p9_base.specs.declared.node_ref.NodeRef.{NodeRef}
use Rattle.p9_base.specs.NodeRef.{beside}
use Rattle.p9_tree.specs.Node.{Node, is_child, is_dir, is_in}
use Rattle.p9_tree.specs.Server.{Server}
use Rattle.p9_tree.specs.Forest.{IsForest, node_of, server_at}
use Rattle.p9_tree.proofs.Lookups.{passes-found}
use Rattle.p9_inside.proofs.Looks.{found_node, in-parent, ordered_forest}
use Rattle.p9_space.specs.Place.{root_place}
use Rattle.p9_space.specs.Table.{MountRow, members_of}
use Rattle.p9_cert.specs.Closed.{IsClosed}
use Rattle.p9_cert.specs.Listed.{is_passable}
use Rattle.p9_cert.specs.Policy.{Policy}
use Rattle.p9_cert.specs.Safe.{IsSafe, IsSafeMember, Set}
use Rattle.p9_judge.specs.declared.breach.Step.{Step}
use Rattle.p9_judge.specs.Breach.{IsPassed, Lead, breach_kind, may_be_passed_by}
use Rattle.p9_judge.specs.Laws.{NoBreachWhereClosed}
use Rattle.p9_judge.proofs.Lists.{some_may}
use Rattle.p9_judge.proofs.Members.{member_found, safe-kind}

module _ (policy : Policy) (f : List Server) (sound : IsForest f) (table : List MountRow)
    (certified : Set) (closed : IsClosed policy f table certified) where
  -- where a step leads is safe
  next_safe : (place : NodeRef) (step : Step) (child : Node) → IsSafe policy f table certified place
      → IsPassed policy f table place step child
      → IsSafe policy f table certified (beside step.member child.number)
  unfolding is_passable
  next_safe place step child safe w =
      let m =
      member_found (IsSafeMember policy f certified) (members_of place table) safe step.member
      w.member in
      let pass =
      and_from (is_dir w.dir) _ w.is_directory
      (some_may (may_be_passed_by policy w.dir) policy.users step.user w.listed w.passes) in
      let there : node_of (beside step.member child.number) f ≡ Some child =
      found_node f (ordered_forest f sound) step.member.server
      (is_child step.member.number step.name) child w.named in
      let found =
      passes-found (is_child step.member.number step.name) (server_at step.member.server f).nodes
      child w.named in
      let in_dir : child.parent ≡ Some step.member.number =
      in-parent step.member.number child
      (and_parts (is_in step.member.number child) (bytes_eq child.name step.name) found).0 in
      closed.children step.member child.number child (m.covered w.dir w.there pass) there in_dir

  -- and so is where a way leads
  way_safe : (place : NodeRef) (steps : List Step) (last : NodeRef)
      → IsSafe policy f table certified place → Lead policy f table place steps last
      → IsSafe policy f table certified last
  way_safe place [] last safe w = subst (IsSafe policy f table certified) w safe
  way_safe place (step ∷ steps) last safe w =
      way_safe (beside step.member w.0.number) steps last (next_safe place step w.0 safe w.1) w.2

pub no_breach_where_closed : NoBreachWhereClosed
no_breach_where_closed policy f table certified steps member kind sound closed breach =
    let safe =
    way_safe policy f sound table certified closed root_place steps breach.place closed.root
    breach.way in
    let m =
    member_found (IsSafeMember policy f certified) (members_of breach.place table) safe member
    breach.member_of_place in
    let none : breach_kind policy f member ≡ None = safe-kind policy f certified member m in
    let no : None ≡ Some kind = sym none ∙ breach.fault in absurd (cc)
