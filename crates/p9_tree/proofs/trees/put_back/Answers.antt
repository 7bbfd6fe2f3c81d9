use Rattle.std.proofs.Common.{◌<◌, arith, length, refl, subst}
use Rattle.std.proofs.lemmas.Result.{err_from_is_err_and}
use Rattle.p9_tree.specs.Saved.{CanPutBack, put_back, saved_node}
use Rattle.p9_tree.specs.Server.{Server}
use Rattle.p9_tree.proofs.ForestLemmas.{map-set_same, map-tree_absent, map-tree_changed_at}
use Rattle.p9_tree.proofs.ForestLemmas.{server_at-map}
use Rattle.p9_tree.proofs.trees.put_back.Goals as goal

pub put_back-requires : goal.put_back-requires
put_back-requires g c =
    let within : c.args.server < length c.args.trees.now.items =
    omega (arith, c.in-Some.ensures.variant.0 refl, c.args.trees.now.ok.0) in
    subst (λ (s : Server). CanPutBack s (saved_node c.args.saved.now))
    (server_at-map g.T.Tree.state _ c.args.server c.in-Some.tree.now within
    c.in-Some.ensures.value) c.requires

pub returns-in_err-put_back-clause-err : goal.returns-in_err-put_back-clause-err
returns-in_err-put_back-clause-err g c =
    let within : c.args.server < length c.args.trees.now.items =
    omega (arith, c.in-Some.ensures.variant.0 refl, c.args.trees.now.ok.0) in
    let p = err_from_is_err_and c.from_residual.result c.from_residual.ensures.1 in
    rw p.1
    (map-set_same g.T.Tree.state _ c.args.server c.in-Some.tree.now c.put_back.new.self within
    c.in-Some.ensures.value c.in_err-put_back.ensures.err)

pub returns-in_ok-put_back-clause-ok : goal.returns-in_ok-put_back-clause-ok
returns-in_ok-put_back-clause-ok g c =
    let within : c.args.server < length c.args.trees.now.items =
    omega (arith, c.in-Some.ensures.variant.0 refl, c.args.trees.now.ok.0) in
    map-tree_changed_at g.T.Tree.state (put_back (saved_node c.args.saved.now)) _ c.args.server
    c.in-Some.tree.now c.put_back.new.self within c.in-Some.ensures.value
    c.in_ok-put_back.ensures.ok

pub returns-in_default-clause-ok : goal.returns-in_default-clause-ok
returns-in_default-clause-ok g c =
    map-tree_absent g.T.Tree.state (put_back (saved_node c.args.saved.now)) _ c.args.server
    (λ lt. c.in_default.ensures.variant.1 (omega (arith, lt, c.args.trees.now.ok.0)))
