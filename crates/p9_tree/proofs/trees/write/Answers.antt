use Rattle.std.proofs.Common.{◌<◌, arith, length, refl}
use Rattle.std.proofs.lemmas.Result.{err_from_is_err_and}
use Rattle.p9_tree.specs.Bytes.{overwritten}
use Rattle.p9_tree.specs.Node.{with_bytes}
use Rattle.p9_tree.specs.Server.{with_changed}
use Rattle.p9_tree.proofs.ForestLemmas.{map-set_same, map-tree_absent, map-tree_changed_at}
use Rattle.p9_tree.proofs.ForestLemmas.{server_at-map}
use Rattle.p9_tree.proofs.trees.write.Goals as goal

pub returns-in_err-write-clause-err : goal.returns-in_err-write-clause-err
returns-in_err-write-clause-err g c =
    let within : c.args.at.server < length c.args.trees.now.items =
    omega (arith, c.in-Some.ensures.variant.0 refl, c.args.trees.now.ok.0) in
    let p = err_from_is_err_and c.from_residual.result c.from_residual.ensures.1 in
    rw p.1
    (map-set_same g.T.Tree.state _ c.args.at.server c.in-Some.tree.now c.write.new.self within
    c.in-Some.ensures.value c.in_err-write.ensures.err)

pub returns-in_err-write-clause-there : goal.returns-in_err-write-clause-there
returns-in_err-write-clause-there g c =
    let within : c.args.at.server < length c.args.trees.now.items =
    omega (arith, c.in-Some.ensures.variant.0 refl, c.args.trees.now.ok.0) in
    let p = err_from_is_err_and c.from_residual.result c.from_residual.ensures.1 in
    rw (
      p.1,
      server_at-map g.T.Tree.state _ c.args.at.server c.in-Some.tree.now within
          c.in-Some.ensures.value,
    ) c.in_err-write.ensures.there

pub returns-in_ok-write-clause-ok : goal.returns-in_ok-write-clause-ok
returns-in_ok-write-clause-ok g c =
    let within : c.args.at.server < length c.args.trees.now.items =
    omega (arith, c.in-Some.ensures.variant.0 refl, c.args.trees.now.ok.0) in
    map-tree_changed_at g.T.Tree.state (with_changed c.args.at.number (with_bytes (overwritten c.args.offset c.args.bytes.now))) _ c.args.at.server
    c.in-Some.tree.now c.write.new.self within c.in-Some.ensures.value c.in_ok-write.ensures.ok

pub returns-in_default-clause-ok : goal.returns-in_default-clause-ok
returns-in_default-clause-ok g c =
    map-tree_absent g.T.Tree.state (with_changed c.args.at.number (with_bytes (overwritten c.args.offset c.args.bytes.now))) _ c.args.at.server
    (λ lt. c.in_default.ensures.variant.1 (omega (arith, lt, c.args.trees.now.ok.0)))
