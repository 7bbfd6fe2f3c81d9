use Rattle.std.proofs.Common.{◌≡◌, ◌<◌, length, map, sym, ap, ◌∙◌}
use Rattle.std.proofs.lemmas.Result.{err_from_is_err_and}
use Rattle.p9_tree.specs.New.{new_node}
use Rattle.p9_tree.specs.Server.{Server, added}
use Rattle.p9_tree.specs.Forest.{server_at}
use Rattle.p9_tree.proofs.ForestLemmas.{map-set_same, map-tree_changed_at, server_at-map}
use Rattle.p9_tree.proofs.ForestLemmas.{server_within}
use Rattle.p9_tree.proofs.trees.add.Goals as goal

pub returns-in_err-number-clause-err : goal.returns-in_err-number-clause-err
returns-in_err-number-clause-err g c =
    let within : c.args.dir.server < length c.args.trees.now.items =
    server_within g.T.Tree.state _ _ c.args.dir.number c.requires.into in
    let p = err_from_is_err_and c.from_residual.result c.from_residual.ensures.1 in
    rw p.1
    (map-set_same g.T.Tree.state _ c.args.dir.server c.index_mut.result.now c.add.new.self within
    c.index_mut.ensures.value c.in_err-number.ensures.err)

pub returns-clause-made : goal.returns-clause-made
returns-clause-made g c =
    let within : c.args.dir.server < length c.args.trees.now.items =
    server_within g.T.Tree.state _ _ c.args.dir.number c.requires.into in
    let was : server_at c.args.dir.server (map g.T.Tree.state c.args.trees.now.items)
    ≡ g.T.Tree.state c.index_mut.result.now =
    server_at-map g.T.Tree.state _ _ _ within c.index_mut.ensures.value in
    c.beside.ensures
    ∙ ap (λ number. record { server = c.args.dir.server; number = number })
    (c.in_ok-number.ensures.number ∙ ap (λ (s : Server). s.next) (sym was))

pub returns-clause-ok : goal.returns-clause-ok
returns-clause-ok g c =
    let within : c.args.dir.server < length c.args.trees.now.items =
    server_within g.T.Tree.state _ _ c.args.dir.number c.requires.into in
    map-tree_changed_at g.T.Tree.state
    (λ s. added s (new_node s.next c.args.dir.number c.args.new.now)) _ c.args.dir.server
    c.index_mut.result.now c.add.new.self within c.index_mut.ensures.value
    c.in_ok-number.ensures.ok
