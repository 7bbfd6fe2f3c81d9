use Rattle.std.proofs.Common.{map, take, sym, ap, subst, ◌∙◌, arith}
use Rattle.std.proofs.lemmas.List.{take_all}
use Rattle.std.proofs.lemmas.Result.{on_ok_weaker}
use Rattle.p9_kept.specs.Making.{Makes}
use Rattle.p9_kept.proofs.Making.{length-map-take, map-take-more}
use Rattle.p9_kept.proofs.Untouched.{untouched-then}
use Rattle.p9_kept.proofs.drafting.put_forest.Goals as goal

pub returns-in_err-put_tree-clause-log : goal.returns-in_err-put_tree-clause-log
returns-in_err-put_tree-clause-log g c =
    let D = g.D.Device in
    untouched-then D.seen D.moment D.may_leave D.left_since c.args.log.now.device
    c.loop-server.log.device c.put_tree.new.log.device c.loop-server.invariant.log c.put_tree.ensures.log

pub loop-server-preserved : goal.loop-server-preserved
loop-server-preserved g c =
    let D = g.D.Device in
    let state = g.T.Tree.state in
    record {
      made = λ old.
          subst (Makes (D.drafted c.put_tree.new.log.device) c.put_tree.new.noted)
          (sym (map-take-more state c.args.trees.now c.loop-server.server c.index-trees-server.result
          c.loop-server-test.true c.index-trees-server.is))
          (c.in_ok-put_tree.ensures.made (map state (take c.loop-server.server c.args.trees.now))
          (length-map-take state c.args.trees.now c.loop-server.server (omega arith))
          (c.loop-server.invariant.made old));
      usable = c.put_tree.ensures.usable ∙ c.loop-server.invariant.usable;
      log =
          untouched-then D.seen D.moment D.may_leave D.left_since c.args.log.now.device
          c.loop-server.log.device c.put_tree.new.log.device c.loop-server.invariant.log
          c.put_tree.ensures.log;
    }

pub returns-clause-made : goal.returns-clause-made
returns-clause-made g c =
    let D = g.D.Device in
    on_ok_weaker c.flush.result
    (λ last old.
    subst (Makes (D.drafted c.flush.new.log.device) c.flush.new.noted)
    (ap (map g.T.Tree.state)
    (take_all c.loop-server.server c.args.trees.now c.loop-server-test.false))
    (last _ (c.loop-server.invariant.made old)))
    c.flush.ensures.made

pub returns-clause-log : goal.returns-clause-log
returns-clause-log g c =
    let D = g.D.Device in
    untouched-then D.seen D.moment D.may_leave D.left_since c.args.log.now.device
    c.loop-server.log.device c.flush.new.log.device c.loop-server.invariant.log c.flush.ensures.log
