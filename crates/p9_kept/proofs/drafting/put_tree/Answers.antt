use Rattle.std.proofs.Common.{◌+◌, ◌<◌, ◌≤◌, ◌++◌, [], ◌∷◌, sym, ap, subst, ◌∙◌, arith}
use Rattle.std.proofs.lemmas.Result.{on_ok_weaker}
use Rattle.p9_tree.specs.Saved.{put_back, skipped_to}
use Rattle.p9_tree.specs.Server.{WellFormed, next_max}
use Rattle.p9_kept.specs.Making.{Makes}
use Rattle.p9_kept.proofs.Making.{IsMadeTo, found-below, is_next, made-all, made-next, next-skipped, not_less}
use Rattle.p9_kept.proofs.Untouched.{untouched-then}
use Rattle.p9_kept.proofs.drafting.put_tree.Goals as goal

pub returns-in_err-put_node-clause-log : goal.returns-in_err-put_node-clause-log
returns-in_err-put_node-clause-log g c =
    let D = g.D.Device in
    untouched-then D.seen D.moment D.may_leave D.left_since c.args.log.now.device
    c.loop-node.log.device c.put_node.new.log.device c.loop-node.invariant.log c.put_node.ensures.log

pub overflow_add-number : goal.overflow_add-number
overflow_add-number g c =
    let s = g.T.Tree.state c.args.tree.now in
    let w : WellFormed s = g.met.T.Tree.well_formed c.args.tree.now in
    let below : c.in-Some.node.now.number < s.next =
    found-below c.loop-node.number s c.loop-node.invariant.server c.in-Some.node.now w
    c.loop-node.invariant.so_far (sym c.in-Some.ensures) in
    let few : s.next ≤ next_max = w.few in
    omega (arith, c.number-number.ensures)

pub loop-node-smaller : goal.loop-node-smaller
loop-node-smaller g c =
    let s = g.T.Tree.state c.args.tree.now in
    let w : WellFormed s = g.met.T.Tree.well_formed c.args.tree.now in
    let below : c.in-Some.node.now.number < s.next =
    found-below c.loop-node.number s c.loop-node.invariant.server c.in-Some.node.now w
    c.loop-node.invariant.so_far (sym c.in-Some.ensures) in
    let more : c.loop-node.number ≤ c.in-Some.node.now.number =
    not_less c.loop-node.number s c.loop-node.invariant.server c.in-Some.node.now w
    c.loop-node.invariant.so_far (sym c.in-Some.ensures) in
    omega (arith, c.number-number.ensures)

pub loop-node-preserved : goal.loop-node-preserved
loop-node-preserved g c =
    let D = g.D.Device in
    let s = g.T.Tree.state c.args.tree.now in
    let n = c.in-Some.node.now in
    let w : WellFormed s = g.met.T.Tree.well_formed c.args.tree.now in
    let m = c.loop-node.invariant.so_far in
    record {
      server = put_back n c.loop-node.invariant.server;
      so_far =
          subst (λ k. IsMadeTo (k + 1) s (put_back n c.loop-node.invariant.server))
          (sym c.number-number.ensures)
          (made-next c.loop-node.number s c.loop-node.invariant.server n w m (sym c.in-Some.ensures));
      made = λ front is old.
          c.in_ok-put_node.ensures.made front c.loop-node.invariant.server is
          (is_next c.loop-node.number s c.loop-node.invariant.server n w m (sym c.in-Some.ensures))
          (c.loop-node.invariant.made front is old);
      usable = c.put_node.ensures.usable ∙ c.loop-node.invariant.usable;
      log =
          untouched-then D.seen D.moment D.may_leave D.left_since c.args.log.now.device
          c.loop-node.log.device c.put_node.new.log.device c.loop-node.invariant.log
          c.put_node.ensures.log;
    }

pub returns-clause-made : goal.returns-clause-made
returns-clause-made g c =
    let D = g.D.Device in
    let s = g.T.Tree.state c.args.tree.now in
    let w : WellFormed s = g.met.T.Tree.well_formed c.args.tree.now in
    on_ok_weaker c.put-2.result
    (λ last front is old.
    subst (Makes (D.drafted c.put-2.new.log.device) c.put-2.new.noted)
    (next-skipped front c.loop-node.invariant.server c.next.result c.args.server is
    ∙ ap (λ k. front ++ skipped_to k c.loop-node.invariant.server ∷ []) c.next.ensures
    ∙ ap (λ t. front ++ t ∷ [])
    (made-all c.loop-node.number s c.loop-node.invariant.server w c.loop-node.invariant.so_far
    (sym c.in_default.ensures)))
    (last _ (c.loop-node.invariant.made front is old)))
    c.put-2.ensures.made

pub returns-clause-log : goal.returns-clause-log
returns-clause-log g c =
    let D = g.D.Device in
    untouched-then D.seen D.moment D.may_leave D.left_since c.args.log.now.device
    c.loop-node.log.device c.put-2.new.log.device c.loop-node.invariant.log c.put-2.ensures.log
