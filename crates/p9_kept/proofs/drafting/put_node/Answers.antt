use Rattle.std.proofs.Common.{◌++◌, [], ◌∷◌, take, ap, subst}
use Rattle.std.proofs.lemmas.Result.{on_ok_weaker}
use Rattle.p9_kept.specs.Making.{Makes, with_front}
use Rattle.p9_kept.proofs.Making.{node-put_back, saved-front}
use Rattle.p9_kept.proofs.Untouched.{untouched-then}
use Rattle.p9_kept.proofs.drafting.put_node.Goals as goal

pub returns-clause-made : goal.returns-clause-made
returns-clause-made g c =
    on_ok_weaker c.put_rest.result
    (λ rest front made is next old.
    rest front made is next
    (subst (Makes (g.D.Device.drafted c.put.new.log.device) c.put.new.noted)
    (node-put_back front made _ (with_front c.min-first.result c.args.node.now) c.args.server is
    (saved-front c.saved.result c.args.node.now c.min-first.result _ c.saved.ensures
    (ap (take c.min-first.result) c.bytes-2.ensures)))
    (c.in_ok-put.ensures.made (front ++ made ∷ []) old)))
    c.put_rest.ensures.made

pub returns-clause-log : goal.returns-clause-log
returns-clause-log g c =
    let D = g.D.Device in
    untouched-then D.seen D.moment D.may_leave D.left_since c.args.log.now.device
    c.put.new.log.device c.put_rest.new.log.device c.put.ensures.log c.put_rest.ensures.log
