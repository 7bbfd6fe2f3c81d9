use Rattle.std.proofs.Common.{◌≡◌, None, sym, subst, rules}
use Rattle.p9_tree.specs.Saved.{saved_node}
use Rattle.p9_tree.specs.Server.{Server}
use Rattle.p9_kept.specs.Entered.{AreEntered}
use Rattle.p9_kept.proofs.Entered.{entered-put_back, root-entered}
use Rattle.p9_kept.proofs.replaying.put_back.Goals as goal

pub returns-in_default-clause-entered : goal.returns-in_default-clause-entered
returns-in_default-clause-entered g c = λ made.
    let root : c.args.saved.now.entry ≡ None = search rules in
    subst (λ (s : Server). AreEntered c.args.entered.now s.nodes) (sym c.in_ok-put_back.ensures.ok)
    (entered-put_back c.args.entered.now c.args.entered.now (saved_node c.args.saved.now)
    (g.T.Tree.state c.args.tree.now) (λ dir name there. there) c.requires
    (root-entered c.args.entered.now c.args.saved.now root))
