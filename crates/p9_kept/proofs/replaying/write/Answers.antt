use Rattle.std.proofs.Common.{sym, subst}
use Rattle.p9_tree.specs.Bytes.{overwritten}
use Rattle.p9_tree.specs.Node.{with_bytes}
use Rattle.p9_tree.specs.Server.{Server}
use Rattle.p9_tree.proofs.Changed.{keeps-with_bytes}
use Rattle.p9_kept.specs.Entered.{AreEntered}
use Rattle.p9_kept.proofs.Entered.{entered-changed}
use Rattle.p9_kept.proofs.replaying.write.Goals as goal

pub returns-clause-entered : goal.returns-clause-entered
returns-clause-entered g c = λ made slots all.
    subst (λ (s : Server). AreEntered slots s.nodes) (sym c.in_ok-write.ensures.ok)
    (entered-changed slots c.args.number (with_bytes (overwritten c.args.offset c.args.bytes.now))
    (keeps-with_bytes (overwritten c.args.offset c.args.bytes.now))
    (g.T.Tree.state c.args.tree.now).nodes all)
