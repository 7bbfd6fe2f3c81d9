use Rattle.std.proofs.Common.{◌≡◌, false, sym, ◌∙◌, rules}
use Rattle.p9_kept.proofs.Entered.{free-unless_entered}
use Rattle.p9_kept.proofs.replaying.is_free.Goals as goal

pub returns-then-not-may_have : goal.returns-then-not-may_have
returns-then-not-may_have g c = λ never.
    let not_entered : c.may_have.result ≡ false = search rules in
    free-unless_entered c.args.entered.now c.args.entry.now.parent c.args.entry.now.name
    (g.T.Tree.state c.args.tree.now).nodes c.requires (sym c.may_have.ensures ∙ not_entered)
