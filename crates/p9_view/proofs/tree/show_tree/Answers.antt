use Rattle.std.proofs.Common.{IfOk, subst, sym}
use Rattle.std.specs.Option.{option_copied}
use Rattle.p9_view.specs.Tree.{IsInputShown, IsShownTo}
use Rattle.p9_view.proofs.tree.show_tree.Goals as goal

pub returns-in-Ok : goal.returns-in-Ok
returns-in-Ok g c =
    subst
    (λ asked. IfOk c.show-status.result (λ status. IsInputShown asked (option_copied c.args.user) status
    c.args.out.now.items c.show-status.new.out.items c.args.err.now.items c.show-status.new.err.items))
    (sym c.in-Ok.ensures.ok)
    (subst
    (λ space. IfOk c.show-status.result (λ status. IsShownTo space (option_copied c.args.user) status
    c.args.out.now.items c.show-status.new.out.items c.args.err.now.items c.show-status.new.err.items))
    c.space_of.ensures c.show-status.ensures)
