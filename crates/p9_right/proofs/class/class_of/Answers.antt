use Rattle.std.proofs.Common.{◌≡◌, Some, None, rules, ap, ◌∙◌}
use Rattle.std.specs.Prelude.{is_some}
use Rattle.p9_space.specs.Rights.{who_view}
use Rattle.p9_right.specs.Class.{class_of}
use Rattle.p9_right.specs.declared.class.Class.TheVariants.{Others}
use Rattle.p9_right.proofs.Held.{is_some-class_of}
use Rattle.p9_right.proofs.class.class_of.Goals as goal

pub returns-then-gives_one-clause-may : goal.returns-then-gives_one-clause-may
returns-then-gives_one-clause-may g c =
    let is : Some Others ≡ class_of (who_view c.args.who) c.args.node.now c.args.wanted = search rules in
    ap is_some is ∙ is_some-class_of (who_view c.args.who) c.args.node.now c.args.wanted

pub returns-else-gives_one-3-clause-may : goal.returns-else-gives_one-3-clause-may
returns-else-gives_one-3-clause-may g c =
    let is : None ≡ class_of (who_view c.args.who) c.args.node.now c.args.wanted = search rules in
    ap is_some is ∙ is_some-class_of (who_view c.args.who) c.args.node.now c.args.wanted
