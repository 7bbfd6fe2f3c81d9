use Rattle.std.proofs.Common.{◌∙◌, sym, ap}
use Rattle.std.specs.Prelude.{not}
use Rattle.p9_policy.proofs.ByClass.{some-others}
use Rattle.p9_policy.proofs.listed.Listed.is_one_of.Goals as goal

pub returns-then-classes : goal.returns-then-classes
returns-then-classes g c =
    ap not c.is_empty.ensures
    ∙ sym (some-others c.args.self.users.now c.args.self.groups.now c.args.classes c.args.node.now
    c.if-classes.true)
