use Rattle.std.proofs.Common.{ap, ◌∙◌}
use Rattle.std.specs.Prelude.{option_copied}
use Rattle.p9_prepared.proofs.NameSpaces.{read-ok, section}
use Rattle.p9_prepared.proofs.name_space.NameSpace.read.Goals as goal

pub returns-clause-ok : goal.returns-clause-ok
returns-clause-ok g c =
    read-ok (option_copied c.args.world) (option_copied c.args.ns) c.unwrap_or.result.now
    c.in_ok-world.world c.in_ok-world.ensures.ok
    (ap (λ text. text.now) c.unwrap_or.ensures ∙ section c.args.ns _) c.over.result
    c.over.ensures.ok
