use Rattle.std.proofs.Common.{ap, ◌++◌, ◌∙◌}
use Rattle.std.specs.Fmt.{decimal}
use Rattle.std.specs.Prelude.{codes}
use Rattle.p9_explain.specs.Change.{directories}
use Rattle.p9_explain.proofs.Joins.{four}
use Rattle.p9_explain.proofs.explained.reach_words.Goals as goal

pub returns : goal.returns
returns g c =
    let end = codes ", and nothing hidden\n" in
    let count = decimal c.args.count in
    c.in_ok-format.ensures.ok
    ∙ ap (λ d. codes "clients can reach " ++ (count ++ (d ++ end))) c.directories-directories.ensures
    ∙ four (codes "clients can reach ") count (directories c.args.count) end
