use Rattle.std.proofs.Common.{◌≡◌, ◌∙◌, IfErr, IfOk, Ok, Result, subst, sym}
use Rattle.p9_prepared.specs.NameSpace.{NameSpace}
use Rattle.p9_prepared.specs.Refusal.{IsStop}
use Rattle.p9_prepared.specs.declared.refusal.Refusal.{Refusal}
use Rattle.p9_prepared.proofs.Preparing.{opened-found}
use Rattle.p9_prepared.proofs.Statements.{space_with-same}
use Rattle.p9_prepared.proofs.prepared.name_space_of.Goals as goal

pub returns-in-Ok-clause-ok : goal.returns-in-Ok-clause-ok
returns-in-Ok-clause-ok g c =
    let found = c.in-Ok.ensures.ok in
    subst
    (λ (asked : Result NameSpace Refusal). IfOk c.space_with.result (λ space. asked ≡ Ok space))
    (space_with-same _ found.0 _ found.2 ∙ sym (opened-found c.args.input.now _ found.1))
    c.space_with.ensures.ok

pub returns-in-Ok-clause-stop : goal.returns-in-Ok-clause-stop
returns-in-Ok-clause-stop g c =
    let found = c.in-Ok.ensures.ok in
    subst
    (λ (asked : Result NameSpace Refusal). IfErr c.space_with.result (IsStop asked))
    (space_with-same _ found.0 _ found.2 ∙ sym (opened-found c.args.input.now _ found.1))
    c.space_with.ensures.stop
