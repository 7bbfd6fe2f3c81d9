use Rattle.std.proofs.Common.{◌≡◌, ◌∙◌, ap, ap₂, rules}
use Rattle.std.proofs.lemmas.Result.{IfOk-weaker}
use Rattle.clap.specs.Words.{app_of, with_rule}
use Rattle.p9_asked.specs.Words.{without_help}
use Rattle.std.specs.Prelude.{codes}
use Rattle.p9_asked.proofs.words.serve.Goals as goal

pub returns-clause-app : goal.returns-clause-app
returns-clause-app c =
    let bare : app_of c.disable_help_flag.result ≡ without_help (codes "serve") = search rules in
    let one = c.in_ok-arg.ensures.shape c.option.ensures.local ∙ ap₂ with_rule bare c.option.ensures.rule in
    IfOk-weaker c.arg-2.result _ _
    (λ r h. h.shape c.option-2.ensures.local ∙ ap₂ with_rule one c.option-2.ensures.rule)
    c.arg-2.ensures

pub returns-clause-local : goal.returns-clause-local
returns-clause-local c =
    IfOk-weaker c.arg-2.result _ _ (λ r h. search (rules, h.globals, c.option-2.ensures.local, c.in_ok-arg.ensures.globals, c.option.ensures.local)) c.arg-2.ensures
