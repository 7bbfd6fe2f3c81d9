use Rattle.std.proofs.Common.{◌≡◌, ◌∙◌, ap, ap₂, rules}
use Rattle.std.proofs.lemmas.Result.{IfOk-weaker}
use Rattle.clap.specs.Words.{App, app_of, with_subcommand}
use Rattle.std.specs.Prelude.{codes}
use Rattle.p9_asked.specs.Words.{bare_program, with_command}
use Rattle.p9_asked.proofs.words.program.Goals as goal

pub returns : goal.returns
returns c =
    let one = c.in_ok-program.ensures ∙ ap (with_command (codes "play")) c.bare_program-program.ensures in
    let two = c.in_ok-program-2.ensures ∙ ap (with_command (codes "check")) one in
    let three = c.in_ok-program-3.ensures ∙ ap (with_command (codes "verify")) two in
    let four = c.in_ok-program-4.ensures ∙ ap (with_command (codes "ns")) three in
    IfOk-weaker c.subcommand.result _ _
    (λ r h. h.shape c.in_ok-serve.ensures.local
    ∙ ap₂ with_subcommand four (ap (λ (a : App). a.top) c.in_ok-serve.ensures.app))
    c.subcommand.ensures
