use Rattle.std.proofs.Common.{◌≡◌, ◌∙◌, refl, ap, map, option_map, inl, inr, sym, true, true≢false}
use Rattle.std.specs.String.{string_bytes}
use Rattle.clap.specs.Words.{is_simple, subcommand_of, takes}
use Rattle.clap.specs.declared.error.kind.ErrorKind.TheVariants.{OutOfMemory}
use Rattle.p9_fcall.specs.Words.{asked_with}
use Rattle.p9_fcall.proofs.Parsing.{name_of_rows, program_is_simple, read_is_asked, taken_or_none}
use Rattle.p9_fcall.proofs.words.command_asked.Goals as goal

pub returns-in-Err-2 : goal.returns-in-Err-2
returns-in-Err-2 c = let words = map string_bytes c.args.words.now in elim (taken_or_none words) [
  | inl taken ↦
      let memory = c.in-Err.ensures.passes (ap (λ app. takes app words) c.in_ok-program.ensures ∙ taken) in
      let kind : c.kind.result ≡ OutOfMemory = c.kind.ensures ∙ memory in
      let same : c.eq.result ≡ true = c.eq.ensures ∙ rw kind refl in
      absurd (true≢false (sym same ∙ c.if-eq.false))
  | inr none ↦ none
]

pub returns : goal.returns
returns c = let words = map string_bytes c.args.words.now in
    let rows = (c.in-Ok.ensures.matches (ap is_simple c.in_ok-program.ensures ∙ program_is_simple)).1 in
    let name = c.subcommand_name.ensures ∙ name_of_rows c.in-Ok.matches
    ∙ ap (option_map (λ p. p.0)) (rows ∙ ap (λ app. subcommand_of app words) c.in_ok-program.ensures) in
    c.command_read.ensures ∙ ap (λ name. asked_with name words) name ∙ read_is_asked words
