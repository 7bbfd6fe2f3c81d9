use Rattle.std.proofs.Common.{◌≡◌, ◌∙◌, refl, ap, map, inl, inr, sym, true, true≢false}
use Rattle.std.specs.String.{string_bytes}
use Rattle.clap.specs.Faults.{fault_of, is_simple_and_free}
use Rattle.clap.specs.Words.{found_of, is_simple, rows_of, subcommand_of, takes}
use Rattle.clap.specs.declared.error.kind.ErrorKind.TheVariants.{OutOfMemory}
use Rattle.p9_asked.proofs.Asking.{asked-read, asked-refused, only-memory, pair_of}
use Rattle.p9_asked.proofs.Parsing.{name_of_rows, program_is_free, program_is_simple}
use Rattle.p9_asked.proofs.words.command_asked.Goals as goal

pub returns-in-Err-2 : goal.returns-in-Err-2
returns-in-Err-2 c =
    let words = map string_bytes c.args.words.now in
    let app = c.in_ok-program.ensures in
    asked-refused words
    (λ taken.
    let memory = c.in-Err.ensures.passes (ap (λ app. takes app words) app ∙ taken) in
    let kind : c.kind.result ≡ OutOfMemory = c.kind.ensures ∙ memory in
    let same : c.eq.result ≡ true = c.eq.ensures ∙ rw kind refl in
    true≢false (sym same ∙ c.if-eq.false))
    (λ none.
    let memory = only-memory _ c.in-Err.error (ap (λ app. fault_of app words) app ∙ none)
    (c.in-Err.ensures.kinds (ap is_simple_and_free app ∙ program_is_free)) in
    let kind : c.kind.result ≡ OutOfMemory = c.kind.ensures ∙ memory in
    let same : c.eq.result ≡ true = c.eq.ensures ∙ rw kind refl in
    true≢false (sym same ∙ c.if-eq.false))

pub returns : goal.returns
returns c =
    let words = map string_bytes c.args.words.now in
    let app = c.in_ok-program.ensures in
    let rows = (c.in-Ok.ensures.matches (ap is_simple app ∙ program_is_simple)).1 in
    asked-read words _ _
    (pair_of _ (λ p. p.0.now) (λ p. rows_of (found_of p.1.now)) _
    (c.subcommand.ensures.name ∙ name_of_rows c.in-Ok.matches) c.subcommand.ensures.rows
    ∙ rows ∙ ap (λ app. subcommand_of app words) app)
    (sym (ap (λ app. fault_of app words) app)
    ∙ c.in-Ok.ensures.kinds (ap is_simple_and_free app ∙ program_is_free))
    c.asked_in.ensures
