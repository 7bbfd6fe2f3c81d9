-- The program's commands: what each makes of an input that is prepared, and how it ends.
use Rattle.std.specs.Prelude.{◌≡◌, ◌⊎◌, ℕ, List, ◌++◌, Option, Some, None, Result, Ok, Err, Vec}
use Rattle.std.specs.Prelude.{codes}
use Rattle.std.specs.Option.{option_map_or}
use Rattle.p9_base.specs.Results.{and_then}
use Rattle.p9_cert.specs.declared.gap.Gap.{Gap}
use Rattle.p9_commands.specs.Judgement.{IsPrinted, SaysNo, SaysYes, verified_status, verified_text}
use Rattle.p9_commands.specs.Listing.{table_text}
use Rattle.p9_play.specs.Guards.{exported}
use Rattle.p9_play.specs.Play.{PlaysAll}
use Rattle.p9_prepared.specs.Prepared.{Prepared, Rejected, gap_in, prepared_of, rejected_text}
use Rattle.p9_prepared.specs.Refusal.{refusal_line}
use Rattle.p9_prepared.specs.Report.{reports_text}
use Rattle.p9_commands.specs.Word.{command_of}
use Rattle.p9_commands.specs.declared.command.Command.{Command}
use Rattle.p9_commands.specs.declared.command.Command.TheVariants.{Play, Check, Verify, Ns}
use Rattle.p9_prepared.specs.declared.prepared.Needs.{Needs}
use Rattle.p9_prepared.specs.declared.prepared.Needs.TheVariants.{Nothing, Certificate}
use Rattle.p9_prepared.specs.declared.refusal.Refusal.TheVariants.{Unverified}

-- What is asked.

-- only a verification needs a certificate
abbrev pub needs_of : Command → Needs
needs_of Play = Nothing
needs_of Check = Nothing
needs_of Verify = Certificate
needs_of Ns = Nothing

-- a script is not played with a certificate that has a gap
abbrev pub gap_against : Command → Prepared → Option Gap
gap_against Play prepared = gap_in prepared
gap_against Check prepared = None
gap_against Verify prepared = None
gap_against Ns prepared = None

-- a prepared input, unless a gap is against the command
abbrev pub admitted : Command → Prepared → Result Prepared Rejected
admitted command prepared =
    option_map_or
    (λ gap. Err (record { reports = prepared.space.reports; refusal = Unverified gap }))
    (gap_against command prepared) (Ok prepared)

-- what a command works on, or the first fault of its input
abbrev pub asked : Command → List ℕ → Result Prepared Rejected
asked command input = and_then (prepared_of (needs_of command) input) (admitted command)

-- What is printed.

-- what the output and the errors are, before and after
pub record Printed : Type 0 where
  pub out_before : List ℕ
  pub out : List ℕ
  pub err_before : List ℕ
  pub err : List ℕ

-- what two vectors hold, before and after
abbrev pub printed : {A : Type 0} → (out_before out err_before err : Vec ℕ A) → Printed
printed out_before out err_before err = record {
  out_before = out_before.items;
  out = out.items;
  err_before = err_before.items;
  err = err.items;
}

-- both are as before
abbrev pub IsUnchanged : Printed → Type 0
IsUnchanged p = (p.out ≡ p.out_before) × (p.err ≡ p.err_before)

-- `play` prints the play text, `check` a judgement, `verify` a gap or that there is none, and `ns`
-- the mount table
abbrev pub Writes : Command → Prepared → (status : ℕ) (before after : List ℕ) → Type 0
Writes Play prepared status before after =
    (status ≡ 0) × PlaysAll prepared.events (exported prepared.space) before after
Writes Check prepared status before after =
    SaysYes prepared.space before after status ⊎ SaysNo prepared.space before after status
Writes Verify prepared status before after =
    IsPrinted (verified_status (gap_in prepared)) (verified_text (gap_in prepared)) before after status
Writes Ns prepared status before after =
    IsPrinted 0 (table_text prepared.space.world prepared.space.table) before after status

-- what a command makes of a prepared input: its work is printed, or the gap against it is reported
abbrev pub Works : Command → Prepared → Option Gap → (status : ℕ) → Printed → Type 0
Works command prepared None status p =
    (p.err ≡ p.err_before) × Writes command prepared status p.out_before p.out
Works command prepared (Some gap) status p =
    (status ≡ 1) × (p.err ≡ p.err_before ++ refusal_line (Unverified gap)) × (p.out ≡ p.out_before)

-- how a command ends: the exit status, and what it printed. What failed in the making of the name
-- space is reported, and its work is printed; or its input is refused.
abbrev pub CommandEnds : Command → Result Prepared Rejected → (status : ℕ) → Printed → Type 0
CommandEnds command (Ok prepared) status p =
    (p.err ≡ p.err_before ++ reports_text prepared.space.reports)
    × Writes command prepared status p.out_before p.out
CommandEnds command (Err rejected) status p =
    (status ≡ 1) × (p.err ≡ p.err_before ++ rejected_text rejected) × (p.out ≡ p.out_before)

-- how the command of a word ends; a word without one is a bad command line
abbrev pub EndsBy : Option Command → (input : List ℕ) (status : ℕ) → Printed → Type 0
EndsBy (Some command) input status p = CommandEnds command (asked command input) status p
EndsBy None input status p =
    (status ≡ 2) × (p.err ≡ p.err_before ++ codes "p9: bad command line\n")
    × (p.out ≡ p.out_before)

abbrev pub WordEnds : (word input : List ℕ) (status : ℕ) → Printed → Type 0
WordEnds word input status p = EndsBy (command_of word) input status p
