-- An input that is prepared: its name space, its certificate and its script.
use Rattle.std.specs.Prelude.{◌≡◌, ℕ, List, [], ◌++◌, Option, Some, None, Result, Ok, Err, unwrap_or}
use Rattle.std.specs.Option.{option_map_or}
use Rattle.std.specs.Str.{is_utf8}
use Rattle.p9_base.specs.declared.node_ref.NodeRef.{NodeRef}
use Rattle.p9_base.specs.Results.{and_then, need}
use Rattle.p9_cert.specs.Text.{certificate_of}
use Rattle.p9_cert.specs.declared.gap.Gap.{Gap}
use Rattle.p9_nsline.specs.Space.{Report}
use Rattle.p9_step.specs.Event.{Event}
use Rattle.p9_prepared.specs.Bundle.{Texts, bundle_of}
use Rattle.p9_prepared.specs.NameSpace.{NameSpace, gap_over, space_in}
use Rattle.p9_prepared.specs.Refusal.{or_refused, refusal_line}
use Rattle.p9_prepared.specs.Report.{reports_text}
use Rattle.p9_prepared.specs.Script.{script_of}
use Rattle.p9_prepared.specs.declared.prepared.Needs.{Needs}
use Rattle.p9_prepared.specs.declared.prepared.Needs.TheVariants.{Nothing, Certificate}
use Rattle.p9_prepared.specs.declared.prepared.PrepareError.{PrepareError}
use Rattle.p9_prepared.specs.declared.refusal.Refusal.{Refusal}
use Rattle.p9_prepared.specs.declared.refusal.Refusal.TheVariants.{BadCertificate, BadEvent}
use Rattle.p9_prepared.specs.declared.refusal.Refusal.TheVariants.{BadSection, NoCertificate}
use Rattle.p9_prepared.specs.declared.refusal.Refusal.TheVariants.{NotUtf8}
use Rattle.p9_base.specs.declared.stop.Stop.{Stop}
use Rattle.p9_base.specs.declared.stop.Stop.TheVariants.{Refused, NoMemory}

-- What an input comes to.

-- its name space, the rows of its certificate, if it has one, and the events of its script
pub record Prepared : Type 0 where
  pub space : NameSpace
  pub rows : Option (List NodeRef)
  pub events : List Event

-- its first fault, and what failed in its namespace file before that
pub record Rejected : Type 0 where
  pub reports : List Report
  pub refusal : Refusal

-- a value, or a refusal with these reports
abbrev pub with_reports : {X : Type 0} → List Report → Result X Refusal → Result X Rejected
with_reports reports (Ok value) = Ok value
with_reports reports (Err refusal) = Err (record { reports = reports; refusal = refusal })

-- Its parts, in the order of their faults.

-- the sections of an input, and the name space that they describe
abbrev pub opened : List ℕ → Result (Texts × NameSpace) Refusal
opened input =
    need (is_utf8 input) NotUtf8
    (and_then (or_refused BadSection (bundle_of input))
    (λ texts. and_then (space_in texts.world texts.ns) (λ space. Ok (texts, space))))

-- the rows of a certificate's text; one that is needed is to be there
abbrev pub certificate_in : Needs → Option (List ℕ) → Result (Option (List NodeRef)) Refusal
certificate_in needs (Some text) =
    and_then (or_refused BadCertificate (certificate_of text)) (λ rows. Ok (Some rows))
certificate_in Nothing None = Ok None
certificate_in Certificate None = Err NoCertificate

-- the events of a bundle's script; none where it has no script
abbrev pub script_in : Texts → Result (List Event) Refusal
script_in texts = or_refused BadEvent (script_of (unwrap_or texts.script []))

-- a name space, where the script of its bundle is good
abbrev pub space_with : Texts → NameSpace → Result NameSpace Refusal
space_with texts space = and_then (script_in texts) (λ events. Ok space)

-- the name space of an input, or its first fault; its certificate is not read
abbrev pub space_of : List ℕ → Result NameSpace Refusal
space_of input = and_then (opened input) (λ found. space_with found.0 found.1)

-- the certificate and the script of a bundle
abbrev pub rest_in : Needs → Texts → Result (Option (List NodeRef) × List Event) Refusal
rest_in needs texts =
    and_then (certificate_in needs texts.cert)
    (λ rows. and_then (script_in texts) (λ events. Ok (rows, events)))

-- a name space with the certificate and the script of its bundle
abbrev pub prepared_with : Needs → Texts → NameSpace → Result Prepared Rejected
prepared_with needs texts space =
    and_then (with_reports space.reports (rest_in needs texts))
    (λ rest. Ok (record { space = space; rows = rest.0; events = rest.1 }))

-- what an input comes to, or its first fault
abbrev pub prepared_of : Needs → List ℕ → Result Prepared Rejected
prepared_of needs input =
    and_then (with_reports [] (opened input)) (λ found. prepared_with needs found.0 found.1)

-- the first gap of its certificate; none where it has no certificate
abbrev pub gap_in : Prepared → Option Gap
gap_in prepared = option_map_or (gap_over prepared.space) prepared.rows None

-- How a refusal is reported.

-- what failed in the namespace file, and then the fault
abbrev pub rejected_text : Rejected → List ℕ
rejected_text rejected = reports_text rejected.reports ++ refusal_line rejected.refusal

-- an error says that an allocation failed, or the first fault, with what failed before it
abbrev pub IsPrepareErrorBy : {X : Type 0} → Result X Rejected → List Report → Stop Refusal → Type 0
IsPrepareErrorBy asked reports NoMemory = Unit {0}
IsPrepareErrorBy asked reports (Refused refusal) =
    asked ≡ Err (record { reports = reports; refusal = refusal })

abbrev pub IsPrepareError : {X A : Type 0} → Result X Rejected → PrepareError A → Type 0
IsPrepareError asked error = IsPrepareErrorBy asked error.reports.items error.stop

-- an input is prepared, and what failed in its namespace file is reported; or its first fault is
-- reported, and there is nothing
abbrev pub IsReported : Result Prepared Rejected → (before after : List ℕ) → Option Prepared
    → Type 0
IsReported (Ok found) before after (Some prepared) =
    (prepared ≡ found) × (after ≡ before ++ reports_text prepared.space.reports)
IsReported (Ok found) before after None = ⊥
IsReported (Err rejected) before after (Some prepared) = ⊥
IsReported (Err rejected) before after None = after ≡ before ++ rejected_text rejected
