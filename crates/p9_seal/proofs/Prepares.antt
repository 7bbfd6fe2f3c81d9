-- What an input with another certificate is prepared as.
use Rattle.std.proofs.Common.{◌≡◌, ℕ, List, [], Option, Some, None, Result, Ok, Err, true}
use Rattle.std.proofs.Common.{refl, ap, ◌∙◌}
use Rattle.std.specs.Str.{is_utf8}
use Rattle.p9_base.specs.declared.node_ref.NodeRef.{NodeRef}
use Rattle.p9_base.specs.Results.{and_then, need}
use Rattle.p9_base.specs.Statement.{statements_of}
use Rattle.p9_cert.specs.Text.{certificate_of}
use Rattle.p9_step.specs.Event.{Event}
use Rattle.p9_prepared.specs.Bundle.{Texts, bundle_of}
use Rattle.p9_prepared.specs.NameSpace.{NameSpace, space_in}
use Rattle.p9_prepared.specs.Prepared.{Prepared, Rejected, certificate_in, prepared_of, script_in}
use Rattle.p9_prepared.specs.Prepared.{space_of, with_reports}
use Rattle.p9_prepared.specs.declared.prepared.Needs.{Needs}
use Rattle.p9_prepared.specs.declared.refusal.Refusal.{Refusal}
use Rattle.p9_prepared.specs.Statements.{statements_in}
use Rattle.p9_prepared.proofs.Statements.{script_in-same, some-same, space_in-same}
use Rattle.p9_seal.specs.Sections.{HasCertificate}

-- The rows of a section that says what a certificate says.
certificate_in-same : (needs : Needs) (section : Option (List ℕ)) (cert : List ℕ)
    (rows : List NodeRef) → statements_in section ≡ Some (statements_of cert)
    → certificate_of cert ≡ Ok rows → certificate_in needs section ≡ Ok (Some rows)
certificate_in-same needs None cert rows e read = absurd (cc)
certificate_in-same needs (Some text) cert rows e read =
    let same : statements_of text ≡ statements_of cert = some-same _ _ e in
    let found : certificate_of text ≡ Ok rows = rw same read in
    rw found refl

-- The parts of what is prepared.

-- a name space and its events, with the rows of a certificate
abbrev pub joined : Result NameSpace Refusal → Result (List Event) Refusal → List NodeRef
    → Result Prepared Rejected
joined space events rows =
    and_then (with_reports [] space)
    (λ s. and_then (with_reports s.reports events)
    (λ es. Ok (record { space = s; rows = Some rows; events = es })))

-- the name space, where there are events too
abbrev pub alone : Result NameSpace Refusal → Result (List Event) Refusal → Result NameSpace Refusal
alone space events = and_then space (λ s. and_then events (λ es. Ok s))

pub alone-ok : (space : Result NameSpace Refusal) (events : Result (List Event) Refusal)
    (rows : List NodeRef) (s : NameSpace) → alone space events ≡ Ok s →
    (es : List Event) × (joined space events rows
    ≡ Ok (record { space = s; rows = Some rows; events = es }))
alone-ok (Ok found) (Ok es) rows s e =
    let is : found ≡ s = cc in (
      es,
      ap (λ (s : NameSpace). let p : Result Prepared Rejected =
          Ok (record { space = s; rows = Some rows; events = es }) in p) is,
    )
alone-ok (Ok found) (Err refusal) rows s e = absurd (cc)
alone-ok (Err refusal) events rows s e = absurd (cc)

-- The input's name space, by its bundle.
pub space_of-parts : (input : List ℕ) (texts : Texts) → is_utf8 input ≡ true
    → bundle_of input ≡ Ok texts
    → space_of input ≡ alone (space_in texts.world texts.ns) (script_in texts)
unfolding need
space_of-parts input texts utf8 bundle = rw (utf8, bundle) (opened-by (space_in texts.world texts.ns))
  where
    opened-by : (space : Result NameSpace Refusal) →
        and_then
        (and_then space (λ s. let found : Result (Texts × NameSpace) Refusal = Ok (texts, s) in found))
        (λ found. and_then (script_in found.0) (λ events. Ok found.1))
        ≡ alone space (script_in texts)
    opened-by (Ok s) = refl
    opened-by (Err refusal) = refl

-- what a bundle with this certificate is prepared as
pub prepared_of-parts : (needs : Needs) (output cert : List ℕ) (texts sealed : Texts)
    (rows : List NodeRef) → is_utf8 output ≡ true → bundle_of output ≡ Ok sealed
    → HasCertificate cert texts sealed → certificate_of cert ≡ Ok rows →
    prepared_of needs output ≡ joined (space_in texts.world texts.ns) (script_in texts) rows
unfolding need
prepared_of-parts needs output cert texts sealed rows utf8 bundle same read =
    let space = space_in-same sealed.world texts.world sealed.ns texts.ns same.world same.ns in
    let script = script_in-same sealed texts same.script in
    let certificate = certificate_in-same needs sealed.cert cert rows same.cert read in
    rw (utf8, bundle)
    (by_space certificate script (space_in sealed.world sealed.ns)
    ∙ ap (λ s. joined s (script_in texts) rows) space)
  where
    same_events : (s : NameSpace) (es : Result (List Event) Refusal) →
        and_then
        (with_reports s.reports (and_then es
        (λ events. let rest : Result (Option (List NodeRef) × List Event) Refusal =
        Ok (Some rows, events) in rest)))
        (λ rest. let prepared : Result Prepared Rejected =
        Ok (record { space = s; rows = rest.0; events = rest.1 }) in prepared)
        ≡ and_then (with_reports s.reports es)
        (λ es. let prepared : Result Prepared Rejected =
        Ok (record { space = s; rows = Some rows; events = es }) in prepared)
    same_events s (Ok es) = refl
    same_events s (Err refusal) = refl

    by_space : certificate_in needs sealed.cert ≡ Ok (Some rows) → script_in sealed ≡ script_in texts
        → (s : Result NameSpace Refusal) →
        and_then
        (with_reports [] (and_then s
        (λ space. let found : Result (Texts × NameSpace) Refusal = Ok (sealed, space) in found)))
        (λ found.
        and_then
        (with_reports found.1.reports
        (and_then (certificate_in needs found.0.cert) (λ rows. and_then (script_in found.0)
        (λ events. let rest : Result (Option (List NodeRef) × List Event) Refusal =
        Ok (rows, events) in rest))))
        (λ rest. let prepared : Result Prepared Rejected =
        Ok (record { space = found.1; rows = rest.0; events = rest.1 }) in prepared))
        ≡ joined s (script_in texts) rows
    by_space certificate script (Err refusal) = refl
    by_space certificate script (Ok s) = rw (certificate, script) (same_events s (script_in texts))
