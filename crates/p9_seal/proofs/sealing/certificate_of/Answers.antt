use Rattle.std.proofs.Common.{◌≡◌, Ok, ap, ◌∙◌, sym}
use Rattle.std.proofs.lemmas.Str.{is_utf8-from_IsUtf8}
use Rattle.p9_prepared.specs.Prepared.{space_of}
use Rattle.p9_seal.proofs.Sealings.{read-bundle, sealable, unsealed}
use Rattle.p9_seal.proofs.sealing.certificate_of.Goals as goal

pub returns-clause-ok : goal.returns-clause-ok
returns-clause-ok g c =
    let read : space_of c.args.text.now ≡ Ok c.in_ok-space.space =
    ap space_of (sym c.as_bytes.ensures.value) ∙ c.in_ok-space.ensures.ok in
    sealable c.args.text.now c.args.wishes c.in_ok-space.space read
    (read-bundle c.args.text.now (is_utf8-from_IsUtf8 _ c.utf8.text) c.in_ok-space.space read)
    c.certificate_over-certificate.result c.certificate_over-certificate.ensures.ok

pub returns-clause-err : goal.returns-clause-err
returns-clause-err g c =
    let read : space_of c.args.text.now ≡ Ok c.in_ok-space.space =
    ap space_of (sym c.as_bytes.ensures.value) ∙ c.in_ok-space.ensures.ok in
    unsealed c.args.text.now c.args.wishes c.in_ok-space.space read
    c.certificate_over-certificate.result c.certificate_over-certificate.ensures.err
