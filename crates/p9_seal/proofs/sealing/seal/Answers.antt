use Rattle.std.proofs.Common.{◌≡◌, ◌∙◌, ap, true, subst, sym}
use Rattle.std.specs.Str.{is_utf8}
use Rattle.std.specs.String.{string_bytes}
use Rattle.std.proofs.lemmas.Bool.{false_from_ne_true}
use Rattle.std.proofs.lemmas.Result.{err_from_is_err_and}
use Rattle.std.proofs.lemmas.Str.{IsUtf8-from_is_utf8, is_utf8-from_IsUtf8}
use Rattle.p9_prepared.specs.Small.{is_blank_input}
use Rattle.p9_seal.specs.Sealing.{IsSealed}
use Rattle.p9_seal.proofs.Sealings.{no-text, sealed-ok}
use Rattle.p9_seal.proofs.sealing.seal.Goals as goal

pub returns-in_default-clause-err : goal.returns-in_default-clause-err
returns-in_default-clause-err g c =
    no-text c.args.input.now
    (false_from_ne_true _ (λ valid. c.in_default.ensures.cases.0 (IsUtf8-from_is_utf8 _ valid)))

pub returns-in_err-sealed-clause-err : goal.returns-in_err-sealed-clause-err
returns-in_err-sealed-clause-err g c =
    let r = c.from_residual-in_err-sealed in
    let p = err_from_is_err_and r.result r.ensures.1 in
    rw (p.1, p.2) tt

pub returns-clause-ok : goal.returns-clause-ok
returns-clause-ok g c =
    let same = c.in-Ok.ensures.cases.0 in
    subst (λ input. IsSealed input c.args.wishes (string_bytes c.in_ok-sealed.field-0)) same
    (sealed-ok c.in-Ok.text.now (string_bytes c.in_ok-sealed.field-0) c.args.wishes
    c.in_ok-certificate.ensures.ok.space c.in_ok-certificate.certificate
    (ap is_blank_input same ∙ sym c.is_blank_input.ensures ∙ c.if-is_blank_input.false)
    (subst (λ text. is_utf8 text ≡ true) (sym same)
    (is_utf8-from_IsUtf8 _ c.in-Ok.ensures.cases.1))
    c.in_ok-sealed.ensures.utf8
    c.in_ok-certificate.ensures.ok.bundle c.in_ok-certificate.ensures.ok.read
    c.in_ok-certificate.ensures.ok.wished c.sealed.ensures.sound c.in_ok-sealed.ensures.written)
