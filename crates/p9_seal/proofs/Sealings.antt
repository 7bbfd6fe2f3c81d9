-- The sealing of an input, from what its steps say.
use Rattle.std.proofs.Common.{◌≡◌, ℕ, true, false, List, Result, Ok, Err}
use Rattle.std.proofs.Common.{IfErr, IfOk}
use Rattle.std.proofs.Common.{refl, sym, ap, ◌∙◌, subst}
use Rattle.std.specs.Str.{is_utf8}
use Rattle.p9_base.specs.declared.node_ref.NodeRef.{NodeRef}
use Rattle.p9_base.specs.Results.{need}
use Rattle.p9_cert.specs.Rows.{IsCertificate}
use Rattle.p9_cert.specs.Text.{certificate_text}
use Rattle.p9_policy.proofs.Written.{written_reads_back}
use Rattle.p9_prepared.specs.Bundle.{Texts, bundle_of}
use Rattle.p9_prepared.specs.NameSpace.{NameSpace, space_in}
use Rattle.p9_prepared.specs.Prepared.{prepared_of, script_in, space_of}
use Rattle.p9_prepared.specs.declared.prepared.Needs.{Needs}
use Rattle.p9_prepared.specs.declared.refusal.Refusal.TheVariants.{BadSection, NotUtf8}
use Rattle.p9_seal.specs.declared.error.SealError.{SealError}
use Rattle.p9_seal.specs.declared.error.SealError.TheVariants.{Empty, Refused as RefusedInput, No, Vacuous}
use Rattle.p9_seal.specs.declared.error.SealError.TheVariants.{Changeable}
use Rattle.p9_seal.specs.declared.error.SealError.TheVariants.{NoMemory as OutOfMemory}
use Rattle.p9_seal.specs.Sealing.{IsBundle, IsSealError, IsSealable, IsSealed, IsUnsealed}
use Rattle.p9_prepared.specs.Small.{is_blank_input}
use Rattle.p9_seal.specs.Sealing.{IsWished}
use Rattle.p9_seal.specs.declared.wishes.Wishes.{Wishes}
use Rattle.p9_seal.specs.Sections.{HasCertificate}
use Rattle.p9_seal.specs.Text.{sealed_text}
use Rattle.p9_seal.proofs.Certificates.{cert_lines, cert_lines-begin, cert_lines-clean}
use Rattle.p9_seal.proofs.Certificates.{cert_lines-written}
use Rattle.p9_seal.proofs.Prepares.{alone-ok, joined, prepared_of-parts}
use Rattle.p9_seal.proofs.Prepares.{space_of-parts}
use Rattle.p9_seal.proofs.Resealed.{resealed}

-- an input with the text of a certificate is a bundle, and is prepared with that certificate
module _ (input : List ℕ) (rows : List NodeRef) (sound : IsCertificate rows) (texts : Texts)
    (bundle : bundle_of input ≡ Ok texts) where
  pub sealed-bundle :
      (sealed : Texts) × (bundle_of (sealed_text input (certificate_text rows)) ≡ Ok sealed)
      × HasCertificate (certificate_text rows) texts sealed
  sealed-bundle =
      resealed input (cert_lines rows) (certificate_text rows) (cert_lines-written rows)
      (cert_lines-clean rows sound) (cert_lines-begin rows) texts bundle

  pub sealed-prepared : (needs : Needs)
      → is_utf8 (sealed_text input (certificate_text rows)) ≡ true →
      prepared_of needs (sealed_text input (certificate_text rows))
      ≡ joined (space_in texts.world texts.ns) (script_in texts) rows
  sealed-prepared needs utf8 =
      let there = sealed-bundle in
      prepared_of-parts needs (sealed_text input (certificate_text rows)) (certificate_text rows) texts
      there.0 rows utf8 there.1 there.2 (written_reads_back rows sound)

-- an input whose name space is read is a bundle
pub read-bundle : (input : List ℕ) → is_utf8 input ≡ true → (space : NameSpace)
    → space_of input ≡ Ok space → IsBundle input
unfolding need
read-bundle input utf8 space read = by (bundle_of input) refl
  where
    by : (b : Result Texts ℕ) → bundle_of input ≡ b → IsBundle input
    by (Ok texts) e = (texts, e)
    by (Err line) e = absurd (let t : Err (BadSection line) ≡ Ok space = rw (utf8, e) at read in cc)

-- no text at all
pub no-text : (input : List ℕ) → is_utf8 input ≡ false → space_of input ≡ Err NotUtf8
unfolding need
no-text input utf8 = rw utf8 refl

-- The output, from the name space, the certificate and what is written.
pub sealed-ok : (input output : List ℕ) (wishes : Wishes) (space : NameSpace) (rows : List NodeRef)
    → is_blank_input input ≡ false → is_utf8 input ≡ true → is_utf8 output ≡ true → IsBundle input
    → space_of input ≡ Ok space → IsWished space wishes rows → IsCertificate rows
    → output ≡ sealed_text input (certificate_text rows) → IsSealed input wishes output
sealed-ok input output wishes space rows some utf8 utf8_output bundle read wished sound written =
    let there = sealed-bundle input rows sound bundle.0 bundle.1 in
    let found = alone-ok (space_in bundle.0.world bundle.0.ns) (script_in bundle.0) rows space
    (sym (space_of-parts input bundle.0 utf8 bundle.1) ∙ read) in
    record {
      space = space;
      rows = rows;
      events = found.0;
      some = some;
      read = read;
      wished = wished;
      written = written;
      sections = record {
        texts = bundle.0;
        sealed = there.0;
        before = bundle.1;
        after = ap bundle_of written ∙ there.1;
        same = there.2;
      };
      prepared = λ needs.
          ap (prepared_of needs) written
          ∙ sealed-prepared input rows sound bundle.0 bundle.1 needs
          (subst (λ t. is_utf8 t ≡ true) written utf8_output)
          ∙ found.1;
    }

-- What is said of a certificate over a name space, of the input that it is read from.
module _ {A : Type 0} (input : List ℕ) (wishes : Wishes) (space : NameSpace)
    (read : space_of input ≡ Ok space) where
  pub sealable : IsBundle input → (result : Result (List NodeRef) (SealError A))
      → IfOk result (IsWished space wishes) → IfOk result (IsSealable input wishes)
  sealable bundle (Ok rows) wished =
      record { space = space; bundle = bundle; read = read; wished = wished }
  sealable bundle (Err error) wished = tt

  unsealed-error : (error : SealError A) → IsUnsealed space wishes error
      → IsSealError input wishes error
  unsealed-error Empty none = absurd none
  unsealed-error (RefusedInput refusal) none = absurd none
  unsealed-error (No breach) none = (space, read, none)
  unsealed-error (Vacuous vacuity) none = (space, read, none)
  unsealed-error (Changeable change) none = (space, read, none)
  unsealed-error OutOfMemory none = tt

  pub unsealed : (result : Result (List NodeRef) (SealError A))
      → IfErr result (IsUnsealed space wishes) → IfErr result (IsSealError input wishes)
  unsealed (Ok rows) none = tt
  unsealed (Err error) none = unsealed-error error none
