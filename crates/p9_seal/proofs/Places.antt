-- What an input with another certificate is read as.
use Rattle.std.proofs.Common.{◌≡◌, ℕ, suc, ◌+◌, Bool, true, false, cond, List, [], ◌∷◌}
use Rattle.std.proofs.Common.{◌++◌, take, drop, Option, Some, Ok, refl, sym, ap}
use Rattle.std.proofs.Common.{subst, arith, ⊎_elim}
use Rattle.std.proofs.lemmas.Bool.{cases_Bool}
use Rattle.std.specs.Prelude.{codes, nat_eq, not}
use Rattle.std.specs.List.{prefix_len, starts_with}
use Rattle.std.specs.Str.{bytes_eq}
use Rattle.std.proofs.lemmas.Slice.Eq.{bytes_eq-Decides}
use Rattle.p9_prepared.specs.Bundle.{Reading, Texts, with_numbered_line}
use Rattle.p9_seal.specs.Text.{begins_certificate_or_script, begins_script, cert_head}
use Rattle.p9_seal.specs.Text.{lines_after, lines_before, script_head}
use Rattle.p9_seal.proofs.Readings.{IsEarly, Reads, Step, behind, cert-step, cond-ok, early-step}
use Rattle.p9_seal.proofs.Readings.{reads-append, script-step, step-from, with_cert_line}
use Rattle.p9_seal.proofs.Readings.{with_script_line}

-- the texts with another certificate
abbrev pub with_cert : Option (List ℕ) → Texts → Texts
with_cert cert texts = record texts { cert = cert }

-- a line that begins no section goes to the script, whatever the certificate
script-line : (texts : Texts) (line : List ℕ) → starts_with nat_eq line (codes "%%") ≡ false
    → Step (behind script_head texts) line (behind script_head (with_script_line line texts))
script-line texts line other =
    step-from (behind script_head texts) 0 line (behind script_head (with_script_line line texts))
    (rw other refl)

-- the lines of a script read the same after another certificate
script-reads : (cert : Option (List ℕ)) (lines : List (List ℕ)) (texts : Texts) (last : Reading)
    → Reads (behind script_head texts) lines last
    → Reads (behind script_head (with_cert cert texts)) lines
    (record last { texts = with_cert cert last.texts })
script-reads cert [] texts last reads =
    ap (λ (r : Reading). record r { texts = with_cert cert r.texts }) reads
script-reads cert (line ∷ lines) texts last reads =
    let step = script-step texts line reads.0 reads.1 in (
      behind script_head (with_script_line line (with_cert cert texts)),
      script-line (with_cert cert texts) line step.0,
      script-reads cert lines (with_script_line line texts) last
          (subst (λ (r : Reading). Reads r lines last) (sym step.1) reads.2),
    )

-- a line that begins a section as the head does is the head
is-head : (line head : List ℕ) → bytes_eq line head ≡ true → line ≡ head
is-head line head is = (bytes_eq-Decides line head).0 is

-- the head of a script after a certificate
script-begins : (texts : Texts)
    → Step (behind cert_head texts) script_head
    (behind script_head (record texts { script = Some [] }))
script-begins texts k = refl

-- what is read after the head of the certificate
module _ (cert : Option (List ℕ)) where
  -- the reading has the texts of the other, but for the certificate
  abbrev pub IsBut : Reading → Reading → Type 0
  IsBut last other = other.texts ≡ with_cert cert last.texts

  -- the rest of the certificate's section is left out, and a script follows
  after-by : (s : Bool) (line : List ℕ) (lines : List (List ℕ)) (texts : Texts) (last : Reading)
      → bytes_eq line script_head ≡ s → Reads (behind cert_head texts) (line ∷ lines) last
      → ((texts : Texts) → Reads (behind cert_head texts) lines last
      → (other : Reading)
      × Reads (behind cert_head (with_cert cert texts)) (lines_after lines) other
      × IsBut last other) →
      (other : Reading)
      × Reads (behind cert_head (with_cert cert texts))
      (drop (cond (not s) (1 + prefix_len (λ line. not (begins_script line)) lines) 0) (line ∷ lines))
      other
      × IsBut last other
  after-by false line lines texts last is reads later =
      let step = cert-step texts line reads.0 is reads.1 in
      let count = prefix_len (λ line. not (begins_script line)) lines in
      let one : suc count ≡ 1 + count = omega arith in
      let found = later (with_cert_line line texts)
      (subst (λ (r : Reading). Reads r lines last) (sym step.1) reads.2) in (
        found.0,
        subst (λ k. Reads (behind cert_head (with_cert cert texts)) (drop k (line ∷ lines)) found.0)
            one found.1,
        found.2,
      )
  after-by true line lines texts last is reads later =
      let head = is-head line script_head is in
      let begins : Step (behind cert_head texts) script_head reads.0 =
      subst (λ l. Step (behind cert_head texts) l reads.0) head reads.1 in
      let next : behind script_head (record texts { script = Some [] }) ≡ reads.0 =
      let e : with_numbered_line (behind cert_head texts) (0, script_head) ≡ Ok reads.0 = begins 0 in
      cc in
      let rest = script-reads cert lines (record texts { script = Some [] }) last
      (subst (λ (r : Reading). Reads r lines last) (sym next) reads.2) in (
        record last { texts = with_cert cert last.texts },
        (
          behind script_head (with_cert cert (record texts { script = Some [] })),
          subst (λ l. Step (behind cert_head (with_cert cert texts)) l
              (behind script_head (record (with_cert cert texts) { script = Some [] })))
              (sym head) (script-begins (with_cert cert texts)),
          rest,
        ),
        refl,
      )

  after-reads : (lines : List (List ℕ)) (texts : Texts) (last : Reading)
      → Reads (behind cert_head texts) lines last →
      (other : Reading)
      × Reads (behind cert_head (with_cert cert texts)) (lines_after lines) other
      × IsBut last other
  after-reads [] texts last reads = (
    behind cert_head (with_cert cert texts),
    refl,
    ap (λ (r : Reading). with_cert cert r.texts) reads,
  )
  after-reads (line ∷ lines) texts last reads =
      after-by (bytes_eq line script_head) line lines texts last refl reads
      (λ texts reads. after-reads lines texts last reads)

-- One line that is neither head.

module _ (line : List ℕ) (lines : List (List ℕ)) (not_script : bytes_eq line script_head ≡ false) where
  after-other : lines_after (line ∷ lines) ≡ lines_after lines
  after-other =
      let count = prefix_len (λ line. not (begins_script line)) lines in
      let one : 1 + count ≡ suc count = omega arith in
      rw not_script (ap (λ k. drop k (line ∷ lines)) one)

  before-other : bytes_eq line cert_head ≡ false
      → lines_before (line ∷ lines) ≡ line ∷ lines_before lines
  before-other not_cert =
      let count = prefix_len (λ line. not (begins_certificate_or_script line)) lines in
      let one : 1 + count ≡ suc count = omega arith in
      rw (not_cert, not_script) (ap (λ k. take k (line ∷ lines)) one)

-- A certificate in its place.

-- the lines are those of the text, and none of them begins a section
abbrev pub AreCertLines : List (List ℕ) → List ℕ → Type 0
AreCertLines lines text = (texts : Texts)
    → Reads (behind cert_head (with_cert (Some []) texts)) lines
    (behind cert_head (with_cert (Some text) texts))

module _ (cert_lines : List (List ℕ)) (cert : List ℕ) (certs : AreCertLines cert_lines cert) where
  -- the lines with the certificate in its place
  abbrev pub placed_lines : List (List ℕ) → List (List ℕ)
  placed_lines lines = lines_before lines ++ cert_head ∷ cert_lines ++ lines_after lines

  -- the certificate's section, and what follows it
  section-reads : (reading : Reading) (rest : List (List ℕ)) (last : Reading) → IsEarly reading
      → Reads (behind cert_head (with_cert (Some cert) reading.texts)) rest last
      → Reads reading (cert_head ∷ cert_lines ++ rest) last
  section-reads reading rest last early reads =
      reads-append reading (cert_head ∷ cert_lines) rest
      (behind cert_head (with_cert (Some cert) reading.texts)) last (
        behind cert_head (with_cert (Some []) reading.texts),
        step-from reading 0 cert_head (behind cert_head (with_cert (Some []) reading.texts))
            (early reading.texts),
        certs reading.texts,
      )
      reads

  -- what the placed lines are read as
  abbrev pub IsPlaced : Reading → List (List ℕ) → Reading → Type 0
  IsPlaced reading lines last =
      (other : Reading) × Reads reading (placed_lines lines) other × IsBut (Some cert) last other

  cert-here : (reading : Reading) (lines : List (List ℕ)) (last : Reading) → IsEarly reading
      → Reads reading (cert_head ∷ lines) last → IsPlaced reading (cert_head ∷ lines) last
  cert-here reading lines last early reads =
      let e : with_numbered_line reading (0, cert_head) ≡ Ok reads.0 = reads.1 0 in
      let begins : with_numbered_line reading (0, cert_head)
      ≡ Ok (behind cert_head (with_cert (Some []) reading.texts)) = early reading.texts in
      let next : reads.0 ≡ behind cert_head (with_cert (Some []) reading.texts) = cc in
      let found = after-reads (Some cert) lines (with_cert (Some []) reading.texts) last
      (subst (λ (r : Reading). Reads r lines last) next reads.2) in
      let after = after-other cert_head lines refl in (
        found.0,
        section-reads reading (lines_after (cert_head ∷ lines)) found.0 early
            (subst (λ ls. Reads (behind cert_head (with_cert (Some cert) reading.texts)) ls found.0)
            (sym after) found.1),
        found.2,
      )

  script-here : (reading : Reading) (lines : List (List ℕ)) (last : Reading) → IsEarly reading
      → Reads reading (script_head ∷ lines) last → IsPlaced reading (script_head ∷ lines) last
  script-here reading lines last early reads =
      let next : behind script_head (record reading.texts { script = Some [] }) ≡ reads.0 =
      cond-ok _ _ reads.0 0 (reads.1 0) in
      let rest = script-reads (Some cert) lines (record reading.texts { script = Some [] }) last
      (subst (λ (r : Reading). Reads r lines last) (sym next) reads.2) in
      let other = record last { texts = with_cert (Some cert) last.texts } in (
        other,
        section-reads reading (script_head ∷ lines) other early (
          behind script_head (with_cert (Some cert) (record reading.texts { script = Some [] })),
          script-begins (with_cert (Some cert) reading.texts),
          rest,
        ),
        refl,
      )

  pub placed-reads : (reading : Reading) (lines : List (List ℕ)) (last : Reading) → IsEarly reading
      → Reads reading lines last → IsPlaced reading lines last
  placed-reads reading [] last early reads =
      let end = behind cert_head (with_cert (Some cert) reading.texts) in (
        end,
        section-reads reading [] end early refl,
        ap (λ (r : Reading). with_cert (Some cert) r.texts) reads,
      )
  placed-reads reading (line ∷ lines) last early reads = ⊎_elim
      (λ is. subst (λ l. IsPlaced reading (l ∷ lines) last) (sym (is-head line cert_head is))
      (cert-here reading lines last early
      (subst (λ l. Reads reading (l ∷ lines) last) (is-head line cert_head is) reads)))
      (λ not_cert. ⊎_elim
      (λ is. subst (λ l. IsPlaced reading (l ∷ lines) last) (sym (is-head line script_head is))
      (script-here reading lines last early
      (subst (λ l. Reads reading (l ∷ lines) last) (is-head line script_head is) reads)))
      (λ not_script.
      let found = placed-reads reads.0 lines last
      (early-step reading line reads.0 not_cert not_script early reads.1) reads.2 in (
        found.0,
        subst (λ ls. Reads reading (ls ++ cert_head ∷ cert_lines ++ lines_after (line ∷ lines)) found.0)
            (sym (before-other line lines not_script not_cert))
            (subst (λ ls. Reads reading (line ∷ lines_before lines ++ cert_head ∷ cert_lines ++ ls) found.0)
            (sym (after-other line lines not_script))
            (reads.0, reads.1, found.1)),
        found.2,
      ))
      (cases_Bool (bytes_eq line script_head)))
      (cases_Bool (bytes_eq line cert_head))
