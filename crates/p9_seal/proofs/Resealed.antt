-- The bundle of an input with another certificate.
use Rattle.std.proofs.Common.{◌≡◌, ℕ, Bool, true, false, cond, List, [], ◌∷◌, ◌++◌}
use Rattle.std.proofs.Common.{Some, Result, Ok, refl, sym, ap, ◌∙◌, subst}
use Rattle.std.proofs.Common.{append_assoc, length, not, take, ◌-◌}
use Rattle.std.specs.Prelude.{codes, nat_eq}
use Rattle.std.specs.List.{AllByRecursion, enumerate_from, flat_map, prefix_len, starts_with}
use Rattle.std.proofs.lemmas.Grind.{flat_map-append}
use Rattle.std.proofs.lemmas.List.{append-nil}
use Rattle.p9_base.specs.Line.{lines_of}
use Rattle.p9_base.specs.Results.{and_then, try_fold}
use Rattle.p9_prepared.specs.Bundle.{Reading, Texts, bundle_of, unread, with_numbered_line}
use Rattle.p9_prepared.specs.Statements.{SameStatements, statements_in}
use Rattle.p9_seal.specs.Sections.{HasCertificate}
use Rattle.p9_prepared.specs.Bundle.{ended}
use Rattle.p9_seal.specs.Text.{begins_certificate_or_script, begins_script, cert_head}
use Rattle.p9_base.specs.Line.{ends_empty}
use Rattle.p9_base.specs.Line.{whole_lines}
use Rattle.p9_seal.specs.Text.{lines_after, lines_before, sealed_text}
use Rattle.p9_seal.proofs.Blanks.{before, blank-step, known-reads, last-reads}
use Rattle.p9_seal.proofs.Pieces.{AreLines, drop-clean, lines_of-clean, lines_of-ended, take-clean}
use Rattle.p9_seal.proofs.Pieces.{whole_lines-last}
use Rattle.p9_seal.proofs.Places.{AreCertLines, placed-reads, placed_lines, with_cert}
use Rattle.p9_seal.proofs.Readings.{Reads, and_then-parts, behind, fold-from, reads-append}
use Rattle.p9_seal.proofs.Readings.{reads-from, reads-split, step-from}

-- A certificate's lines.

-- the line begins no section
abbrev pub BeginsNone : List ℕ → Type 0
BeginsNone line = starts_with nat_eq line (codes "%%") ≡ false

lines-join : (text : List ℕ) (lines : List (List ℕ)) → AllByRecursion BeginsNone lines
    → (texts : Texts) → Reads (behind cert_head (with_cert (Some text) texts)) lines
    (behind cert_head (with_cert (Some (text ++ flat_map ended lines)) texts))
lines-join text [] none texts =
    ap (λ t. behind cert_head (with_cert (Some t) texts)) (sym (append-nil text))
lines-join text (line ∷ lines) none texts = (
  behind cert_head (with_cert (Some (text ++ line ++ 10 ∷ [])) texts),
  step-from (behind cert_head (with_cert (Some text) texts)) 0 line
      (behind cert_head (with_cert (Some (text ++ line ++ 10 ∷ [])) texts)) (rw none.0 refl),
  subst
      (λ t. Reads (behind cert_head (with_cert (Some (text ++ line ++ 10 ∷ [])) texts)) lines
      (behind cert_head (with_cert (Some t) texts)))
      (ap (λ t. t ++ flat_map ended lines) (append_assoc text line (10 ∷ []))
      ∙ append_assoc text (line ++ 10 ∷ []) (flat_map ended lines))
      (lines-join (text ++ line ++ 10 ∷ []) lines none.1 texts),
)

append-clean : (xs ys : List (List ℕ)) → AreLines xs → AreLines ys → AreLines (xs ++ ys)
append-clean [] ys first second = second
append-clean (x ∷ xs) ys first second = (first.0, append-clean xs ys first.1 second)

-- What the sections say, from the input's to those of the sealed text.
said : (cert : List ℕ) (texts all whole there next : Texts) → all ≡ texts → SameStatements whole all
    → there ≡ with_cert (Some cert) whole → SameStatements there next
    → HasCertificate cert texts next
said cert texts all whole there next is kept placed blank =
    record {
      world =
          sym blank.world ∙ ap (λ (t : Texts). statements_in t.world) placed
          ∙ kept.world ∙ ap (λ (t : Texts). statements_in t.world) is;
      ns =
          sym blank.ns ∙ ap (λ (t : Texts). statements_in t.ns) placed
          ∙ kept.ns ∙ ap (λ (t : Texts). statements_in t.ns) is;
      cert = sym blank.cert ∙ ap (λ (t : Texts). statements_in t.cert) placed;
      script =
          sym blank.script ∙ ap (λ (t : Texts). statements_in t.script) placed
          ∙ kept.script ∙ ap (λ (t : Texts). statements_in t.script) is;
    }

-- the lines of a text that has another as its certificate
module _ (input : List ℕ) (cert_lines : List (List ℕ)) (cert : List ℕ)
    (is : flat_map ended cert_lines ≡ cert) (clean : AreLines cert_lines)
    (begin_none : AllByRecursion BeginsNone cert_lines) where
  -- the certificate's lines are read as its text
  certs : AreCertLines cert_lines cert
  certs texts =
      subst (λ t. Reads (behind cert_head (with_cert (Some []) texts)) cert_lines
      (behind cert_head (with_cert (Some t) texts))) is (lines-join [] cert_lines begin_none texts)

  abbrev placed : List (List ℕ)
  placed = placed_lines cert_lines cert certs (whole_lines input)

  whole-clean : AreLines (whole_lines input)
  unfolding whole_lines
  whole-clean = clean-by (ends_empty (lines_of input))
    where
      clean-by : (b : Bool)
          → AreLines (cond b (take (length (lines_of input) - 1) (lines_of input)) (lines_of input))
      clean-by true =
          take-clean (length (lines_of input) - 1) (lines_of input) (lines_of-clean input)
      clean-by false = lines_of-clean input

  placed-clean : AreLines placed
  placed-clean =
      let lines = whole_lines input in
      append-clean (lines_before lines ++ cert_head ∷ cert_lines) (lines_after lines)
      (append-clean (lines_before lines) (cert_head ∷ cert_lines)
      (take-clean (prefix_len (λ line. not (begins_certificate_or_script line)) lines) lines whole-clean) (
        (refl, (refl, (refl, (refl, (refl, (refl, (refl, tt))))))),
        clean,
      ))
      (drop-clean (prefix_len (λ line. not (begins_script line)) lines) lines whole-clean)

  sealed-lines : lines_of (sealed_text input cert) ≡ placed ++ [] ∷ []
  unfolding sealed_text
  sealed-lines =
      let lines = whole_lines input in
      let front = lines_before lines in
      let back = lines_after lines in
      let joined : flat_map ended front ++ ended cert_head ++ cert ++ flat_map ended back
      ≡ flat_map ended placed =
      ap (λ t. flat_map ended front ++ ended cert_head ++ t ++ flat_map ended back) (sym is)
      ∙ ap (λ t. t ++ flat_map ended back)
      (append_assoc (flat_map ended front) (ended cert_head) (flat_map ended cert_lines)
      ∙ sym (flat_map-append ended front (cert_head ∷ cert_lines)))
      ∙ sym (flat_map-append ended (front ++ cert_head ∷ cert_lines) back) in
      ap lines_of (joined ∙ sym (append-nil (flat_map ended placed)))
      ∙ lines_of-ended placed [] placed-clean

  -- the sealed text is a bundle, if the input is one
  pub resealed : (texts : Texts) → bundle_of input ≡ Ok texts
      → (sealed : Texts) × (bundle_of (sealed_text input cert) ≡ Ok sealed) × HasCertificate cert texts sealed
  resealed texts found =
      let all = and_then-parts
      (try_fold with_numbered_line unread (enumerate_from 1 (lines_of input)))
      (λ reading. Ok reading.texts) texts found in
      let end = whole_lines-last input in
      let reads : Reads unread (whole_lines input ++ end.0) all.0 =
      subst (λ ls. Reads unread ls all.0) end.2 (reads-from 1 unread (lines_of input) all.0 all.1) in
      let parts = reads-split unread (whole_lines input) end.0 all.0 reads in
      let known = known-reads (whole_lines input) unread parts.0 (before unread.texts) parts.1 in
      let kept = last-reads end.0 parts.0 all.0 known end.1 parts.2 in
      let texts_are : all.0.texts ≡ texts = cc in
      let there = placed-reads cert_lines cert certs unread (whole_lines input) parts.0 (λ _. refl) parts.1 in
      let known_there = known-reads placed unread there.0 (before unread.texts) there.1 in
      let next = blank-step there.0 known_there in
      let whole : Reads unread (placed ++ [] ∷ []) next.0 =
      reads-append unread placed ([] ∷ []) there.0 next.0 there.1 (next.0, next.1, refl) in
      let in_place : there.0.texts ≡ with_cert (Some cert) parts.0.texts = there.2 in
      let said_there = said cert texts all.0.texts parts.0.texts there.0.texts next.0.texts texts_are kept
      in_place next.2 in (
        next.0.texts,
        ap (λ ls. and_then (try_fold with_numbered_line unread (enumerate_from 1 ls))
            (λ (reading : Reading). let read : Result Texts ℕ = Ok reading.texts in read)) sealed-lines
            ∙ ap (λ (all : Result Reading ℕ). and_then all
            (λ (reading : Reading). let read : Result Texts ℕ = Ok reading.texts in read))
            (fold-from 1 unread (placed ++ [] ∷ []) next.0 whole),
        said_there,
      )
