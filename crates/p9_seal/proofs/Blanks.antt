-- An empty line more at the end of a text.
use Rattle.std.proofs.Common.{◌≡◌, ℕ, Bool, true, false, cond, List, [], ◌∷◌}
use Rattle.std.proofs.Common.{Some, None, Ok, refl, ◌∙◌, subst}
use Rattle.std.specs.Prelude.{codes, nat_eq}
use Rattle.std.specs.List.{list_all, starts_with}
use Rattle.std.specs.Option.{option_map}
use Rattle.std.specs.Str.{bytes_eq}
use Rattle.p9_base.specs.Line.{is_blank}
use Rattle.p9_prepared.specs.Bundle.{Reading, Texts, begun, continued, with_line}
use Rattle.p9_prepared.specs.Section.{section_of}
use Rattle.p9_prepared.specs.Bundle.{with_numbered_line}
use Rattle.p9_seal.specs.Text.{cert_head, script_head}
use Rattle.p9_prepared.specs.Statements.{SameStatements}
use Rattle.p9_prepared.proofs.Statements.{same-itself, statements_in-blank}
use Rattle.p9_seal.proofs.Pieces.{LastLine, none, empty}
use Rattle.p9_seal.proofs.Readings.{Reads, Step, behind, cond-ok, with_cert_line}
use Rattle.p9_seal.proofs.Readings.{with_script_line}

-- The section that was begun last.

-- it is none, or one of the four
pub data IsKnown : Reading → Type 0 where
  before : (texts : Texts) → IsKnown (record { texts = texts; last = None })
  world : (texts : Texts) → IsKnown (behind (codes "%% world") texts)
  ns : (texts : Texts) → IsKnown (behind (codes "%% ns") texts)
  cert : (texts : Texts) → IsKnown (behind cert_head texts)
  script : (texts : Texts) → IsKnown (behind script_head texts)

begun-known : (w n c s : Bool) (reading next : Reading) →
    begun reading 0
    (cond w (section_of (codes "%% world"))
    (cond n (section_of (codes "%% ns")) (cond c (section_of cert_head)
    (cond s (section_of script_head) None)))) ≡ Ok next → IsKnown next
begun-known true n c s reading next e =
    subst IsKnown (cond-ok _ _ next 0 e) (world (record reading.texts { world = Some [] }))
begun-known false true c s reading next e =
    subst IsKnown (cond-ok _ _ next 0 e) (ns (record reading.texts { ns = Some [] }))
begun-known false false true s reading next e =
    subst IsKnown (cond-ok _ _ next 0 e) (cert (record reading.texts { cert = Some [] }))
begun-known false false false true reading next e =
    subst IsKnown (cond-ok _ _ next 0 e) (script (record reading.texts { script = Some [] }))
begun-known false false false false reading next e = absurd (cc)

continued-known : (reading : Reading) (line : List ℕ) (next : Reading) → IsKnown reading
    → continued reading 0 line reading.last ≡ Ok next → IsKnown next
continued-known reading line next (before texts) e =
    subst IsKnown
    (cond-ok (list_all is_blank line) (record { texts = texts; last = None }) next 0 e)
    (before texts)
continued-known reading line next (world texts) e =
    let known = record texts { world = option_map (with_line line) texts.world } in
    let is : behind (codes "%% world") known ≡ next = cc in
    subst IsKnown is (world known)
continued-known reading line next (ns texts) e =
    let known = record texts { ns = option_map (with_line line) texts.ns } in
    let is : behind (codes "%% ns") known ≡ next = cc in
    subst IsKnown is (ns known)
continued-known reading line next (cert texts) e =
    let is : behind cert_head (with_cert_line line texts) ≡ next = cc in
    subst IsKnown is (cert (with_cert_line line texts))
continued-known reading line next (script texts) e =
    let is : behind script_head (with_script_line line texts) ≡ next = cc in
    subst IsKnown is (script (with_script_line line texts))

known-by : (b : Bool) (reading : Reading) (line : List ℕ) (next : Reading) → IsKnown reading →
    cond b (begun reading 0 (section_of line)) (continued reading 0 line reading.last) ≡ Ok next
    → IsKnown next
known-by true reading line next known e =
    begun-known (bytes_eq line (codes "%% world")) (bytes_eq line (codes "%% ns"))
    (bytes_eq line cert_head) (bytes_eq line script_head) reading next e
known-by false reading line next known e = continued-known reading line next known e

pub known-reads : (lines : List (List ℕ)) (reading last : Reading) → IsKnown reading
    → Reads reading lines last → IsKnown last
known-reads [] reading last known reads = subst IsKnown reads known
known-reads (line ∷ lines) reading last known reads =
    known-reads lines reads.0 last
    (known-by (starts_with nat_eq line (codes "%%")) reading line reads.0 known (reads.1 0)) reads.2

-- An empty line is read, and each section says the same.
pub blank-step : (reading : Reading) → IsKnown reading
    → (next : Reading) × Step reading [] next × SameStatements reading.texts next.texts
blank-step reading (before texts) = (record { texts = texts; last = None }, (λ _. refl), same-itself texts)
blank-step reading (world texts) = (
  behind (codes "%% world") (record texts { world = option_map (with_line []) texts.world }),
  (λ _. refl),
  record { world = statements_in-blank texts.world; ns = refl; cert = refl; script = refl },
)
blank-step reading (ns texts) = (
  behind (codes "%% ns") (record texts { ns = option_map (with_line []) texts.ns }),
  (λ _. refl),
  record { world = refl; ns = statements_in-blank texts.ns; cert = refl; script = refl },
)
blank-step reading (cert texts) = (
  behind cert_head (with_cert_line [] texts),
  (λ _. refl),
  record { world = refl; ns = refl; cert = statements_in-blank texts.cert; script = refl },
)
blank-step reading (script texts) = (
  behind script_head (with_script_line [] texts),
  (λ _. refl),
  record { world = refl; ns = refl; cert = refl; script = statements_in-blank texts.script },
)

-- what is after the whole lines of a text changes nothing of what the sections say
pub last-reads : (last : List (List ℕ)) (reading after : Reading) → IsKnown reading
    → LastLine last → Reads reading last after → SameStatements reading.texts after.texts
last-reads last reading after known none reads =
    subst (λ (r : Reading). SameStatements reading.texts r.texts) reads (same-itself reading.texts)
last-reads last reading after known empty reads =
    let next = blank-step reading known in
    let e : with_numbered_line reading (0, []) ≡ Ok reads.0 = reads.1 0 in
    let other : with_numbered_line reading (0, []) ≡ Ok next.0 = next.1 0 in
    let is : next.0 ≡ reads.0 = cc in
    subst (λ (r : Reading). SameStatements reading.texts r.texts) (is ∙ reads.2) next.2
