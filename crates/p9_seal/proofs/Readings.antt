-- What lines make of a bundle as far as it is read, whatever their numbers.
use Rattle.std.proofs.Common.{◌≡◌, ℕ, ◌+◌, Bool, true, false, cond, List, [], ◌∷◌, ◌++◌}
use Rattle.std.proofs.Common.{Some, None, Result, Ok, Err, refl, sym, ap, ◌∙◌, subst}
use Rattle.std.specs.Prelude.{codes, nat_eq}
use Rattle.std.specs.List.{enumerate_from, list_all, starts_with}
use Rattle.std.specs.Option.{option_map}
use Rattle.std.specs.Str.{bytes_eq}
use Rattle.p9_base.specs.Line.{is_blank}
use Rattle.p9_base.specs.Results.{and_then, try_fold}
use Rattle.p9_prepared.specs.Section.{may_follow, section_of}
use Rattle.p9_prepared.specs.Bundle.{Reading, Texts, begun, continued, with_line, with_line_in}
use Rattle.p9_prepared.specs.Bundle.{with_numbered_line}
use Rattle.p9_prepared.specs.Bundle.{with_section}
use Rattle.p9_seal.specs.Text.{cert_head, script_head}

-- Lines by any numbers.

-- the line makes this of it
abbrev pub Step : Reading → List ℕ → Reading → Type 0
Step reading line next = (k : ℕ) → with_numbered_line reading (k, line) ≡ Ok next

-- the lines make this of it
abbrev pub Reads : Reading → List (List ℕ) → Reading → Type 0
Reads reading [] last = reading ≡ last
Reads reading (line ∷ lines) last =
    (next : Reading) × Step reading line next × Reads next lines last

-- a value, where the test passes
pub cond-ok : (b : Bool) (x next : Reading) (k : ℕ) → cond b (Ok x) (Err k) ≡ Ok next → x ≡ next
cond-ok true x next k e = cc
cond-ok false x next k e = absurd (cc)

cond-any : (b : Bool) (x next : Reading) (k j : ℕ) → cond b (Ok x) (Err k) ≡ Ok next
    → cond b (Ok x) (Err j) ≡ Ok next
cond-any true x next k j e = e
cond-any false x next k j e = absurd (cc)

begun-any : (reading : Reading) (k j : ℕ) (line : List ℕ) (next : Reading)
    → begun reading k (section_of line) ≡ Ok next → begun reading j (section_of line) ≡ Ok next
begun-any reading k j line next =
    elim (section_of line) as (λ s. begun reading k s ≡ Ok next → begun reading j s ≡ Ok next) [
      | None ↦ λ e. absurd (cc)
      | Some section ↦ λ e. cond-any (may_follow reading.last section)
          (record { texts = with_section section reading.texts; last = Some section }) next k j e
    ]

continued-any : (reading : Reading) (k j : ℕ) (line : List ℕ) (next : Reading)
    → continued reading k line reading.last ≡ Ok next
    → continued reading j line reading.last ≡ Ok next
continued-any reading k j line next =
    elim reading.last as (λ s. continued reading k line s ≡ Ok next
    → continued reading j line s ≡ Ok next) [
      | None ↦ λ e. cond-any (list_all is_blank line) reading next k j e
      | Some section ↦ λ e. e
    ]

step-any : (b : Bool) (reading : Reading) (k j : ℕ) (line : List ℕ) (next : Reading)
    → cond b (begun reading k (section_of line)) (continued reading k line reading.last) ≡ Ok next
    → cond b (begun reading j (section_of line)) (continued reading j line reading.last) ≡ Ok next
step-any true reading k j line next e = begun-any reading k j line next e
step-any false reading k j line next e = continued-any reading k j line next e

-- a line that makes something of it makes the same by any number
pub step-from : (reading : Reading) (k : ℕ) (line : List ℕ) (next : Reading)
    → with_numbered_line reading (k, line) ≡ Ok next → Step reading line next
step-from reading k line next e j =
    step-any (starts_with nat_eq line (codes "%%")) reading k j line next e

-- the parts of what is done in turn
pub and_then-parts : {X Y : Type 0} (r : Result X ℕ) (f : X → Result Y ℕ) (y : Y)
    → and_then r f ≡ Ok y → (x : X) × (r ≡ Ok x) × (f x ≡ Ok y)
and_then-parts (Ok x) f y e = (x, refl, e)
and_then-parts (Err k) f y e = absurd (cc)

pub reads-from : (k : ℕ) (reading : Reading) (lines : List (List ℕ)) (last : Reading)
    → try_fold with_numbered_line reading (enumerate_from k lines) ≡ Ok last
    → Reads reading lines last
reads-from k reading [] last e = cc
reads-from k reading (line ∷ lines) last e =
    let parts = and_then-parts (with_numbered_line reading (k, line))
    (λ next. try_fold with_numbered_line next (enumerate_from (k + 1) lines)) last e in (
      parts.0,
      step-from reading k line parts.0 parts.1,
      reads-from (k + 1) parts.0 lines last parts.2,
    )

pub fold-from : (k : ℕ) (reading : Reading) (lines : List (List ℕ)) (last : Reading)
    → Reads reading lines last
    → try_fold with_numbered_line reading (enumerate_from k lines) ≡ Ok last
fold-from k reading [] last reads = ap Ok reads
fold-from k reading (line ∷ lines) last reads =
    ap (λ r. and_then r (λ next. try_fold with_numbered_line next (enumerate_from (k + 1) lines)))
    (reads.1 k)
    ∙ fold-from (k + 1) reads.0 lines last reads.2

pub reads-append : (reading : Reading) (xs ys : List (List ℕ)) (middle last : Reading)
    → Reads reading xs middle → Reads middle ys last → Reads reading (xs ++ ys) last
reads-append reading [] ys middle last first second =
    subst (λ (r : Reading). Reads r ys last) (sym first) second
reads-append reading (x ∷ xs) ys middle last first second =
    (first.0, first.1, reads-append first.0 xs ys middle last first.2 second)

pub reads-split : (reading : Reading) (xs ys : List (List ℕ)) (last : Reading)
    → Reads reading (xs ++ ys) last
    → (middle : Reading) × Reads reading xs middle × Reads middle ys last
reads-split reading [] ys last reads = (reading, refl, reads)
reads-split reading (x ∷ xs) ys last reads =
    let rest = reads-split reads.0 xs ys last reads.2 in
    (rest.0, (reads.0, reads.1, rest.1), rest.2)

-- One line, by the section that was begun last.

-- texts, after the line that begins a section
abbrev pub behind : List ℕ → Texts → Reading
behind head texts = record { texts = texts; last = section_of head }

-- one line more of a script, and of a certificate
abbrev pub with_script_line : List ℕ → Texts → Texts
with_script_line line texts = record texts { script = option_map (with_line line) texts.script }

abbrev pub with_cert_line : List ℕ → Texts → Texts
with_cert_line line texts = record texts { cert = option_map (with_line line) texts.cert }

module _ (texts : Texts) where
  -- after the head of a script each line belongs to it
  script-by : (b w n c s : Bool) (line : List ℕ) (next : Reading) →
      cond b
      (begun (behind script_head texts) 0
      (cond w (section_of (codes "%% world"))
      (cond n (section_of (codes "%% ns")) (cond c (section_of cert_head)
      (cond s (section_of script_head) None)))))
      (Ok (behind script_head (with_script_line line texts))) ≡ Ok next
      → (b ≡ false) × (behind script_head (with_script_line line texts) ≡ next)
  script-by false w n c s line next e = (refl, cc)
  script-by true true n c s line next e = absurd (cc)
  script-by true false true c s line next e = absurd (cc)
  script-by true false false true s line next e = absurd (cc)
  script-by true false false false true line next e = absurd (cc)
  script-by true false false false false line next e = absurd (cc)

  pub script-step : (line : List ℕ) (next : Reading) → Step (behind script_head texts) line next
      → (starts_with nat_eq line (codes "%%") ≡ false)
      × (behind script_head (with_script_line line texts) ≡ next)
  script-step line next step =
      script-by (starts_with nat_eq line (codes "%%")) (bytes_eq line (codes "%% world"))
      (bytes_eq line (codes "%% ns")) (bytes_eq line cert_head) (bytes_eq line script_head)
      line next (step 0)

  -- after the head of a certificate each line belongs to that, up to the head of a script
  cert-by : (b w n c s : Bool) (line : List ℕ) (next : Reading) → s ≡ false →
      cond b
      (begun (behind cert_head texts) 0
      (cond w (section_of (codes "%% world"))
      (cond n (section_of (codes "%% ns")) (cond c (section_of cert_head)
      (cond s (section_of script_head) None)))))
      (Ok (behind cert_head (with_cert_line line texts))) ≡ Ok next
      → (b ≡ false) × (behind cert_head (with_cert_line line texts) ≡ next)
  cert-by false w n c s line next other e = (refl, cc)
  cert-by true true n c s line next other e = absurd (cc)
  cert-by true false true c s line next other e = absurd (cc)
  cert-by true false false true s line next other e = absurd (cc)
  cert-by true false false false true line next other e = absurd (cc)
  cert-by true false false false false line next other e = absurd (cc)

  pub cert-step : (line : List ℕ) (next : Reading) → bytes_eq line script_head ≡ false
      → Step (behind cert_head texts) line next
      → (starts_with nat_eq line (codes "%%") ≡ false)
      × (behind cert_head (with_cert_line line texts) ≡ next)
  cert-step line next other step =
      cert-by (starts_with nat_eq line (codes "%%")) (bytes_eq line (codes "%% world"))
      (bytes_eq line (codes "%% ns")) (bytes_eq line cert_head) (bytes_eq line script_head)
      line next other (step 0)

-- the section of a certificate may begin
abbrev pub IsEarly : Reading → Type 0
IsEarly reading = (texts : Texts)
    → begun (record reading { texts = texts }) 0 (section_of cert_head)
    ≡ Ok (behind cert_head (record texts { cert = Some [] }))

world-early : (texts : Texts) (next : Reading) → behind (codes "%% world") texts ≡ next → IsEarly next
world-early texts next is = subst IsEarly is (λ _. refl)

ns-early : (texts : Texts) (next : Reading) → behind (codes "%% ns") texts ≡ next → IsEarly next
ns-early texts next is = subst IsEarly is (λ _. refl)

begun-early : (w n c s : Bool) (reading next : Reading) → c ≡ false → s ≡ false
    → begun reading 0
    (cond w (section_of (codes "%% world"))
    (cond n (section_of (codes "%% ns")) (cond c (section_of cert_head)
    (cond s (section_of script_head) None)))) ≡ Ok next → IsEarly next
begun-early true n c s reading next not_cert not_script e =
    world-early (record reading.texts { world = Some [] }) next (cond-ok _ _ next 0 e)
begun-early false true c s reading next not_cert not_script e =
    ns-early (record reading.texts { ns = Some [] }) next (cond-ok _ _ next 0 e)
begun-early false false true s reading next not_cert not_script e = absurd (cc)
begun-early false false false true reading next not_cert not_script e = absurd (cc)
begun-early false false false false reading next not_cert not_script e = absurd (cc)

continued-last : (reading : Reading) (line : List ℕ) (next : Reading)
    → continued reading 0 line reading.last ≡ Ok next → reading.last ≡ next.last
continued-last reading line next =
    elim reading.last as (λ s. continued reading 0 line s ≡ Ok next → reading.last ≡ next.last) [
      | None ↦ λ e. ap (λ (r : Reading). r.last) (cond-ok (list_all is_blank line) reading next 0 e)
      | Some section ↦ λ e.
          let is : record reading { texts = with_line_in section line reading.texts } ≡ next = cc in
          ap (λ (r : Reading). r.last) is
    ]

continued-early : (reading : Reading) (line : List ℕ) (next : Reading)
    → IsEarly reading → continued reading 0 line reading.last ≡ Ok next → IsEarly next
continued-early reading line next early e =
    subst (λ s. (texts : Texts) → begun (record { texts = texts; last = s }) 0 (section_of cert_head)
    ≡ Ok (behind cert_head (record texts { cert = Some [] })))
    (continued-last reading line next e) early

early-by : (b : Bool) (reading : Reading) (line : List ℕ) (next : Reading)
    → bytes_eq line cert_head ≡ false → bytes_eq line script_head ≡ false → IsEarly reading →
    cond b (begun reading 0 (section_of line)) (continued reading 0 line reading.last) ≡ Ok next
    → IsEarly next
early-by true reading line next not_cert not_script early e =
    begun-early (bytes_eq line (codes "%% world")) (bytes_eq line (codes "%% ns"))
    (bytes_eq line cert_head) (bytes_eq line script_head) reading next not_cert not_script e
early-by false reading line next not_cert not_script early e =
    continued-early reading line next early e

pub early-step : (reading : Reading) (line : List ℕ) (next : Reading)
    → bytes_eq line cert_head ≡ false → bytes_eq line script_head ≡ false
    → IsEarly reading → Step reading line next → IsEarly next
early-step reading line next not_cert not_script early step =
    early-by (starts_with nat_eq line (codes "%%")) reading line next not_cert not_script early (step 0)
