-- The lines of an input are bad section lines where a bundle has none such.
use Rattle.std.proofs.Common.{◌≡◌, ℕ, ◌+◌, ◌<◌, ◌≤◌, Bor, Bool, true, false, List, [], ◌∷◌, ◌++◌, Option}
use Rattle.std.proofs.Common.{Some, None, Result, Err, ap, drop, get_or, is_some, length, map, refl}
use Rattle.std.proofs.Common.{sym, ◌∙◌}
use Rattle.std.specs.List.{enumerate_from, list_all}
use Rattle.std.specs.Result.{result_err}
use Rattle.p9_base.specs.Line.{is_blank, lines_of}
use Rattle.p9_base.specs.Results.{try_fold}
use Rattle.p9_prepared.specs.Bundle.{Reading, bundle_of, unread, with_line_in, with_numbered_line}
use Rattle.p9_prepared.specs.Bundle.{with_section}
use Rattle.p9_prepared.specs.Head.{IsBadHead, IsHead, is_marked}
use Rattle.p9_prepared.specs.Layout.{IsRead, IsWhole, Steps, behind, first_bad, is_bad}
use Rattle.p9_prepared.specs.Section.{may_follow, section_of}
use Rattle.p9_prepared.specs.declared.head.Head.{Head}
use Rattle.p9_prepared.specs.declared.head.Head.TheVariants.{Other, Begins, Bad}
use Rattle.p9_prepared.specs.declared.layout.InputLine.{InputLine}
use Rattle.p9_prepared.specs.declared.layout.Progress.{Progress}
use Rattle.p9_prepared.specs.declared.section.Section.{Section}
use Rattle.p9_prepared.proofs.Bundles.{line-bad, line-read, lines-end}

-- A line, of this number, where no line before it was bad.
module _ (p : Progress) (line : List ℕ) (begun : Bool) (whole : IsWhole p) (number : ℕ)
    (reading : Reading) (same : reading.last ≡ p.last) where
  -- one that says nothing of sections
  steps-other : is_marked line ≡ false → (last : Option Section) → p.last ≡ last → (blank : Bool)
      → list_all is_blank line ≡ blank → (bad : Bool) → is_bad p Other line begun ≡ bad
      → Steps number bad (behind p Other bad) line reading
  steps-other m None e true b true i =
      let h : p.headed ≡ false = whole.1 ∙ ap is_some e in
      absurd (let t : false ≡ true = rw (h, b) at i in cc)
  steps-other m None e true b false i =
      (reading, rw (m, same ∙ e, b) refl, same, (rw whole.0 refl, whole.1))
  steps-other m None e false b true i = rw (m, same ∙ e, b) refl
  steps-other m None e false b false i =
      let h : p.headed ≡ false = whole.1 ∙ ap is_some e in
      absurd (let t : true ≡ false = rw (h, b) at i in cc)
  steps-other m (Some s) e blank b true i =
      let h : p.headed ≡ true = whole.1 ∙ ap is_some e in
      absurd (let t : false ≡ true = rw h at i in cc)
  steps-other m (Some s) e blank b false i = (
    record reading { texts = with_line_in s line reading.texts },
    rw (m, same ∙ e) refl,
    same,
    (rw whole.0 refl, whole.1),
  )

  -- one that begins a section
  steps-begins : (section : Section) → is_marked line ≡ true → section_of line ≡ Some section
      → (may : Bool) → may_follow p.last section ≡ may → (bad : Bool)
      → is_bad p (Begins section) line begun ≡ bad
      → Steps number bad (behind p (Begins section) bad) line reading
  steps-begins section m s true f true i =
      absurd (let t : false ≡ true = rw (whole.0, f) at i in cc)
  steps-begins section m s true f false i =
      let follows : may_follow reading.last section ≡ true =
      ap (λ last. may_follow last section) same ∙ f in (
        record { texts = with_section section reading.texts; last = Some section },
        rw (m, s, follows) refl,
        refl,
        (rw whole.0 refl, refl),
      )
  steps-begins section m s false f true i =
      let follows : may_follow reading.last section ≡ false =
      ap (λ last. may_follow last section) same ∙ f in
      rw (m, s, follows) refl
  steps-begins section m s false f false i =
      absurd (let t : true ≡ false = rw (whole.0, f) at i in cc)

  -- one that is to begin a section and begins none, or is before the first one
  bad-head : (marked : Bool) → is_marked line ≡ marked → IsBadHead line p.headed marked
      → (last : Option Section) → p.last ≡ last
      → with_numbered_line reading (number, line) ≡ Err number
  bad-head true m s last e = rw (m, s) refl
  bad-head false m b None e = rw (m, same ∙ e, b.1) refl
  bad-head false m b (Some s) e =
      absurd (let t : true ≡ false = sym (whole.1 ∙ ap is_some e) ∙ b.0 in cc)

  -- any
  pub steps-by : (head : Head) → IsHead line p.headed head
      → Steps number (is_bad p head line begun) (behind p head (is_bad p head line begun)) line
      reading
  steps-by Other m = steps-other m p.last refl (list_all is_blank line) refl _ refl
  steps-by (Begins section) h =
      steps-begins section h.0 h.1 (may_follow p.last section) refl _ refl
  steps-by (Bad section way) b = bad-head (is_marked line) refl b p.last refl

-- The first bad line, as far as an input is read, with what the lines that are left make of the
-- sections so far, and what all of them make.
abbrev pub Holds : Option ℕ → Progress → (left : Reading → Result Reading ℕ)
    → (all : Result Reading ℕ) → Type 0
Holds None p left all =
    (reading : Reading) × (reading.last ≡ p.last) × IsWhole p × (left reading ≡ all)
Holds (Some n) p left all = all ≡ Err n

-- where no line so far is bad, a line more is the first bad one if it is bad
first-more : (found : List InputLine) (line : InputLine) → first_bad found ≡ None
    → first_bad (found ++ line ∷ []) ≡ first_bad (line ∷ [])
first-more [] line none = refl
first-more (x ∷ xs) line none = by (is_some x.way) refl (first-more xs line)
  where
    by : (b : Bool) → is_some x.way ≡ b
        → (first_bad xs ≡ None → first_bad (xs ++ line ∷ []) ≡ first_bad (line ∷ []))
        → first_bad (x ∷ (xs ++ line ∷ [])) ≡ first_bad (line ∷ [])
    by true e others = absurd (let t : Some x.number ≡ None = rw e at none in cc)
    by false e others = rw e (others (rw e at none))

-- else the first one is the same
first-kept : (found : List InputLine) (line : InputLine) (n : ℕ) → first_bad found ≡ Some n
    → first_bad (found ++ line ∷ []) ≡ Some n
first-kept [] line n some = absurd cc
first-kept (x ∷ xs) line n some = by (is_some x.way) refl (first-kept xs line n)
  where
    by : (b : Bool) → is_some x.way ≡ b
        → (first_bad xs ≡ Some n → first_bad (xs ++ line ∷ []) ≡ Some n)
        → first_bad (x ∷ (xs ++ line ∷ [])) ≡ Some n
    by true e others = rw e (rw e at some)
    by false e others = rw e (others (rw e at some))

-- what the lines from a place on make of the sections so far
abbrev pub left_from : List (List ℕ) → ℕ → Reading → Result Reading ℕ
left_from lines k reading = try_fold with_numbered_line reading (drop k (enumerate_from 1 lines))

module _ (items : List (Bor (List ℕ))) (lines : List (List ℕ))
    (same : map (λ line. line.now) items ≡ lines) (i : ℕ) where
  -- one line more
  module _ (d : Bor (List ℕ)) (short : i < length items) (all : Result Reading ℕ)
      (line : InputLine) (new : Progress) (number : line.number ≡ i + 1) where
    more-by : (reading : Reading) → left_from lines i reading ≡ all → (b : Bool) → is_some line.way ≡ b
        → Steps (i + 1) b new (get_or items i d).now reading
        → Holds (first_bad (line ∷ [])) new (left_from lines (i + 1)) all
    more-by reading kept true e bad =
        rw (e, number) (line-bad items lines same reading i (i + 1) d all short bad kept)
    more-by reading kept false e step =
        rw e (
          step.0,
          step.2,
          step.3,
          line-read items lines same reading i d step.0 all short step.1 kept,
        )

    pub holds-more : (found : List InputLine) (old : Progress)
        → IsRead old (get_or items i d).now (is_some line.way) new
        → Holds (first_bad found) old (left_from lines i) all
        → Holds (first_bad (found ++ line ∷ [])) new (left_from lines (i + 1)) all
    holds-more found old read held = by (first_bad found) refl held
      where
        by : (o : Option ℕ) → first_bad found ≡ o → Holds o old (left_from lines i) all
            → Holds (first_bad (found ++ line ∷ [])) new (left_from lines (i + 1)) all
        by (Some n) e bad = rw (first-kept found line n e) bad
        by None e h =
            rw (first-more found line e)
            (more-by h.0 h.3 (is_some line.way) refl (read h.2 (i + 1) h.0 h.1))

-- after the last line
module _ (items : List (Bor (List ℕ))) (text : List ℕ)
    (same : map (λ line. line.now) items ≡ lines_of text) (i : ℕ) (end : length items ≤ i)
    (found : List InputLine) (p : Progress) where
  abbrev Kept : Option ℕ → Type 0
  Kept first =
      Holds first p (left_from (lines_of text) i)
      (try_fold with_numbered_line unread (enumerate_from 1 (lines_of text)))

  end-by : (o : Option ℕ) → first_bad found ≡ o → Kept o
      → first_bad found ≡ result_err (bundle_of text)
  end-by None e h = rw (e, lines-end items (lines_of text) same h.0 i _ end h.3) refl
  end-by (Some n) e bad = rw (e, bad) refl

  pub holds-end : Kept (first_bad found) → first_bad found ≡ result_err (bundle_of text)
  holds-end held = end-by (first_bad found) refl held
