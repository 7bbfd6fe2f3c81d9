-- The sections of an input as parts of it.
use Rattle.std.proofs.Common.{◌≡◌, ◌==◌, ℕ, ◌+◌, ◌-◌, Bool, true, false, List, [], ◌∷◌, ◌++◌}
use Rattle.std.proofs.Common.{Option, Some, None, Result, Ok, length, refl, sym, ap, ◌∙◌, subst}
use Rattle.std.proofs.Common.{append_assoc, arith, ◌<◌, ◌≤◌, get_or, Bor, Err, OnOk, cond}
use Rattle.std.proofs.Common.{IfErr, drop, map, suc}
use Rattle.std.specs.Prelude.{codes, nat_eq, nat_lt}
use Rattle.std.specs.List.{after_first, before_first, enumerate_from, flat_map, join_with_byte}
use Rattle.std.specs.List.{list_all, position_or_len, starts_with}
use Rattle.std.specs.Str.{bytes_eq}
use Rattle.std.proofs.Math.Seq.{drop-cons}
use Rattle.std.proofs.lemmas.List.{get_or-map, length-map, drop_all, append-nil, length-append}
use Rattle.std.proofs.lemmas.List.Concat.{flat_map-append}
use Rattle.std.proofs.lemmas.Bool.Decides.{nat_tests}
use Rattle.std.proofs.lemmas.List.Splits.{join_with_byte-slice_split, length-slice_split}
use Rattle.std.proofs.lemmas.List.Splits.{slice_split_first, slice_split_none}
use Rattle.std.proofs.lemmas.List.Sums.{fails_before_first, passes_at_first, split_at_first}
use Rattle.std.proofs.lemmas.Slice.Eq.{bytes_eq-Decides}
use Rattle.p9_base.specs.Results.{try_fold}
use Rattle.p9_base.specs.Line.{is_blank, lines_of}
use Rattle.p9_prepared.specs.Bundle.{Reading, unread, AreSoFar, Begins, Ends, IsReadTo}
use Rattle.p9_prepared.specs.Bundle.{Reads, with_numbered_line, last_of, reading_of, begun}
use Rattle.p9_prepared.specs.Bundle.{continued, IsBundleFault, IsFaultOf, ArePartsOf, IsAt, IsRest}
use Rattle.p9_prepared.specs.Bundle.{IsPart, Texts, ended, in_input, with_line, with_line_in}
use Rattle.p9_prepared.specs.Bundle.{with_part, with_section, with_text}
use Rattle.p9_prepared.specs.Section.{head_of, section_of}
use Rattle.p9_prepared.specs.declared.bundle.Reader.{Reader}
use Rattle.p9_prepared.specs.declared.bundle.BundleError.{BundleError}
use Rattle.p9_prepared.specs.declared.bundle.Bundle.{Bundle}
use Rattle.p9_prepared.specs.declared.bundle.Part.{Part}
use Rattle.p9_prepared.specs.declared.section.Section.{Section}
use Rattle.p9_prepared.specs.declared.section.Section.TheVariants.{World, Ns, Cert, Script}
use Rattle.p9_prepared.proofs.Bundles.{line-read, lines-end}

-- The next line.

abbrev newline : ℕ → Bool
newline b = b == 10

abbrev pub behind : List ℕ → List ℕ
behind text = after_first newline text

-- the first of the lines of a text: with its newline and what is behind that, or all of it
pub data IsNext (line : List ℕ) (left : List (List ℕ)) (text rest : List ℕ) : Type 0 where
  more : text ≡ line ++ 10 ∷ rest → lines_of rest ≡ left → IsNext line left text rest
  last : text ≡ line → left ≡ [] → rest ≡ [] → IsNext line left text rest

pub next-line : (text line : List ℕ) (left : List (List ℕ)) → lines_of text ≡ line ∷ left
    → IsNext line left text (behind text)
next-line text line left is = by (nat_lt (position_or_len newline text) (length text)) refl
  where
    by : (b : Bool) → nat_lt (position_or_len newline text) (length text) ≡ b
        → IsNext line left text (behind text)
    by true found =
        let at : position_or_len newline text < length text = grind (arith, nat_tests) in
        let is_newline : get_or text (position_or_len newline text) 0 ≡ 10 =
        grind (arith, nat_tests, passes_at_first newline text 0 at) in
        let lines : before_first newline text ∷ lines_of (behind text) ≡ line ∷ left =
        sym (slice_split_first newline text 0 at) ∙ is in
        let first : before_first newline text ≡ line = cc in
        more
        (split_at_first newline text 0 at
        ∙ ap (λ b. before_first newline text ++ b ∷ behind text) is_newline
        ∙ ap (λ l. l ++ 10 ∷ behind text) first)
        (cc)
    by false none =
        let all : length text ≤ position_or_len newline text = grind (arith, nat_tests) in
        let lines : text ∷ [] ≡ line ∷ left =
        sym (slice_split_none newline text
        (λ k d l. fails_before_first newline text k d (omega arith))) ∙ is in
        last (cc) (cc) (drop_all (position_or_len newline text + 1) text (omega arith))

-- Lines, with their newlines.

abbrev joined : List (List ℕ) → List ℕ
joined lines = join_with_byte 10 lines

-- some lines, before others
pub joined-append : (lines left : List (List ℕ))
    → joined (lines ++ left) ≡ in_input lines left ++ joined left
joined-append lines [] = ap joined (append-nil lines) ∙ sym (append-nil (joined lines))
joined-append [] (x ∷ xs) = refl
joined-append (line ∷ []) (x ∷ xs) =
    sym (append_assoc line (10 ∷ []) (joined (x ∷ xs)))
    ∙ ap (λ l. l ++ joined (x ∷ xs)) (sym (append-nil (ended line)))
joined-append (line ∷ next ∷ lines) (x ∷ xs) =
    ap (λ l. line ++ 10 ∷ l) (joined-append (next ∷ lines) (x ∷ xs))
    ∙ sym (append_assoc line (10 ∷ []) (flat_map ended (next ∷ lines) ++ joined (x ∷ xs)))
    ∙ sym (append_assoc (ended line) (flat_map ended (next ∷ lines)) (joined (x ∷ xs)))

-- all of them, with a newline more
pub joined-ended : (line : List ℕ) (lines : List (List ℕ))
    → joined (line ∷ lines) ++ 10 ∷ [] ≡ flat_map ended (line ∷ lines)
joined-ended line [] = sym (append-nil (ended line))
joined-ended line (next ∷ lines) =
    append_assoc line (10 ∷ joined (next ∷ lines)) (10 ∷ [])
    ∙ ap (λ l. line ++ 10 ∷ l) (joined-ended next lines)
    ∙ sym (append_assoc line (10 ∷ []) (flat_map ended (next ∷ lines)))

-- one line more, with its newline
ended-more : (lines : List (List ℕ)) (line : List ℕ)
    → with_line line (flat_map ended lines) ≡ flat_map ended (lines ++ line ∷ [])
ended-more lines line =
    append_assoc (flat_map ended lines) line (10 ∷ [])
    ∙ ap (λ l. flat_map ended lines ++ l) (sym (append-nil (ended line)))
    ∙ sym (flat_map-append ended lines (line ∷ []))

-- one of the lines that are left is the last of those before the others
line-moves : (lines left : List (List ℕ)) (line : List ℕ)
    → lines ++ line ∷ left ≡ (lines ++ line ∷ []) ++ left
line-moves lines left line = sym (append_assoc lines (line ∷ []) left)

lines_of-some : (text : List ℕ) → lines_of text ≡ [] → ⊥
lines_of-some text none =
    let some = length-slice_split newline text in
    let length_none : length (lines_of text) ≡ 0 = ap length none in
    absurd (omega (arith, some, length_none))

-- a text is what all its lines are
pub rest-whole : (text : List ℕ) → IsRest (lines_of text) text
rest-whole text = by (lines_of text) refl
  where
    by : (lines : List (List ℕ)) → lines_of text ≡ lines → IsRest lines text
    by [] none = absurd (lines_of-some text none)
    by (line ∷ lines) is = is

-- what is left of a text behind its first line
behind-line : (line text after : List ℕ) (left : List (List ℕ)) → after ≡ behind text
    → IsRest (line ∷ left) text → IsRest left after
behind-line line text after left is rest =
    rw is (by left (next-line text line left rest))
  where
    by : (left : List (List ℕ)) → IsNext line left text (behind text) → IsRest left (behind text)
    by [] (more all lines) = absurd (lines_of-some (behind text) lines)
    by [] (last all lines none) = none
    by (l ∷ ls) (more all lines) = lines
    by (l ∷ ls) (last all lines none) = absurd (cc)

-- it is the lines that are left
rest-joined : (left : List (List ℕ)) (rest : List ℕ) → IsRest left rest → rest ≡ joined left
rest-joined [] rest is = is
rest-joined (line ∷ left) rest is = sym (join_with_byte-slice_split 10 rest) ∙ ap joined is

-- the line that begins a section
head-by : (w n c s : Bool) (line : List ℕ) (section : Section)
    → bytes_eq line (head_of World) ≡ w → bytes_eq line (head_of Ns) ≡ n
    → bytes_eq line (head_of Cert) ≡ c → bytes_eq line (head_of Script) ≡ s
    → cond w (Some World) (cond n (Some Ns) (cond c (Some Cert) (cond s (Some Script) None)))
    ≡ Some section → bytes_eq line (head_of section) ≡ true
head-by true n c s line section is_w is_n is_c is_s e =
    let found : World ≡ section = cc in subst (λ x. bytes_eq line (head_of x) ≡ true) found is_w
head-by false true c s line section is_w is_n is_c is_s e =
    let found : Ns ≡ section = cc in subst (λ x. bytes_eq line (head_of x) ≡ true) found is_n
head-by false false true s line section is_w is_n is_c is_s e =
    let found : Cert ≡ section = cc in subst (λ x. bytes_eq line (head_of x) ≡ true) found is_c
head-by false false false true line section is_w is_n is_c is_s e =
    let found : Script ≡ section = cc in subst (λ x. bytes_eq line (head_of x) ≡ true) found is_s
head-by false false false false line section is_w is_n is_c is_s e = absurd (cc)

begins-head : (line : List ℕ) (section : Section) → section_of line ≡ Some section
    → line ≡ head_of section
begins-head line section is =
    (bytes_eq-Decides line (head_of section)).0
    (head-by (bytes_eq line (head_of World)) (bytes_eq line (head_of Ns))
    (bytes_eq line (head_of Cert)) (bytes_eq line (head_of Script)) line section refl refl refl
    refl is)

-- The sections so far.

-- a section's text is begun
pub begun-text : (section : Section) (texts : Texts)
    → with_section section texts ≡ with_text section [] texts
begun-text World texts = refl
begun-text Ns texts = refl
begun-text Cert texts = refl
begun-text Script texts = refl

-- it has one line more
pub more-text : (section : Section) (line text : List ℕ) (texts : Texts) →
    with_line_in section line (with_text section text texts)
    ≡ with_text section (with_line line text) texts
more-text World line text texts = refl
more-text Ns line text texts = refl
more-text Cert line text texts = refl
more-text Script line text texts = refl

-- a section more is a part
pub part-more : (input : List ℕ) (bundle : Bundle) (texts : Texts) (section : Section) (part : Part)
    (text : List ℕ) → ArePartsOf input bundle texts → IsPart input section part text
    → ArePartsOf input (with_part section part bundle) (with_text section text texts)
part-more input bundle texts World part text are is =
    record { world = is; ns = are.ns; cert = are.cert; script = are.script }
part-more input bundle texts Ns part text are is =
    record { world = are.world; ns = is; cert = are.cert; script = are.script }
part-more input bundle texts Cert part text are is =
    record { world = are.world; ns = are.ns; cert = is; script = are.script }
part-more input bundle texts Script part text are is =
    record { world = are.world; ns = are.ns; cert = are.cert; script = is }

-- A line is read.

module _ (number : ℕ) (line : List ℕ) (bundle : Bundle) (rest after : Bor (List ℕ)) (len : ℕ)
    (is : after.now ≡ behind rest.now) where
  abbrev old : Option (Section × Part) → Reader
  old begun = record { bundle = bundle; begun = begun; rest = rest; len = len }

  abbrev new : Option (Section × Part) → Reader
  new begun = record { bundle = bundle; begun = begun; rest = after; len = len }

  -- the lines that are read have it, too
  read-more : (input : List ℕ) (left : List (List ℕ))
      → (read : List (List ℕ)) × (lines_of input ≡ read ++ line ∷ left) × (number ≡ length read + 1)
      → (read : List (List ℕ)) × (lines_of input ≡ read ++ left) × (number + 1 ≡ length read + 1)
  read-more input left read = (
    read.0 ++ line ∷ [],
    read.1 ∙ line-moves read.0 left line,
    omega (arith, read.2, length-append read.0 (line ∷ [])),
  )

  -- it begins no section
  pub reads-text : (begun : Option (Section × Part)) → starts_with nat_eq line (codes "%%") ≡ false
      → (last_of (old begun) ≡ None → list_all is_blank line ≡ true)
      → Reads number line (old begun) (new begun)
  reads-text None plain blank input left texts read = (
    texts,
    rw (plain, blank refl) refl,
    (
      read-more input left read.0,
      read.1,
      behind-line line rest.now after.now left is read.2,
      read.3,
    ),
  )
  reads-text (Some (section, part)) plain blank input left texts read =
      let so = read.3 in
      let own : List (List ℕ) = so.1 ++ line ∷ [] in
      let moves : so.1 ++ line ∷ left ≡ own ++ left = line-moves so.1 left line in
      let at = so.3 in (
        with_line_in section line texts,
        rw plain refl,
        (
          read-more input left read.0,
          read.1,
          behind-line line rest.now after.now left is read.2,
          (
            so.0,
            own,
            so.2,
            record {
              before = at.before;
              lines = at.lines ∙ ap (λ ls. at.before ++ head_of section ∷ ls) moves;
              start = at.start
                  ∙ ap (λ ls. length (in_input (at.before ++ head_of section ∷ []) ls)) moves;
              line = at.line;
            },
            so.4 ∙ ap joined moves,
            ap (with_line_in section line) so.5 ∙ more-text section line (flat_map ended so.1) so.0
                ∙ ap (λ t. with_text section t so.0) (ended-more so.1 line),
          ),
        ),
      )

  -- the sections before the one that the line begins are parts
  parts-ended : (begun : Option (Section × Part)) (input : List ℕ) (left : List (List ℕ)) (texts : Texts)
      (next : Bundle) → IsRest (line ∷ left) rest.now
      → AreSoFar input (line ∷ left) bundle begun texts
      → Ends rest.now begun bundle next → ArePartsOf input next texts
  parts-ended None input left texts next rest_is so ends = rw ends so
  parts-ended (Some (section, part)) input left texts next rest_is so ends =
      let at = so.3 in
      let bytes : part.text.now ≡ flat_map ended so.1 ++ rest.now =
      so.4 ∙ joined-append so.1 (line ∷ left)
      ∙ ap (λ r. flat_map ended so.1 ++ r) (sym (rest-joined (line ∷ left) rest.now rest_is)) in
      let is_part : IsPart input section ends.0 (flat_map ended so.1) =
      record {
        own = so.1;
        behind = line ∷ left;
        at = record {
          before = at.before;
          lines = at.lines;
          start = ends.2 ∙ at.start;
          line = ends.3 ∙ at.line;
        };
        bytes = ends.4 (flat_map ended so.1) bytes;
        lines = refl;
      } in
      rw (ends.1, so.5) (part-more input bundle so.0 section ends.0 (flat_map ended so.1) so.2 is_part)

  -- a section that is begun has no line yet
  stands : (input : List ℕ) (left : List (List ℕ)) (section : Section) → line ≡ head_of section
      → (read : List (List ℕ)) × (lines_of input ≡ read ++ line ∷ left) × (number ≡ length read + 1)
      → len ≡ length input → after.now ≡ joined left
      → IsAt input section [] left
      (record { text = after; start = len - length after.now; line = number + 1 })
  stands input left section head read all behind =
      let before : List (List ℕ) = read.0 ++ head_of section ∷ [] in
      let lines : lines_of input ≡ read.0 ++ head_of section ∷ left =
      read.1 ∙ ap (λ l. read.0 ++ l ∷ left) head in
      let whole : input ≡ in_input before left ++ joined left =
      sym (join_with_byte-slice_split 10 input)
      ∙ ap joined (lines ∙ line-moves read.0 left (head_of section))
      ∙ joined-append before left in
      record {
        before = read.0;
        lines = lines;
        start = omega (
          arith,
          all,
          ap length whole,
          ap length behind,
          length-append (in_input before left) (joined left),
        );
        line = omega (arith, read.2);
      }

  -- it begins a section
  pub reads-begin : (was : Option (Section × Part)) (section : Option Section) (next : Reader)
      → starts_with nat_eq line (codes "%%") ≡ true → section_of line ≡ section
      → Begins number section rest.now (new was) next → Reads number line (old was) next
  reads-begin was None after_it marked of begins input left texts read = absurd begins
  reads-begin was (Some section) after_it marked of begins input left texts read =
      let left_is = behind-line line rest.now after.now left is read.2 in
      let behind = rest-joined left after.now left_is in (
        with_section section texts,
        rw (marked, of, begins.0, begins.4) refl,
        (
          read-more input left read.0,
          begins.3 ∙ read.1,
          rw begins.2 left_is,
          rw begins.4 (
            texts,
            [],
            parts-ended was input left texts after_it.bundle read.2 read.3 begins.1,
            stands input left section (begins-head line section of) read.0 read.1 behind,
            behind,
            begun-text section texts,
          ),
        ),
      )

  -- it is bad
  pub bad-begin : (was : Option (Section × Part)) (section : Option Section) (error : BundleError)
      → starts_with nat_eq line (codes "%%") ≡ true → section_of line ≡ section
      → ((texts : Texts)
      → IsBundleFault (begun (reading_of (new was) texts) number section) error)
      → IsFaultOf number line (old was) error
  bad-begin was section error marked of bad texts = rw (marked, of) (bad texts)

  pub bad-text : (was : Option (Section × Part)) (error : BundleError)
      → starts_with nat_eq line (codes "%%") ≡ false
      → ((texts : Texts) → IsBundleFault
      (continued (reading_of (new was) texts) number line (last_of (new was))) error)
      → IsFaultOf number line (old was) error
  bad-text was error plain bad texts = rw plain (bad texts)

-- Where no line is left, the section that was begun last is a part too.
pub all-parts : (input : List ℕ) (texts : Texts) (bundle : Bundle) (section : Section) (part : Part)
    → AreSoFar input [] bundle (Some (section, part)) texts
    → ArePartsOf input (with_part section part bundle) texts
all-parts input texts bundle section part so =
    rw so.5 (part-more input bundle so.0 section part (flat_map ended so.1) so.2
    (record {
      own = so.1;
      behind = [];
      at = so.3;
      bytes = so.4 ∙ ap joined (append-nil so.1);
      lines = refl;
    }))

-- what follows from a result

pub on-ok : {T E : Type 0} (result : Result T E) (P Q : Type 0) → (P → Q) → OnOk result P
    → OnOk result Q
on-ok (Ok value) P Q then p = then p
on-ok (Err error) P Q then p = tt

pub if-err : {T E : Type 0} (result : Result T E) (P Q : E → Type 0) → ((e : E) → P e → Q e)
    → IfErr result P → IfErr result Q
if-err (Ok value) P Q then p = tt
if-err (Err error) P Q then p = then error p

-- The lines of an input, by reference.

module _ (input : List ℕ) (items : List (Bor (List ℕ))) (same : map (λ line. line.now) items ≡ lines_of input)
    (reader : Reader) (i : ℕ) (texts : Texts) (all : Result Reading ℕ) where
  -- the line at a position is the first one that is left
  left-at : (d : Bor (List ℕ)) → i < length items
      → drop i (lines_of input) ≡ (get_or items i d).now ∷ drop (i + 1) (lines_of input)
  left-at d l =
      let short : i < length (lines_of input) =
      omega (arith, l, length-map items (λ line. line.now), ap length same) in
      let at : get_or (lines_of input) i d.now ≡ (get_or items i d).now =
      ap (λ lines. get_or lines i d.now) (sym same) ∙ get_or-map (λ line. line.now) items i d d.now l in
      let following : suc i ≡ i + 1 = omega arith in
      drop-cons (lines_of input) i d.now short
      ∙ ap (λ k. get_or (lines_of input) i d.now ∷ drop k (lines_of input)) following
      ∙ ap (λ line. line ∷ drop (i + 1) (lines_of input)) at

  abbrev Kept : Reader → ℕ → Texts → Type 0
  Kept reader i texts =
      (try_fold with_numbered_line (reading_of reader texts)
      (drop i (enumerate_from 1 (lines_of input))) ≡ all)
      × IsReadTo input (i + 1) (drop i (lines_of input)) reader texts

  -- a line more is read
  pub kept-more : (d : Bor (List ℕ)) (after : Reader) → i < length items
      → Reads (i + 1) (get_or items i d).now reader after → Kept reader i texts
      → (next : Texts) × Kept after (i + 1) next
  kept-more d after l reads kept =
      let step =
      reads input (drop (i + 1) (lines_of input)) texts
      (subst (λ left. IsReadTo input (i + 1) left reader texts) (left-at d l) kept.1) in (
        step.0,
        (
          line-read items (lines_of input) same (reading_of reader texts) i d
              (reading_of after step.0) all l step.1 kept.0,
          step.2,
        ),
      )

  -- no line is left
  pub kept-end : length items ≤ i → Kept reader i texts
      → (all ≡ Ok (reading_of reader texts)) × IsReadTo input (i + 1) [] reader texts
  kept-end end kept = (
    lines-end items (lines_of input) same (reading_of reader texts) i all end kept.0,
    subst (λ left. IsReadTo input (i + 1) left reader texts)
        (drop_all i (lines_of input) (omega (arith, end, length-map items (λ line. line.now), ap length same)))
        kept.1,
  )

-- what lines make of no section is what they make where none was begun
pub same-start : (lines : List (ℕ × List ℕ)) (reader : Reader) → last_of reader ≡ None
    → try_fold with_numbered_line (reading_of reader unread.texts) lines
    ≡ try_fold with_numbered_line unread lines
same-start lines reader none =
    ap (λ was. try_fold with_numbered_line (record { texts = unread.texts; last = was }) lines) none
