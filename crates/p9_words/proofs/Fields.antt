-- A field that is printed is read back.
use Rattle.std.proofs.Common.{◌≡◌, ℕ, suc, ◌+◌, ◌<◌, ◌≤◌, ◌^◌, true}
use Rattle.std.proofs.Common.{List, [], ◌∷◌, ◌++◌, length, Ok, refl, sym, ap, ◌∙◌, append_assoc}
use Rattle.std.proofs.Common.{arith}
use Rattle.std.specs.List.{flat_map, AllByRecursion}
use Rattle.std.proofs.lemmas.Bool.{eq-eqb}
use Rattle.std.proofs.lemmas.List.{append-nil}
use Rattle.p9_base.specs.declared.qid.Qid.{Qid}
use Rattle.p9_wire.specs.Fields.{text, QidNumbersFit}
use Rattle.p9_wire.specs.Frame.{IsBytes}
use Rattle.p9_words.specs.Class.{is_in, skip_blanks}
use Rattle.p9_words.specs.Reading.{behind, mark_at, number_at, data_at, qid_at}
use Rattle.p9_words.specs.Reading.{index_at, item_at, indexed_at, items_from}
use Rattle.p9_words.specs.Words.{number_words, shown, data_words, qid_words}
use Rattle.p9_words.specs.Words.{items_words}
use Rattle.p9_words.specs.declared.class.Class.TheVariants.{Digit}
use Rattle.p9_words.specs.declared.error.Expected.{Expected}
use Rattle.p9_words.specs.declared.error.Expected.TheVariants as expected
use Rattle.p9_words.specs.declared.form.Base.{Base}
use Rattle.p9_words.specs.declared.form.Base.TheVariants.{Decimal, Hexadecimal}
use Rattle.p9_words.specs.declared.form.Item.{Item}
use Rattle.p9_words.proofs.Fronts.{ends, starts, prefix_len-ends, skip-none, skip-one}
use Rattle.p9_words.proofs.Numbers.{number-law, number-starts, blank-digit, closing-digit}
use Rattle.p9_words.proofs.Quotes.{shown-law, shown-starts}

-- a mark of one byte
mark-law : (c : ℕ) (expected : Expected) (text rest : List ℕ) → skip_blanks text ≡ c ∷ rest
    → mark_at (c ∷ []) expected text ≡ Ok rest
unfolding mark_at behind
mark-law c expected text rest here = rw (here, eq-eqb c c refl) refl

-- a number is read where a word may end
pub ended-number : (base : Base) (n most : ℕ) (text rest : List ℕ)
    → skip_blanks text ≡ number_words base n ++ rest → n < 2 ^ 64 → n ≤ most → ends rest ≡ true
    → number_at base most text ≡ Ok (n, rest)
ended-number base n most text rest here small fits e =
    number-law base n most text rest here small
    (prefix_len-ends (is_in (Digit base)) rest (blank-digit base) (closing-digit base) e) fits

-- at the front
front-number : (base : Base) (n most : ℕ) (rest : List ℕ) → n < 2 ^ 64 → n ≤ most
    → ends rest ≡ true → number_at base most (number_words base n ++ rest) ≡ Ok (n, rest)
front-number base n most rest small fits e =
    ended-number base n most (number_words base n ++ rest) rest
    (skip-none _ (number-starts base n rest small)) small fits e

-- after a blank
pub next-number : (base : Base) (n most : ℕ) (rest : List ℕ) → n < 2 ^ 64 → n ≤ most
    → ends rest ≡ true → number_at base most (32 ∷ (number_words base n ++ rest)) ≡ Ok (n, rest)
next-number base n most rest small fits e =
    ended-number base n most (32 ∷ (number_words base n ++ rest)) rest
    (skip-one _ (number-starts base n rest small)) small fits e

-- the parts of a qid
qid-parts : (q : Qid) (rest : List ℕ) → qid_words q ++ rest
    ≡ 40 ∷ (number_words Hexadecimal q.path ++ 32 ∷ (number_words Decimal q.version
    ++ 32 ∷ (number_words Hexadecimal q.kind ++ 41 ∷ rest)))
unfolding qid_words
qid-parts q rest = simp append_assoc

-- a qid begins with no blank
pub qid-starts : (q : Qid) (rest : List ℕ) → starts (qid_words q ++ rest) ≡ true
unfolding qid_words
qid-starts q rest = refl

-- a qid that is printed is read back
pub qid-law : (q : Qid) (text rest : List ℕ) → skip_blanks text ≡ qid_words q ++ rest
    → QidNumbersFit q → qid_at text ≡ Ok (q, rest)
unfolding qid_at
qid-law q text rest here fits =
    let kind_rest = number_words Hexadecimal q.kind ++ 41 ∷ rest in
    let version_rest = number_words Decimal q.version ++ 32 ∷ kind_rest in
    let path_rest = number_words Hexadecimal q.path ++ 32 ∷ version_rest in
    rw (
      mark-law 40 expected.Open text path_rest (here ∙ qid-parts q rest),
      front-number Hexadecimal q.path 18446744073709551615 (32 ∷ version_rest) fits.path
          (omega (arith, fits.path)) refl,
      next-number Decimal q.version 4294967295 (32 ∷ kind_rest) (omega (arith, fits.version))
          (omega (arith, fits.version)) refl,
      next-number Hexadecimal q.kind 255 (41 ∷ rest) (omega (arith, fits.kind))
          (omega (arith, fits.kind)) refl,
      mark-law 41 expected.Close (41 ∷ rest) rest (skip-none (41 ∷ rest) refl),
    ) refl

-- a count and its bytes
pub data-law : (s text rest : List ℕ) → skip_blanks text ≡ data_words s ++ rest → IsBytes s
    → length s < 2 ^ 32 → ends rest ≡ true → data_at text ≡ Ok (s, rest)
unfolding data_at
data-law s text rest here bytes small e =
    let behind_count = 32 ∷ (shown s ++ rest) in
    let parts : skip_blanks text ≡ number_words Decimal (length s) ++ behind_count =
    here ∙ simp append_assoc in
    rw (
      ended-number Decimal (length s) 4294967295 text behind_count parts (omega arith)
          (omega arith) refl,
      skip-one (shown s ++ rest) (shown-starts s rest),
      shown-law s (shown s ++ rest) rest (skip-none _ (shown-starts s rest)) bytes e,
      eq-eqb (length s) (length s) refl,
    ) refl

-- an index and a colon after a blank
index-law : (i : ℕ) (rest : List ℕ) → i ≤ 16
    → index_at i (32 ∷ (number_words Decimal i ++ 58 ∷ rest)) ≡ Ok rest
unfolding index_at
index-law i rest few =
    let begins = number-starts Decimal i (58 ∷ rest) (omega arith) in
    rw (
      skip-one _ begins,
      number-law Decimal i 16 (number_words Decimal i ++ 58 ∷ rest) (58 ∷ rest)
          (skip-none _ begins) (omega arith) refl few,
      eq-eqb i i refl,
      mark-law 58 expected.Colon (58 ∷ rest) rest (skip-none (58 ∷ rest) refl),
    ) refl

-- what follows an index
item-law : (item : Item) (i : ℕ) (text rest : List ℕ) → index_at i text ≡ Ok rest
    → indexed_at item i text ≡ item_at item rest
unfolding indexed_at
item-law item i text rest read = rw read refl

-- one item, and those after it
step : (item : Item) (bytes : List ℕ) (i n : ℕ) (text x rest : List ℕ)
    → indexed_at item i text ≡ Ok (x, rest)
    → items_from item bytes i (suc n) text ≡ items_from item (bytes ++ x) (i + 1) n rest
step item bytes i n text x rest read = rw read refl

-- items may end a word
pub items-ends : {A : Type 0} (f : A → List ℕ) (i : ℕ) (xs : List A) (rest : List ℕ)
    → ends rest ≡ true → ends (items_words f i xs ++ rest) ≡ true
items-ends f i [] rest e = e
items-ends f i (x ∷ xs) rest e = refl

-- an item that is read wherever its words are
abbrev pub IsRead : {A : Type 0} → Item → (A → List ℕ) → (A → List ℕ) → (A → Type 0) → Type 0
IsRead {A} item f g Good =
    (x : A) (rest : List ℕ) → Good x → ends rest ≡ true → item_at item (f x ++ rest) ≡ Ok (
      g x,
      rest,
    )

-- so are items
pub items-law : {A : Type 0} (item : Item) (f g : A → List ℕ) (Good : A → Type 0)
    → IsRead item f g Good → (xs : List A) (bytes : List ℕ) (i : ℕ) (rest : List ℕ)
    → i + length xs ≤ 16 → AllByRecursion Good xs → ends rest ≡ true
    → items_from item bytes i (length xs) (items_words f i xs ++ rest)
    ≡ Ok (bytes ++ flat_map g xs, rest)
items-law item f g Good each [] bytes i rest few all e =
    ap (λ b. Ok (b, rest)) (sym (append-nil bytes))
items-law item f g Good each (x ∷ xs) bytes i rest few all e =
    let others = items_words f (i + 1) xs ++ rest in
    let parts : items_words f i (x ∷ xs) ++ rest
    ≡ 32 ∷ (number_words Decimal i ++ 58 ∷ (f x ++ others)) = simp append_assoc in
    let one : indexed_at item i (items_words f i (x ∷ xs) ++ rest) ≡ Ok (g x, others) =
    ap (indexed_at item i) parts
    ∙ item-law item i _ (f x ++ others) (index-law i (f x ++ others) (omega arith))
    ∙ each x others all.0 (items-ends f (i + 1) xs rest e) in
    step item bytes i (length xs) (items_words f i (x ∷ xs) ++ rest) (g x) others one
    ∙ items-law item f g Good each xs (bytes ++ g x) (i + 1) rest (omega arith) all.1 e
    ∙ ap (λ b. Ok (b, rest)) (append_assoc bytes (g x) (flat_map g xs))
