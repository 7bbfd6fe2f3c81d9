-- Fields put after the bytes before them, one after the other, as loops do.
use Rattle.std.proofs.Common.{◌≡◌, ℕ, zero, suc, ◌-◌, ◌+◌, ◌<◌, List, [], ◌++◌, Result, Ok, Err}
use Rattle.std.proofs.Common.{refl, sym, ap, ◌∙◌, arith, append_assoc, ◌∷◌, length, get_or, drop}
use Rattle.std.proofs.Common.{drop-cons}
use Rattle.p9_words.specs.Reading.{◌>>=◌, Fails, Reader, indexed_at, items_from, put_after}
use Rattle.p9_words.specs.declared.error.Fault.{Fault}
use Rattle.p9_base.specs.declared.stop.Stop.{Stop}
use Rattle.p9_base.specs.declared.stop.Stop.TheVariants.{Refused, NoMemory}
use Rattle.p9_words.specs.declared.form.Item.{Item}

-- the first of several items and those after it, put after more bytes
put_after-first : (before bytes : List ℕ) (next : List ℕ → List ℕ → Result (List ℕ × List ℕ) Fault)
    (read : Result (List ℕ × List ℕ) Fault)
    → ((b text : List ℕ) → put_after before (next b text) ≡ next (before ++ b) text)
    → put_after before (put_after bytes read >>= λ x. next x.0 x.1)
    ≡ (put_after (before ++ bytes) read >>= λ x. next x.0 x.1)
put_after-first before bytes next (Ok x) others =
    others (bytes ++ x.0) x.1 ∙ ap (λ b. next b x.1) (sym (append_assoc before bytes x.0))
put_after-first before bytes next (Err e) others = refl

-- items that are put after more bytes
pub put_after-items : (before : List ℕ) (item : Item) (bytes : List ℕ) (i n : ℕ) (text : List ℕ)
    → put_after before (items_from item bytes i n text)
    ≡ items_from item (before ++ bytes) i n text
put_after-items before item bytes i zero text = refl
put_after-items before item bytes i (suc n) text =
    put_after-first before bytes (λ b rest. items_from item b (i + 1) n rest)
    (indexed_at item i text) (λ b rest. put_after-items before item b (i + 1) n rest)

-- where one more is read, what is still read is one fewer
pub goes_on : (item : Item) (bytes : List ℕ) (i count : ℕ) (text more after : List ℕ)
    (total : Result (List ℕ × List ℕ) Fault) → i < count
    → put_after bytes (indexed_at item i text) ≡ Ok (more, after)
    → items_from item bytes i (count - i) text ≡ total
    → items_from item more (i + 1) (count - (i + 1)) after ≡ total
goes_on item bytes i count text more after total lt read so_far =
    let k : count - i ≡ suc (count - (i + 1)) = omega arith in
    let one : items_from item bytes i (count - i) text
    ≡ items_from item more (i + 1) (count - (i + 1)) after = rw (k, read) refl in
    sym one ∙ so_far

-- where one is not read, all are not
pub fails : (item : Item) (bytes : List ℕ) (i count : ℕ) (text : List ℕ) (e : Stop Fault)
    (total : Result (List ℕ × List ℕ) Fault) → i < count
    → Fails e (put_after bytes (indexed_at item i text))
    → items_from item bytes i (count - i) text ≡ total → Fails e total
fails item bytes i count text NoMemory total lt read so_far = tt
fails item bytes i count text (Refused fault) total lt read so_far =
    let k : count - i ≡ suc (count - (i + 1)) = omega arith in
    let one : items_from item bytes i (count - i) text ≡ Err fault = rw (k, read) refl in
    sym so_far ∙ one

-- a reader of one field after the other, by a reader of each
abbrev pub ReadsEach : {A : Type 0} → (A → Reader (List ℕ)) → (List ℕ → List A → Reader (List ℕ))
    → Type 0
ReadsEach {A} read all =
    (bytes : List ℕ) (x : A) (xs : List A) (text : List ℕ)
    → all bytes (x ∷ xs) text ≡ (put_after bytes (read x text) >>= λ y. all y.0 xs y.1)

-- what is read from an index on is what is there, and then what is behind it
field-first : {A : Type 0} (read : A → Reader (List ℕ))
    (all : List ℕ → List A → Reader (List ℕ)) → ReadsEach read all
    → (bytes : List ℕ) (xs : List A) (i : ℕ) (d : A) (text : List ℕ)
    (r : Result (List ℕ × List ℕ) Fault) → i < length xs
    → put_after bytes (read (get_or xs i d) text) ≡ r
    → all bytes (drop i xs) text ≡ (r >>= λ y. all y.0 (drop (i + 1) xs) y.1)
field-first read all each bytes xs i d text r lt is =
    let k : suc i ≡ i + 1 = omega arith in
    ap (λ l. all bytes l text) (drop-cons xs i d lt)
    ∙ each bytes (get_or xs i d) (drop (suc i) xs) text
    ∙ ap (λ q. q >>= λ y. all y.0 (drop (suc i) xs) y.1) is
    ∙ ap (λ n. r >>= λ y. all y.0 (drop n xs) y.1) k

-- where one more field is read, what is still read is one fewer
pub field-goes_on : {A : Type 0} (read : A → Reader (List ℕ))
    (all : List ℕ → List A → Reader (List ℕ)) → ReadsEach read all
    → (bytes : List ℕ) (xs : List A) (i : ℕ) (d : A) (text more after : List ℕ)
    (total : Result (List ℕ × List ℕ) Fault) → i < length xs
    → put_after bytes (read (get_or xs i d) text) ≡ Ok (more, after)
    → all bytes (drop i xs) text ≡ total → all more (drop (i + 1) xs) after ≡ total
field-goes_on read all each bytes xs i d text more after total lt is so_far =
    sym (field-first read all each bytes xs i d text (Ok (more, after)) lt is) ∙ so_far

-- where a field is not read, all are not
pub field-fails : {A : Type 0} (read : A → Reader (List ℕ))
    (all : List ℕ → List A → Reader (List ℕ)) → ReadsEach read all
    → (bytes : List ℕ) (xs : List A) (i : ℕ) (d : A) (text : List ℕ) (e : Stop Fault)
    (total : Result (List ℕ × List ℕ) Fault) → i < length xs
    → Fails e (put_after bytes (read (get_or xs i d) text))
    → all bytes (drop i xs) text ≡ total → Fails e total
field-fails read all each bytes xs i d text NoMemory total lt is so_far = tt
field-fails read all each bytes xs i d text (Refused fault) total lt is so_far =
    sym so_far ∙ field-first read all each bytes xs i d text (Err fault) lt is
