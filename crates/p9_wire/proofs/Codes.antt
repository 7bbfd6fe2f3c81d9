-- What is read was spelled so, and what is spelled is read: for each field, and for one field
-- behind another.
use Rattle.std.proofs.Common.{◌≡◌, ℕ, zero, suc, ◌^◌, ◌<◌, ◌≤◌, Bool, true, false, cond, eqb, ltb}
use Rattle.std.proofs.Common.{List, [], ◌∷◌, ◌++◌, length, take, drop, Option, Some, None, refl}
use Rattle.std.proofs.Common.{sym, ap, subst, ◌∙◌, append_assoc, arith}
use Rattle.std.specs.List.{flat_map, AllByRecursion}
use Rattle.std.proofs.lemmas.Bool.{eqb-true}
use Rattle.std.proofs.lemmas.List.{append-nil, nil_from_length}
use Rattle.std.proofs.lemmas.List.Concat.{flat_map-cons}
use Rattle.std.proofs.lemmas.Option.{cond_some, same_Some}
use Rattle.std.proofs.lemmas.Bool.{ltb-false, le-ltb}
use Rattle.std.proofs.lemmas.List.{take_at, drop_at, take-append-drop, length-append}
use Rattle.std.proofs.lemmas.List.{length-take-le}
use Rattle.byteorder.specs.Endian.{little_number}
use Rattle.byteorder.specs.Numbers.{little_from-lt, little_number-reads_back}
use Rattle.byteorder.specs.Numbers.{length-bytes_low_first}
use Rattle.p9_base.specs.Text.{is_text}
use Rattle.p9_wire.specs.Stat.{StatFields}
use Rattle.p9_wire.specs.Fields.{number, text, counted, several, sized, qid_bytes, stat_fields}
use Rattle.p9_wire.specs.Fields.{stat_bytes, FitsText, FitsStat, QidNumbersFit, StatNumbersFit}
use Rattle.p9_wire.specs.FieldReading.{◌and_then◌, Reader, number_at, bytes_at, ◌then◌, mapped}
use Rattle.p9_wire.specs.FieldReading.{text_at, nothing_at, qid_at, counted_at, times, several_at}
use Rattle.p9_wire.specs.FieldReading.{sized_bytes_at, sized_at, stat_at}
use Rattle.p9_wire.specs.FieldReading.{stat_fields_at, stat_numbers_at}
use Rattle.p9_wire.specs.Frame.{IsBytes}
use Rattle.p9_wire.proofs.Bytes.{IsBytes-back, IsBytes-front, each_below, number-back}
use Rattle.p9_wire.proofs.Lengths.{length-stat_bytes, length-stat_fields}

-- the value of a step that did not fail
pub bind_some : {A B : Type 0} (r : Option A) (f : A → Option B) (y : B) → (r and_then f) ≡ Some y
    → (x : A) × (r ≡ Some x) × (f x ≡ Some y)
bind_some (Some x) f y e = (x, refl, e)
bind_some None f y e = absurd cc

-- a test that did not fail
pub if_not : {A : Type 0} (b : Bool) (x y : A) → cond b None (Some x) ≡ Some y
    → (b ≡ false) × (x ≡ y)
if_not false x y e = (refl, cc)
if_not true x y e = absurd cc

-- a test that let it go on
pub when_passed : {A : Type 0} (b : Bool) (r : Option A) (y : A) → cond b r None ≡ Some y
    → (b ≡ true) × (r ≡ Some y)
when_passed true r y e = (refl, e)
when_passed false r y e = absurd cc

-- a test that did not end it
unless_passed : {A : Type 0} (b : Bool) (r : Option A) (y : A) → cond b None r ≡ Some y
    → (b ≡ false) × (r ≡ Some y)
unless_passed false r y e = (refl, e)
unless_passed true r y e = absurd cc

-- at most sixteen
abbrev pub FitsSeveral : {A : Type 0} → (A → Type 0) → List A → Type 0
FitsSeveral F xs = (length xs ≤ 16) × AllByRecursion F xs

-- what has a length that two bytes hold
abbrev FitsSized : {A : Type 0} → (A → List ℕ) → (A → Type 0) → A → Type 0
FitsSized f F x = F x × (length (f x) < 2 ^ 16)

-- a reader and a spelling that agree: what is read was spelled so, and what is spelled is read
pub record Codes {A : Type 0} (spell : A → List ℕ) (Fits : A → Type 0) (read : Reader A) :
    Type 0 where
  pub sound : (bytes : List ℕ) (x : A × List ℕ) → IsBytes bytes → read bytes ≡ Some x
      → (bytes ≡ spell x.0 ++ x.1) × Fits x.0
  pub complete : (x : A) (rest : List ℕ) → Fits x → read (spell x ++ rest) ≡ Some (x, rest)

-- a number that was read was spelled so
number-sound : (n : ℕ) (bytes : List ℕ) (x : ℕ × List ℕ) → IsBytes bytes
    → number_at n bytes ≡ Some x → (bytes ≡ number n x.0 ++ x.1) × (x.0 < 256 ^ n)
unfolding number
number-sound n bytes x fits e =
    let g = if_not (ltb (length bytes) n) (little_number n bytes, drop n bytes) x e in
    let long : n ≤ length bytes = ltb-false _ _ g.0 in
    let parts : bytes ≡ number n (little_number n bytes) ++ drop n bytes =
    rw (number-back n bytes fits long) (sym (take-append-drop n bytes)) in
    subst (λ (y : ℕ × List ℕ). (bytes ≡ number n y.0 ++ y.1) × (y.0 < 256 ^ n)) g.1
    (parts, little_from-lt 0 n bytes (each_below bytes fits))

-- and a number that is spelled is read
number-complete : (n x : ℕ) (rest : List ℕ) → x < 256 ^ n
    → number_at n (number n x ++ rest) ≡ Some (x, rest)
unfolding number
number-complete n x rest lt =
    let len : length (number n x) ≡ n = length-bytes_low_first 0 n x in
    let long : ltb (length (number n x ++ rest)) n ≡ false =
    le-ltb _ _ (omega (arith, length-append (number n x) rest)) in
    rw (long, little_number-reads_back n x rest lt, drop_at (number n x) rest n len) refl

-- so numbers are read as they are spelled
pub number-codes : (n : ℕ) → Codes (number n) (λ (x : ℕ). x < 256 ^ n) (number_at n)
number-codes n = record { sound = number-sound n; complete = number-complete n }

-- bytes that were read were at the front
pub bytes-sound : (n : ℕ) (bytes : List ℕ) (x : List ℕ × List ℕ) → bytes_at n bytes ≡ Some x
    → (bytes ≡ x.0 ++ x.1) × (length x.0 ≡ n)
bytes-sound n bytes x e =
    let g = if_not (ltb (length bytes) n) (take n bytes, drop n bytes) x e in
    let long : n ≤ length bytes = ltb-false _ _ g.0 in
    subst (λ (y : List ℕ × List ℕ). (bytes ≡ y.0 ++ y.1) × (length y.0 ≡ n)) g.1
    (sym (take-append-drop n bytes), length-take-le n bytes long)

-- and as many as are asked for are read
pub bytes-complete : (s rest : List ℕ) → bytes_at (length s) (s ++ rest) ≡ Some (s, rest)
bytes-complete s rest =
    let long : ltb (length (s ++ rest)) (length s) ≡ false =
    le-ltb _ _ (omega (arith, length-append s rest)) in
    rw (long, take_at s rest (length s) refl, drop_at s rest (length s) refl) refl

-- a text that was read was spelled so
text-sound : (bytes : List ℕ) (x : List ℕ × List ℕ) → IsBytes bytes → text_at bytes ≡ Some x
    → (bytes ≡ text x.0 ++ x.1) × FitsText x.0
unfolding text_at
text-sound bytes x fits e =
    let b = bind_some (sized_bytes_at bytes) (λ s. cond (is_text s.0) (Some s) None) x e in
    let a = bind_some (number_at 2 bytes) (λ n. bytes_at n.0 n.1) b.0 b.1 in
    let g = cond_some (is_text b.0.0) b.0 x b.2 in
    let t0 = number-sound 2 bytes a.0 fits a.1 in
    let t1 = bytes-sound a.0.0 a.0.1 b.0 a.2 in
    let whole : bytes ≡ text b.0.0 ++ b.0.1 =
    t0.0 ∙ ap (λ (back : List ℕ). number 2 a.0.0 ++ back) t1.0
    ∙ sym (append_assoc (number 2 a.0.0) b.0.0 b.0.1)
    ∙ ap (λ (n : ℕ). (number 2 n ++ b.0.0) ++ b.0.1) (sym t1.1) in
    let is : FitsText b.0.0 = record { short = omega (arith, t0.1, t1.1); valid = g.0 } in
    subst (λ (y : List ℕ × List ℕ). (bytes ≡ text y.0 ++ y.1) × FitsText y.0) g.1 (whole, is)

-- and a text that is spelled is read
text-complete : (s rest : List ℕ) → FitsText s → text_at (text s ++ rest) ≡ Some (s, rest)
unfolding text_at
text-complete s rest is =
    let first : number_at 2 (text s ++ rest) ≡ Some (length s, s ++ rest) =
    ap (number_at 2) (append_assoc (number 2 (length s)) s rest)
    ∙ number-complete 2 (length s) (s ++ rest) is.short in
    rw (first, bytes-complete s rest, is.valid) refl

-- so texts are read as they are spelled
pub text-codes : Codes text FitsText text_at
text-codes = record { sound = text-sound; complete = text-complete }

-- and one field behind another
pub then-codes : {A B : Type 0} {f : A → List ℕ} {F : A → Type 0} {r : Reader A} {g : B → List ℕ}
    {G : B → Type 0} {s : Reader B}
    → Codes f F r → Codes g G s
    → Codes (λ (x : A × B). f x.0 ++ g x.1) (λ (x : A × B). F x.0 × G x.1) (r then s)
then-codes {A} {B} {f} {F} {r} {g} {G} {s} c d = record {
  sound = λ bytes x fits e.
      let a = bind_some (r bytes) (λ a. s a.1 and_then λ b. Some ((a.0, b.0), b.1)) x e in
      let b = bind_some (s a.0.1) (λ b. Some ((a.0.0, b.0), b.1)) x a.2 in
      let t0 = c.sound bytes a.0 fits a.1 in
      let t1 = d.sound a.0.1 b.0 (IsBytes-back (f a.0.0) a.0.1 (subst IsBytes t0.0 fits)) b.1 in
      let parts : bytes ≡ (f a.0.0 ++ g b.0.0) ++ b.0.1 =
      t0.0 ∙ ap (λ (back : List ℕ). f a.0.0 ++ back) t1.0
      ∙ sym (append_assoc (f a.0.0) (g b.0.0) b.0.1) in
      subst (λ (y : (A × B) × List ℕ). (bytes ≡ (f y.0.0 ++ g y.0.1) ++ y.1) × (F y.0.0 × G y.0.1))
      (same_Some _ x b.2) (parts, (t0.1, t1.1));
  complete = λ x rest h.
      ap (r then s) (append_assoc (f x.0) (g x.1) rest)
      ∙ rw (c.complete x.0 (g x.1 ++ rest) h.0, d.complete x.1 rest h.1) refl;
}

-- what a reader made of the value, and the value
pub made-sound : {A B : Type 0} {f : A → List ℕ} {F : A → Type 0} {r : Reader A} (c : Codes f F r)
    (make : A → B) (bytes : List ℕ) (x : B × List ℕ)
    → IsBytes bytes → mapped make r bytes ≡ Some x
    → (a : A) × (make a ≡ x.0) × (bytes ≡ f a ++ x.1) × F a
made-sound {A} {B} {f} {F} {r} c make bytes x fits e =
    let a = bind_some (r bytes) (λ a. Some (make a.0, a.1)) x e in
    let t = c.sound bytes a.0 fits a.1 in
    let same = same_Some _ x a.2 in (
      a.0.0,
      ap (λ (y : B × List ℕ). y.0) same,
      subst (λ (y : B × List ℕ). bytes ≡ f a.0.0 ++ y.1)
          same t.0,
      t.1,
    )

-- a value that is spelled is read, and made
pub made-complete : {A B : Type 0} {f : A → List ℕ} {F : A → Type 0} {r : Reader A}
    (c : Codes f F r) (make : A → B) (a : A) (rest : List ℕ) → F a
    → mapped make r (f a ++ rest) ≡ Some (make a, rest)
made-complete c make a rest h = rw (c.complete a rest h) refl

-- a value and the fields that make it, one for one
pub same-codes : {A B : Type 0} {f : A → List ℕ} {F : A → Type 0} {r : Reader A} {G : B → Type 0}
    (c : Codes f F r) (make : A → B) (fields : B → A)
    → ((a : A) → fields (make a) ≡ a) → ((b : B) → make (fields b) ≡ b)
    → ((b : B) → F (fields b) → G b) → ((b : B) → G b → F (fields b))
    → Codes (λ (b : B). f (fields b)) G (mapped make r)
same-codes {A} {B} {f} {F} {r} {G} c make fields there back out in_ = record {
  sound = λ bytes x fits e.
      let t = made-sound c make bytes x fits e in
      let is : t.0 ≡ fields x.0 = sym (there t.0) ∙ ap fields t.1 in
      (t.2 ∙ ap (λ (a : A). f a ++ x.1) is, out x.0 (subst F is t.3));
  complete =
      λ x rest h. made-complete c make (fields x) rest (in_ x h)
      ∙ ap (λ (b : B). Some (b, rest)) (back x);
}

-- qids are read as they are spelled
pub qid-codes : Codes qid_bytes QidNumbersFit qid_at
unfolding qid_at
qid-codes =
    same-codes (then-codes (then-codes (number-codes 1) (number-codes 4)) (number-codes 8))
    (λ x. record { kind = x.0.0; version = x.0.1; path = x.1 }) (λ q. ((q.kind, q.version), q.path))
    (λ a. refl) (λ b. refl) (λ b h. record { kind = h.0.0; version = h.0.1; path = h.1 })
    (λ b h. ((h.kind, h.version), h.path))

-- data that was read was spelled so
counted-sound : (bytes : List ℕ) (x : List ℕ × List ℕ) → IsBytes bytes → counted_at bytes ≡ Some x
    → (bytes ≡ counted x.0 ++ x.1) × (length x.0 < 2 ^ 32)
unfolding counted_at
counted-sound bytes x fits e =
    let a = bind_some (number_at 4 bytes) (λ n. bytes_at n.0 n.1) x e in
    let t0 = number-sound 4 bytes a.0 fits a.1 in
    let t1 = bytes-sound a.0.0 a.0.1 x a.2 in (
      t0.0 ∙ ap (λ (back : List ℕ). number 4 a.0.0 ++ back) t1.0
          ∙ sym (append_assoc (number 4 a.0.0) x.0 x.1)
          ∙ ap (λ (n : ℕ). (number 4 n ++ x.0) ++ x.1) (sym t1.1),
      omega (arith, t0.1, t1.1),
    )

-- and data that is spelled is read
counted-complete : (s rest : List ℕ) → length s < 2 ^ 32
    → counted_at (counted s ++ rest) ≡ Some (s, rest)
unfolding counted_at
counted-complete s rest fits =
    let first : number_at 4 (counted s ++ rest) ≡ Some (length s, s ++ rest) =
    ap (number_at 4) (append_assoc (number 4 (length s)) s rest)
    ∙ number-complete 4 (length s) (s ++ rest) fits in
    rw (first, bytes-complete s rest) refl

-- so data is read as it is spelled
pub counted-codes : Codes counted (λ s. length s < 2 ^ 32) counted_at
counted-codes = record { sound = counted-sound; complete = counted-complete }

module _ {A : Type 0} {f : A → List ℕ} {F : A → Type 0} {r : Reader A} (c : Codes f F r) where
  -- so many that were read were spelled so
  times-sound : (n : ℕ) (bytes : List ℕ) (x : List A × List ℕ) → IsBytes bytes
      → times r n bytes ≡ Some x
      → (bytes ≡ flat_map f x.0 ++ x.1) × (length x.0 ≡ n) × AllByRecursion F x.0
  unfolding times
  times-sound zero bytes x fits e =
      subst (λ (y : List A × List ℕ). (bytes ≡ flat_map f y.0 ++ y.1) × (length y.0 ≡ 0)
      × AllByRecursion F y.0) (same_Some _ x e) (refl, refl, tt)
  times-sound (suc n) bytes x fits e =
      let a = bind_some (r bytes) (λ x. times r n x.1 and_then λ xs. Some (x.0 ∷ xs.0, xs.1)) x e in
      let b = bind_some (times r n a.0.1) (λ xs. Some (a.0.0 ∷ xs.0, xs.1)) x a.2 in
      let t0 = c.sound bytes a.0 fits a.1 in
      let t1 =
      times-sound n a.0.1 b.0 (IsBytes-back (f a.0.0) a.0.1 (subst IsBytes t0.0 fits)) b.1 in
      let parts : bytes ≡ flat_map f (a.0.0 ∷ b.0.0) ++ b.0.1 =
      t0.0 ∙ ap (λ (back : List ℕ). f a.0.0 ++ back) t1.0
      ∙ sym (append_assoc (f a.0.0) (flat_map f b.0.0) b.0.1)
      ∙ ap (λ (s : List ℕ). s ++ b.0.1) (sym (flat_map-cons f a.0.0 b.0.0)) in
      subst (λ (y : List A × List ℕ). (bytes ≡ flat_map f y.0 ++ y.1) × (length y.0 ≡ suc n)
      × AllByRecursion F y.0) (same_Some _ x b.2) (parts, ap suc t1.1, (t0.1, t1.2))

  -- and so many that are spelled are read
  times-complete : (xs : List A) (rest : List ℕ) → AllByRecursion F xs
      → times r (length xs) (flat_map f xs ++ rest) ≡ Some (xs, rest)
  unfolding times
  times-complete [] rest fits = refl
  times-complete (x ∷ xs) rest fits =
      let regrouped : flat_map f (x ∷ xs) ++ rest ≡ f x ++ (flat_map f xs ++ rest) =
      ap (λ (s : List ℕ). s ++ rest) (flat_map-cons f x xs)
      ∙ append_assoc (f x) (flat_map f xs) rest in
      ap (times r (suc (length xs))) regrouped
      ∙ rw (c.complete x (flat_map f xs ++ rest) fits.0, times-complete xs rest fits.1) refl

  -- at most sixteen that were read were spelled so
  several-sound : (bytes : List ℕ) (x : List A × List ℕ) → IsBytes bytes
      → several_at r bytes ≡ Some x → (bytes ≡ several f x.0 ++ x.1) × FitsSeveral F x.0
  unfolding several_at
  several-sound bytes x fits e =
      let a = bind_some (number_at 2 bytes) (λ n. cond (ltb 16 n.0) None (times r n.0 n.1)) x e in
      let g = unless_passed (ltb 16 a.0.0) (times r a.0.0 a.0.1) x a.2 in
      let t0 = number-sound 2 bytes a.0 fits a.1 in
      let t1 =
      times-sound a.0.0 a.0.1 x (IsBytes-back (number 2 a.0.0) a.0.1 (subst IsBytes t0.0 fits))
      g.1 in
      let few : a.0.0 ≤ 16 = ltb-false _ _ g.0 in (
        t0.0 ∙ ap (λ (back : List ℕ). number 2 a.0.0 ++ back) t1.0
            ∙ sym (append_assoc (number 2 a.0.0) (flat_map f x.0) x.1)
            ∙ ap (λ (n : ℕ). (number 2 n ++ flat_map f x.0) ++ x.1) (sym t1.1),
        (omega (arith, few, t1.1), t1.2),
      )

  -- and at most sixteen that are spelled are read
  several-complete : (xs : List A) (rest : List ℕ) → FitsSeveral F xs
      → several_at r (several f xs ++ rest) ≡ Some (xs, rest)
  unfolding several_at
  several-complete xs rest fits =
      let first : number_at 2 (several f xs ++ rest) ≡ Some (length xs, flat_map f xs ++ rest) =
      ap (number_at 2) (append_assoc (number 2 (length xs)) (flat_map f xs) rest)
      ∙ number-complete 2 (length xs) (flat_map f xs ++ rest) (omega (arith, fits.0)) in
      let few : ltb 16 (length xs) ≡ false = le-ltb _ _ fits.0 in
      rw (first, few, times-complete xs rest fits.1) refl

  -- so lists are read as they are spelled
  pub several-codes : Codes (several f) (FitsSeveral F) (several_at r)
  several-codes = record { sound = several-sound; complete = several-complete }

  -- what was read with its length was spelled so
  sized-sound : (bytes : List ℕ) (x : A × List ℕ) → IsBytes bytes → sized_at r bytes ≡ Some x
      → (bytes ≡ sized f x.0 ++ x.1) × FitsSized f F x.0
  unfolding sized_at
  sized-sound bytes x fits e =
      let b =
      bind_some (sized_bytes_at bytes)
      (λ s. r s.0 and_then λ y. cond (eqb (length y.1) 0) (Some (y.0, s.1)) None) x e in
      let a = bind_some (number_at 2 bytes) (λ n. bytes_at n.0 n.1) b.0 b.1 in
      let d = bind_some (r b.0.0) (λ y. cond (eqb (length y.1) 0) (Some (y.0, b.0.1)) None) x b.2 in
      let g = cond_some (eqb (length d.0.1) 0) (d.0.0, b.0.1) x d.2 in
      let t0 = number-sound 2 bytes a.0 fits a.1 in
      let t1 = bytes-sound a.0.0 a.0.1 b.0 a.2 in
      let in_front : IsBytes b.0.0 =
      IsBytes-front b.0.0 b.0.1
      (subst IsBytes t1.0 (IsBytes-back (number 2 a.0.0) a.0.1 (subst IsBytes t0.0 fits))) in
      let t2 = c.sound b.0.0 d.0 in_front d.1 in
      let inner : b.0.0 ≡ f d.0.0 =
      t2.0 ∙ ap (λ (s : List ℕ). f d.0.0 ++ s) (nil_from_length d.0.1 (eqb-true _ _ g.0))
      ∙ append-nil (f d.0.0) in
      let size : a.0.0 ≡ length (f d.0.0) = sym t1.1 ∙ ap length inner in
      subst (λ (y : A × List ℕ). (bytes ≡ sized f y.0 ++ y.1) × FitsSized f F y.0) g.1 (
        t0.0 ∙ ap (λ (back : List ℕ). number 2 a.0.0 ++ back) t1.0
            ∙ sym (append_assoc (number 2 a.0.0) b.0.0 b.0.1)
            ∙ ap (λ (s : List ℕ). (number 2 a.0.0 ++ s) ++ b.0.1) inner
            ∙ ap (λ (n : ℕ). (number 2 n ++ f d.0.0) ++ b.0.1) size,
        (t2.1, omega (arith, size, t0.1)),
      )

  -- and what is spelled with its length is read
  sized-complete : (x : A) (rest : List ℕ) → FitsSized f F x
      → sized_at r (sized f x ++ rest) ≡ Some (x, rest)
  unfolding sized_at
  sized-complete x rest fits =
      let first : number_at 2 (sized f x ++ rest) ≡ Some (length (f x), f x ++ rest) =
      ap (number_at 2) (append_assoc (number 2 (length (f x))) (f x) rest)
      ∙ number-complete 2 (length (f x)) (f x ++ rest) fits.1 in
      let inner : r (f x) ≡ Some (x, []) = ap r (sym (append-nil (f x))) ∙ c.complete x [] fits.0 in
      rw (first, bytes-complete (f x) rest, inner) refl

  -- so what has a length is read as it is spelled
  pub sized-codes : Codes (sized f) (FitsSized f F) (sized_at r)
  sized-codes = record { sound = sized-sound; complete = sized-complete }

-- the fields of a stat fit
pub record StatFieldsFit (s : StatFields) : Type 0 where
  numbers : StatNumbersFit s
  name : FitsText s.name
  uid : FitsText s.uid
  gid : FitsText s.gid
  muid : FitsText s.muid

-- they are read as they are spelled
stat_fields-codes : Codes stat_fields StatFieldsFit stat_fields_at
unfolding stat_numbers_at stat_fields_at
stat_fields-codes =
    let numbers =
    then-codes
    (then-codes
    (then-codes
    (then-codes (then-codes (then-codes (number-codes 2) (number-codes 4)) qid-codes)
    (number-codes 4)) (number-codes 4)) (number-codes 4)) (number-codes 8) in
    let all =
    then-codes (then-codes (then-codes (then-codes numbers text-codes) text-codes) text-codes)
    text-codes in
    same-codes all
    (λ x. record {
      kind = x.0.0.0.0.0.0.0.0.0.0;
      dev = x.0.0.0.0.0.0.0.0.0.1;
      qid = x.0.0.0.0.0.0.0.0.1;
      mode = x.0.0.0.0.0.0.0.1;
      atime = x.0.0.0.0.0.0.1;
      mtime = x.0.0.0.0.0.1;
      length = x.0.0.0.0.1;
      name = x.0.0.0.1;
      uid = x.0.0.1;
      gid = x.0.1;
      muid = x.1;
    })
    (λ s. (
      (
        ((((((((s.kind, s.dev), s.qid), s.mode), s.atime), s.mtime), s.length), s.name), s.uid),
        s.gid,
      ),
      s.muid,
    ))
    (λ a. refl) (λ b. refl)
    (λ b x. record {
      numbers = record {
        kind = x.0.0.0.0.0.0.0.0.0.0;
        dev = x.0.0.0.0.0.0.0.0.0.1;
        qid = x.0.0.0.0.0.0.0.0.1;
        mode = x.0.0.0.0.0.0.0.1;
        atime = x.0.0.0.0.0.0.1;
        mtime = x.0.0.0.0.0.1;
        length = x.0.0.0.0.1;
      };
      name = x.0.0.0.1;
      uid = x.0.0.1;
      gid = x.0.1;
      muid = x.1;
    })
    (λ b s. let n = s.numbers in (
      (
        ((((((((n.kind, n.dev), n.qid), n.mode), n.atime), n.mtime), n.length), s.name), s.uid),
        s.gid,
      ),
      s.muid,
    ))

-- the same values, said in other words
refit : {A : Type 0} {f : A → List ℕ} {F G : A → Type 0} {r : Reader A} → Codes f F r
    → ((x : A) → F x → G x) → ((x : A) → G x → F x) → Codes f G r
refit c out in_ = record {
  sound = λ bytes x fits e. let t = c.sound bytes x fits e in (t.0, out x.0 t.1);
  complete = λ x rest h. c.complete x rest (in_ x h);
}

-- so a stat in a message is read as it is spelled
pub stat-codes : Codes (sized stat_bytes) (λ s. StatNumbersFit s × FitsStat s) stat_at
stat-codes = refit (sized-codes (sized-codes stat_fields-codes))
    (λ s h. let f = h.0.0 in (
      f.numbers,
      record {
        name = f.name;
        uid = f.uid;
        gid = f.gid;
        muid = f.muid;
        short = omega (arith, length-stat_bytes s, h.1);
      },
    ))
    (λ s h. let n = h.0 in let f = h.1 in (
      (
        record {
          numbers = n;
          name = f.name;
          uid = f.uid;
          gid = f.gid;
          muid = f.muid;
        },
        omega (arith, length-stat_fields s, f.short),
      ),
      omega (arith, length-stat_bytes s, f.short),
    ))

-- no field is read as it is spelled
pub nothing-codes : Codes (λ (x : Unit {0}). []) (λ (x : Unit {0}). Unit {0}) nothing_at
nothing-codes = record {
  sound = λ bytes x fits e. (ap (λ (y : Unit {0} × List ℕ). y.1) (same_Some _ x e), tt);
  complete = λ x rest h. refl;
}

-- a stat by itself is read as it is spelled
module _ (bytes : List ℕ) where
  -- what is read of bytes, with nothing behind it, they spell
  pub stat-sound : (s : StatFields) → IsBytes bytes → sized_at stat_fields_at bytes ≡ Some (s, [])
      → stat_bytes s ≡ bytes
  stat-sound s fits e =
      let t = (sized-codes stat_fields-codes).sound bytes (s, []) fits e in
      sym (t.0 ∙ append-nil (stat_bytes s))

  -- a stat that they spell is read of them
  pub stat-complete : (s : StatFields) → StatNumbersFit s → FitsStat s → stat_bytes s ≡ bytes
      → sized_at stat_fields_at bytes ≡ Some (s, [])
  stat-complete s numbers fits is =
      ap (sized_at stat_fields_at) (sym is ∙ sym (append-nil (stat_bytes s)))
      ∙ (sized-codes stat_fields-codes).complete s [] (
        record {
          numbers = numbers;
          name = fits.name;
          uid = fits.uid;
          gid = fits.gid;
          muid = fits.muid;
        },
        omega (arith, length-stat_fields s, fits.short),
      )

-- what has no byte
pub none-left : (tested : Bool) (rest : List ℕ) → tested ≡ eqb (length rest) 0 → tested ≡ true
    → rest ≡ []
none-left tested rest is holds =
    nil_from_length rest (eqb-true (length rest) 0 (sym is ∙ holds))
