-- How the fields of a Tattach are read.
use Rattle.std.proofs.Common.{◌≡◌, ℕ, ◌+◌, ◌≤◌, ◌<◌, Bool, true, false, cond, eqb, ltb, List, ◌++◌}
use Rattle.std.proofs.Common.{length, take, drop, None, Some, inl, inr, refl, ap, ◌∙◌, arith}
use Rattle.std.proofs.Math.Seq.{take-add}
use Rattle.std.proofs.lemmas.Bool.{cases_lt, eq-eqb, lt-ltb, le-ltb}
use Rattle.std.proofs.lemmas.List.{append_assoc, drop-drop, drop_at, length-append, length-drop}
use Rattle.std.proofs.lemmas.List.{length-take-le, take_at}
use Rattle.std.specs.declared.option.Option.{Option}
use Rattle.byteorder.specs.Endian.{little_number}
use Rattle.byteorder.specs.Numbers.{little_from-append}
use Rattle.p9_base.specs.Text.{is_text}
use Rattle.p9_wire.specs.FieldReading.{◌and_then◌, bytes_at, number_at, text_at}
use Rattle.p9_wire.specs.Message.{TMessage, Tattach}
use Rattle.p9_wire.specs.FieldReading.{header_at}
use Rattle.p9_wire.specs.Reading.{t_attach_at, t_body_at, t_message_of}

-- so many bytes from a place on
abbrev pub field : ℕ → ℕ → List ℕ → List ℕ
field from count bytes = take count (drop from bytes)

one_field : (from count : ℕ) (bytes tail : List ℕ)
    → take (from + count) bytes ++ tail ≡ take from bytes ++ (field from count bytes ++ tail)
one_field from count bytes tail =
    ap (λ xs. xs ++ tail) (take-add from count bytes)
    ∙ append_assoc (take from bytes) (field from count bytes) tail

pub length-field : (from count : ℕ) (bytes : List ℕ) → from + count ≤ length bytes
    → length (field from count bytes) ≡ count
length-field from count bytes held =
    length-take-le count (drop from bytes) (omega (arith, length-drop from bytes))

-- size, type and tag
pub header_fields : (bytes tail : List ℕ)
    → take 7 bytes ++ tail ≡ take 4 bytes ++ (field 4 1 bytes ++ (field 5 2 bytes ++ tail))
header_fields bytes tail =
    one_field 5 2 bytes tail ∙ one_field 4 1 bytes (field 5 2 bytes ++ tail)

-- and fid, afid and the length of the name
pub attach_fields : (bytes tail : List ℕ)
    → take 17 bytes ++ tail
    ≡ take 4 bytes ++ (field 4 1 bytes ++ (field 5 2 bytes
    ++ (field 7 4 bytes ++ (field 11 4 bytes ++ (field 15 2 bytes ++ tail)))))
attach_fields bytes tail =
    one_field 15 2 bytes tail
    ∙ one_field 11 4 bytes (field 15 2 bytes ++ tail)
    ∙ one_field 7 4 bytes (field 11 4 bytes ++ (field 15 2 bytes ++ tail))
    ∙ header_fields bytes (field 7 4 bytes ++ (field 11 4 bytes ++ (field 15 2 bytes ++ tail)))

-- a number in front
number_at-front : (n : ℕ) (xs ys : List ℕ) → length xs ≡ n
    → number_at n (xs ++ ys) ≡ Some (little_number n xs, ys)
number_at-front n xs ys e =
    let enough : ltb (length (xs ++ ys)) n ≡ false =
    le-ltb _ _ (omega (arith, length-append xs ys)) in
    let number : little_number n (xs ++ ys) ≡ little_number n xs =
    little_from-append n xs ys (omega arith) in
    let behind : drop n (xs ++ ys) ≡ ys = drop_at xs ys n e in
    rw (enough, number, behind) refl

bytes_at-front : (n : ℕ) (xs ys : List ℕ) → length xs ≡ n
    → bytes_at n (xs ++ ys) ≡ Some (xs, ys)
bytes_at-front n xs ys e =
    let enough : ltb (length (xs ++ ys)) n ≡ false =
    le-ltb _ _ (omega (arith, length-append xs ys)) in
    let front : take n (xs ++ ys) ≡ xs = take_at xs ys n e in
    let behind : drop n (xs ++ ys) ≡ ys = drop_at xs ys n e in
    rw (enough, front, behind) refl

text_at-front : (len name rest : List ℕ) → length len ≡ 2 → little_number 2 len ≡ length name
    → text_at (len ++ (name ++ rest)) ≡ cond (is_text name) (Some (name, rest)) None
unfolding text_at
text_at-front len name rest e f =
    let sized = number_at-front 2 len (name ++ rest) e in
    let named = bytes_at-front (length name) name rest refl in
    rw (sized, f, named) refl

-- too few bytes for a text
text_at-none : (bytes : List ℕ) → (2 ≤ length bytes → length (drop 2 bytes) < little_number 2 bytes)
    → text_at bytes ≡ None
unfolding text_at
text_at-none bytes short = elim (cases_lt (length bytes) 2) [
  | inl few ↦ rw (lt-ltb (length bytes) 2 few) refl
  | inr some ↦
      let enough : ltb (length bytes) 2 ≡ false = le-ltb _ _ some in
      let lacks : ltb (length (drop 2 bytes)) (little_number 2 bytes) ≡ true =
      lt-ltb _ _ (short some) in
      rw (enough, lacks) refl
]

-- the parts of a frame
pub header_read : (size kind tag body : List ℕ) → length size ≡ 4 → length kind ≡ 1
    → length tag ≡ 2 → little_number 4 size ≡ length (size ++ (kind ++ (tag ++ body)))
    → header_at (size ++ (kind ++ (tag ++ body)))
    ≡ Some (little_number 1 kind, little_number 2 tag, body)
unfolding header_at
header_read size kind tag body s k t said =
    let all = size ++ (kind ++ (tag ++ body)) in
    let first = number_at-front 4 size (kind ++ (tag ++ body)) s in
    let whole : eqb (little_number 4 size) (length all) ≡ true = eq-eqb _ _ said in
    let second = number_at-front 1 kind (tag ++ body) k in
    let third = number_at-front 2 tag body t in
    rw (first, whole, second, third) refl

-- what is read of a Tattach, where its name is there
abbrev pub ended : (tag fid afid : ℕ) (name : List ℕ) → Option (List ℕ × List ℕ)
    → Option (ℕ × TMessage)
ended tag fid afid name aname =
    aname and_then λ a. cond (eqb (length a.1) 0) (Some (tag, Tattach fid afid name a.0)) None

abbrev pub attach_of : (tag fid afid : ℕ) (name rest : List ℕ) → Option (ℕ × TMessage)
attach_of tag fid afid name rest =
    cond (is_text name) (ended tag fid afid name (text_at rest)) None

-- the fields of a body, by what is read of its texts
body_by : (fid afid len name rest : List ℕ) → length fid ≡ 4 → length afid ≡ 4 → length len ≡ 2
    → little_number 2 len ≡ length name → (tag : ℕ) (b : Bool) → is_text name ≡ b
    → (aname : Option (List ℕ × List ℕ)) → text_at rest ≡ aname
    → (t_attach_at (fid ++ (afid ++ (len ++ (name ++ rest)))) and_then λ m.
    cond (eqb (length m.1) 0) (Some (tag, m.0)) None)
    ≡ attach_of tag (little_number 4 fid) (little_number 4 afid) name rest
unfolding t_attach_at
body_by fid afid len name rest f a l said tag false e aname g =
    let first = number_at-front 4 fid (afid ++ (len ++ (name ++ rest))) f in
    let second = number_at-front 4 afid (len ++ (name ++ rest)) a in
    let third = text_at-front len name rest l said in
    rw (first, second, third, e) refl
body_by fid afid len name rest f a l said tag true e None g =
    let first = number_at-front 4 fid (afid ++ (len ++ (name ++ rest))) f in
    let second = number_at-front 4 afid (len ++ (name ++ rest)) a in
    let third = text_at-front len name rest l said in
    rw (first, second, third, e, g) refl
body_by fid afid len name rest f a l said tag true e (Some aname) g =
    let first = number_at-front 4 fid (afid ++ (len ++ (name ++ rest))) f in
    let second = number_at-front 4 afid (len ++ (name ++ rest)) a in
    let third = text_at-front len name rest l said in
    rw (first, second, third, e, g) refl

-- a message, by its header
pub by_header : (frame : List ℕ) (kind tag : ℕ) (body : List ℕ)
    → header_at frame ≡ Some (kind, tag, body)
    → t_message_of frame ≡ (t_body_at kind body and_then λ m.
    cond (eqb (length m.1) 0) (Some (tag, m.0)) None)
unfolding t_message_of
by_header frame kind tag body e = rw e refl

-- that of a Tattach is read by its own reader
pub by_header_attach : (frame : List ℕ) (kind tag : ℕ) (body : List ℕ)
    → header_at frame ≡ Some (kind, tag, body) → kind ≡ 104
    → t_message_of frame ≡ (t_attach_at body and_then λ m.
    cond (eqb (length m.1) 0) (Some (tag, m.0)) None)
unfolding t_body_at
by_header_attach frame kind tag body e k =
    by_header frame kind tag body e
    ∙ ap (λ n. t_body_at n body and_then λ m. cond (eqb (length m.1) 0) (Some (tag, m.0)) None) k

-- a Tattach, from its fields
pub attach_read : (bytes name rest : List ℕ) → 17 ≤ length bytes
    → little_number 1 (field 4 1 bytes) ≡ 104 → little_number 2 (field 15 2 bytes) ≡ length name
    → little_number 4 (take 4 bytes) ≡ length (take 17 bytes ++ (name ++ rest))
    → t_message_of (take 17 bytes ++ (name ++ rest))
    ≡ attach_of (little_number 2 (field 5 2 bytes)) (little_number 4 (field 7 4 bytes))
    (little_number 4 (field 11 4 bytes)) name rest
attach_read bytes name rest long kind len said =
    let tail = name ++ rest in
    let body = field 7 4 bytes ++ (field 11 4 bytes ++ (field 15 2 bytes ++ tail)) in
    let all = take 4 bytes ++ (field 4 1 bytes ++ (field 5 2 bytes ++ body)) in
    let parts : take 17 bytes ++ tail ≡ all = attach_fields bytes tail in
    let header : header_at all
    ≡ Some (little_number 1 (field 4 1 bytes), little_number 2 (field 5 2 bytes), body) =
    header_read (take 4 bytes) (field 4 1 bytes) (field 5 2 bytes) body
    (length-field 0 4 bytes (omega arith)) (length-field 4 1 bytes (omega arith))
    (length-field 5 2 bytes (omega arith)) (said ∙ ap length parts) in
    ap t_message_of parts
    ∙ by_header_attach all _ _ body header kind
    ∙ body_by (field 7 4 bytes) (field 11 4 bytes) (field 15 2 bytes) name rest
    (length-field 7 4 bytes (omega arith)) (length-field 11 4 bytes (omega arith))
    (length-field 15 2 bytes (omega arith)) len (little_number 2 (field 5 2 bytes))
    (is_text name) refl (text_at rest) refl

-- too few bytes for a Tattach
pub attach-none : (body : List ℕ)
    → (10 ≤ length body → length body < 10 + little_number 2 (drop 8 body))
    → t_attach_at body ≡ None
unfolding t_attach_at
attach-none body short = elim (cases_lt (length body) 4) [
  | inl few ↦ rw (lt-ltb (length body) 4 few) refl
  | inr some ↦
      let first : number_at 4 body ≡ Some (little_number 4 body, drop 4 body) =
      rw (le-ltb (length body) 4 some) refl in
      elim (cases_lt (length (drop 4 body)) 4) [
        | inl few ↦
            let second : number_at 4 (drop 4 body) ≡ None =
            rw (lt-ltb (length (drop 4 body)) 4 few) refl in
            rw (first, second) refl
        | inr more ↦
            let second : number_at 4 (drop 4 body)
            ≡ Some (little_number 4 (drop 4 body), drop 4 (drop 4 body)) =
            rw (le-ltb (length (drop 4 body)) 4 more) refl in
            let third : text_at (drop 4 (drop 4 body)) ≡ None =
            ap text_at (drop-drop 4 4 body)
            ∙ text_at-none (drop 8 body) (λ two.
            let held : 10 ≤ length body = omega (arith, length-drop 8 body) in
            let lacks = short held in
            omega (arith, length-drop 2 (drop 8 body), length-drop 8 body)) in
            rw (first, second, third) refl
      ]
]
