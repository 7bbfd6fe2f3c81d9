-- The frame of a message: what is read of one was spelled so, and what is spelled so is read.
use Rattle.std.proofs.Common.{◌≡◌, ℕ, ◌+◌, ◌^◌, ◌<◌, Bool, true, false, cond, eqb, List, [], ◌++◌}
use Rattle.std.proofs.Common.{length, Option, Some, None, refl, sym, ap, subst, ◌∙◌, arith}
use Rattle.std.proofs.lemmas.Bool.{eqb-true, eq-eqb}
use Rattle.std.proofs.lemmas.List.{append-nil, nil_from_length}
use Rattle.std.proofs.lemmas.Option.{cond_some, same_Some}
use Rattle.p9_wire.specs.Fields.{number}
use Rattle.p9_wire.specs.Reply.{frame}
use Rattle.std.specs.Prelude.{IfSome, IfNone}
use Rattle.p9_wire.specs.FieldReading.{◌and_then◌, Gives, Reader, number_at, ◌then◌, mapped}
use Rattle.p9_wire.specs.FieldReading.{header_at}
use Rattle.p9_wire.specs.Reading.{message_at}
use Rattle.p9_wire.specs.Frame.{IsBytes}
use Rattle.p9_wire.proofs.Bytes.{IsBytes-back}
use Rattle.p9_wire.proofs.Lengths.{length-parts, length-frame}
use Rattle.p9_wire.proofs.Codes.{bind_some, when_passed, Codes, number-codes, then-codes}
use Rattle.p9_wire.proofs.Codes.{made-sound}

-- type and tag are read as they are spelled
kind_tag : Codes (λ (x : ℕ × ℕ). number 1 x.0 ++ number 2 x.1)
    (λ (x : ℕ × ℕ). (x.0 < 256 ^ 1) × (x.1 < 256 ^ 2)) (number_at 1 then number_at 2)
kind_tag = then-codes (number-codes 1) (number-codes 2)

-- the parts of a frame that has all of these bytes
record Opened (bytes : List ℕ) (kind tag : ℕ) (body : List ℕ) : Type 0 where
  whole : bytes ≡ number 4 (length bytes) ++ (number 1 kind ++ number 2 tag ++ body)
  size_fits : length bytes < 2 ^ 32
  tag_fits : tag < 2 ^ 16

-- the parts that were read are those of the frame
header-sound : (bytes : List ℕ) (x : ℕ × ℕ × List ℕ) → IsBytes bytes → header_at bytes ≡ Some x
    → Opened bytes x.0 x.1 x.2
unfolding header_at
header-sound bytes x fits e =
    let a =
    bind_some (number_at 4 bytes)
    (λ size. cond (eqb size.0 (length bytes))
    ((number_at 1 then number_at 2) size.1 and_then λ x. Some (x.0.0, x.0.1, x.1)) None) x e in
    let g =
    when_passed (eqb a.0.0 (length bytes))
    ((number_at 1 then number_at 2) a.0.1 and_then λ x. Some (x.0.0, x.0.1, x.1)) x a.2 in
    let b =
    bind_some ((number_at 1 then number_at 2) a.0.1) (λ x. Some (x.0.0, x.0.1, x.1)) x g.1 in
    let size-is : a.0.0 ≡ length bytes = eqb-true _ _ g.0 in
    let t0 = (number-codes 4).sound bytes a.0 fits a.1 in
    let t1 =
    kind_tag.sound a.0.1 b.0 (IsBytes-back (number 4 a.0.0) a.0.1 (subst IsBytes t0.0 fits))
    b.1 in
    let parts : bytes ≡ number 4 (length bytes) ++ (number 1 b.0.0.0 ++ number 2 b.0.0.1 ++ b.0.1) =
    t0.0 ∙ ap (λ (back : List ℕ). number 4 a.0.0 ++ back) t1.0
    ∙ ap (λ (n : ℕ). number 4 n ++ (number 1 b.0.0.0 ++ number 2 b.0.0.1 ++ b.0.1)) size-is in
    subst (λ (y : ℕ × ℕ × List ℕ). Opened bytes y.0 y.1 y.2) (same_Some _ x b.2) (record {
      whole = parts;
      size_fits = omega (arith, size-is, t0.1);
      tag_fits = t1.1.1;
    })

-- and the parts of a frame are read
header-complete : (kind tag : ℕ) (body : List ℕ) → kind < 256 → tag < 2 ^ 16
    → 7 + length body < 2 ^ 32 → header_at (frame kind tag body) ≡ Some (kind, tag, body)
unfolding header_at
header-complete kind tag body kind_fits tag_fits size_fits =
    let size : eqb (7 + length body) (length (frame kind tag body)) ≡ true =
    eq-eqb _ _ (sym (length-frame kind tag body)) in
    rw (
      (number-codes 4).complete (7 + length body) (number 1 kind ++ number 2 tag ++ body)
          size_fits,
      size,
      kind_tag.complete (kind, tag) body (kind_fits, tag_fits),
    ) refl

-- messages: the number of a message's type, the bytes of its body, what fits in its fields, and the
-- reader of the bodies of a type
pub record Grammar (M : Type 0) : Type 1 where
  pub kind : M → ℕ
  pub body : M → List ℕ
  pub Fits : M → Type 0
  pub body_at : ℕ → Reader M

module _ {M : Type 0} (g : Grammar M) where
  -- these bytes are the frame of the message, whose fields and size fit
  pub record Framed (bytes : List ℕ) (tag : ℕ) (m : M) : Type 0 where
    pub whole : bytes ≡ frame (g.kind m) tag (g.body m)
    pub fits : g.Fits m
    pub tag_fits : tag < 2 ^ 16
    pub size_fits : 7 + length (g.body m) < 2 ^ 32

  -- what was read of these bytes is a message of this type
  abbrev pub Taken : ℕ → List ℕ → M × List ℕ → Type 0
  Taken k bytes x = (g.kind x.0 ≡ k) × (bytes ≡ g.body x.0 ++ x.1) × g.Fits x.0

  -- a reader of the bodies of this type, which reads them as they are spelled
  abbrev pub IsReader : ℕ → Reader M → Type 0
  IsReader k r =
      (bytes : List ℕ) (x : M × List ℕ) → IsBytes bytes → r bytes ≡ Some x → Taken k bytes x

  -- what reading a body has to meet
  pub record Reads : Type 0 where
    pub small : (m : M) → g.kind m < 256
    pub sound : (k : ℕ) → IsReader k (g.body_at k)
    pub complete : (m : M) (rest : List ℕ) → g.Fits m
        → g.body_at (g.kind m) (g.body m ++ rest) ≡ Some (m, rest)

  -- a message that is made of its fields
  pub taken : {A : Type 0} {f : A → List ℕ} {F : A → Type 0} {r : Reader A} (c : Codes f F r)
      (make : A → M) {k : ℕ}
      → ((a : A) → g.kind (make a) ≡ k) → ((a : A) → g.body (make a) ≡ f a)
      → ((a : A) → F a → g.Fits (make a))
      → IsReader k (mapped make r)
  taken {A} {f} {F} {r} c make {k} kind_of body_of fits_of bytes x fits e =
      let t = made-sound c make bytes x fits e in
      subst (λ (m : M). (g.kind m ≡ k) × (bytes ≡ g.body m ++ x.1) × g.Fits m) t.1
      (kind_of t.0, t.2 ∙ ap (λ (s : List ℕ). s ++ x.1) (sym (body_of t.0)), fits_of t.0 t.3)

  -- a reader of this type, and others behind it in a chain of ifs
  pub chosen : (k : ℕ) {n : ℕ} {r s : Reader M} → IsReader n r → IsReader k s
      → IsReader k (cond (eqb k n) r s)
  chosen k {n} {r} {s} first others bytes x fits e = cases (eqb k n) refl e
    where
      cases : (b : Bool) → eqb k n ≡ b → cond b r s bytes ≡ Some x → Taken k bytes x
      cases true is e =
          subst (λ (i : ℕ). Taken i bytes x) (sym (eqb-true k n is)) (first bytes x fits e)
      cases false is e = others bytes x fits e

  -- a body that takes up the frame makes it the frame of its message
  closed : (bytes : List ℕ) (k tag : ℕ) (rest after : List ℕ) (m : M) → Opened bytes k tag rest
      → g.kind m ≡ k → rest ≡ g.body m ++ after → eqb (length after) 0 ≡ true → g.Fits m
      → Framed bytes tag m
  closed bytes k tag rest after m opened kind-is rest-is ended fits =
      let nothing : after ≡ [] = nil_from_length after (eqb-true _ _ ended) in
      let body-is : rest ≡ g.body m =
      rest-is ∙ ap (λ (r : List ℕ). g.body m ++ r) nothing ∙ append-nil (g.body m) in
      let size : length bytes ≡ 7 + length (g.body m) =
      ap length opened.whole ∙ length-parts (length bytes) k tag rest
      ∙ ap (λ (r : List ℕ). 7 + length r) body-is in
      let whole : bytes ≡ frame (g.kind m) tag (g.body m) =
      opened.whole ∙ ap (λ (n : ℕ). number 4 n ++ (number 1 k ++ number 2 tag ++ rest)) size
      ∙ ap (λ (r : List ℕ). number 4 (7 + length (g.body m)) ++ (number 1 k ++ number 2 tag ++ r))
      body-is
      ∙ ap (λ (j : ℕ). number 4 (7 + length (g.body m)) ++ (number 1 j ++ number 2 tag ++ g.body m))
      (sym kind-is) in
      record {
        whole = whole;
        fits = fits;
        tag_fits = opened.tag_fits;
        size_fits = omega (arith, size, opened.size_fits);
      }

  -- what was read is framed so
  pub message-sound : Reads → (bytes : List ℕ) (x : ℕ × M) → IsBytes bytes
      → message_at g.body_at bytes ≡ Some x → Framed bytes x.0 x.1
  message-sound reads bytes x fits e =
      let a =
      bind_some (header_at bytes)
      (λ f. g.body_at f.0 f.2 and_then λ m. cond (eqb (length m.1) 0) (Some (f.1, m.0)) None) x
      e in
      let b =
      bind_some (g.body_at a.0.0 a.0.2) (λ m. cond (eqb (length m.1) 0) (Some (a.0.1, m.0)) None)
      x a.2 in
      let g = cond_some (eqb (length b.0.1) 0) (a.0.1, b.0.0) x b.2 in
      let opened = header-sound bytes a.0 fits a.1 in
      let in_body : IsBytes a.0.2 =
      IsBytes-back (number 1 a.0.0 ++ number 2 a.0.1) a.0.2
      (IsBytes-back (number 4 (length bytes)) (number 1 a.0.0 ++ number 2 a.0.1 ++ a.0.2)
      (subst IsBytes opened.whole fits)) in
      let t = reads.sound a.0.0 a.0.2 b.0 in_body b.1 in
      subst (λ (y : ℕ × M). Framed bytes y.0 y.1) g.1
      (closed bytes a.0.0 a.0.1 a.0.2 b.0.1 b.0.0 opened t.0 t.1 g.0 t.2)

  -- and what is framed so is read
  pub message-complete : Reads → (bytes : List ℕ) (tag : ℕ) (m : M) → Framed bytes tag m
      → message_at g.body_at bytes ≡ Some (tag, m)
  message-complete reads bytes tag m spelled =
      let first =
      header-complete (g.kind m) tag (g.body m) (reads.small m) spelled.tag_fits
      spelled.size_fits in
      let second : g.body_at (g.kind m) (g.body m) ≡ Some (m, []) =
      ap (g.body_at (g.kind m)) (sym (append-nil (g.body m))) ∙ reads.complete m [] spelled.fits in
      ap (message_at g.body_at) spelled.whole ∙ rw (first, second) refl

-- a function that answers a message exactly where the relation holds of it
pub record Decides {M : Type 0} (message_of : List ℕ → Option (ℕ × M))
    (Spells : List ℕ → ℕ → M → Type 0) : Type 0 where
  pub sound : (bytes : List ℕ) (tag : ℕ) (m : M) → IsBytes bytes → message_of bytes ≡ Some (tag, m)
      → Spells bytes tag m
  pub complete : (bytes : List ℕ) (tag : ℕ) (m : M) → Spells bytes tag m
      → message_of bytes ≡ Some (tag, m)

module _ {M : Type 0} {message_of : List ℕ → Option (ℕ × M)} {Spells : List ℕ → ℕ → M → Type 0}
    (decides : Decides message_of Spells) where
  -- what the code read, seen by view, has this spelling
  pub is_found : {X : Type 0} (view : X → ℕ × M) (result : Option X) (bytes : List ℕ)
      → IsBytes bytes → Gives view result (message_of bytes)
      → IfSome result (λ x. Spells bytes (view x).0 (view x).1)
  is_found view None bytes fits gives = tt
  is_found view (Some x) bytes fits gives = decides.sound bytes (view x).0 (view x).1 fits gives

  -- where the code read nothing, nothing has this spelling
  pub is_none : {X : Type 0} (view : X → ℕ × M) (result : Option X) (bytes : List ℕ)
      → Gives view result (message_of bytes)
      → IfNone result ((tag : ℕ) (m : M) → Spells bytes tag m → ⊥)
  is_none view None bytes gives =
      λ tag m spelled. let e = decides.complete bytes tag m spelled in absurd cc
  is_none view (Some x) bytes gives = tt

  -- a spelling has one tag and one message
  pub one_tag : (bytes : List ℕ) (s t : ℕ) (m n : M) → Spells bytes s m → Spells bytes t n → s ≡ t
  one_tag bytes s t m n p q =
      let same : (s, m) ≡ (t, n) =
      same_Some (s, m) (t, n) (sym (decides.complete bytes s m p)
      ∙ decides.complete bytes t n q) in
      ap (λ (x : ℕ × M). x.0) same

  -- and one message
  pub one_message : (bytes : List ℕ) (s t : ℕ) (m n : M) → Spells bytes s m → Spells bytes t n
      → m ≡ n
  one_message bytes s t m n p q =
      let same : (s, m) ≡ (t, n) =
      same_Some (s, m) (t, n) (sym (decides.complete bytes s m p)
      ∙ decides.complete bytes t n q) in
      ap (λ (x : ℕ × M). x.1) same
