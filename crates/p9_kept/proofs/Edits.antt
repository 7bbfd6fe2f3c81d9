-- Records behind one another are read one after another.
use Rattle.std.proofs.Common.{◌≡◌, ℕ, zero, suc, ◌+◌, ◌≤◌, ◌<◌, Bool, true, false, List, [], ◌∷◌, ◌++◌, length, Option, Some, None}
use Rattle.std.proofs.Common.{refl, sym, ap, subst, ◌∙◌, append_assoc, arith}
use Rattle.std.proofs.lemmas.List.{length-append, append-nil, nil_from_length}
use Rattle.std.specs.Prelude.{nat_lt, if◌then◌else◌}
use Rattle.std.proofs.lemmas.Bool.{ltb-true, lt-ltb}
use Rattle.p9_tree.specs.ForestEdit.{ForestEdit, all_forest_edited, forest_edited}
use Rattle.p9_tree.specs.Server.{Server}
use Rattle.p9_record.specs.Record.{forest_spelling, FitsForestEdit}
use Rattle.p9_record.specs.RecordReading.{forest_edit_at}
use Rattle.p9_record.specs.Closed.{checksum, closed_edit_at, closed_spelling}
use Rattle.p9_kept.specs.Edits.{edits_by, edits_after, edits_in, IsWhole, stood_from}
use Rattle.p9_wire.specs.Frame.{IsBytes}
use Rattle.p9_wire.proofs.Bytes.{IsBytes-back}
use Rattle.p9_record.proofs.Checksums.{closed_edit-complete, closed_edit-sound, length-checksum}

-- no bytes are no change
pub edits_in-nil : edits_in [] ≡ []
unfolding edits_in
edits_in-nil = refl

-- a change takes a byte at least
one-more : (edit : ForestEdit) → 1 ≤ length (closed_spelling edit)
unfolding closed_spelling
one-more edit =
    omega (arith, length-append (forest_spelling edit) (checksum (forest_spelling edit)), length-checksum (forest_spelling edit))

-- more turns than bytes change nothing
enough : (n m : ℕ) (bytes : List ℕ) → length bytes ≤ n → length bytes ≤ m
    → edits_by n bytes ≡ edits_by m bytes
unfolding closed_edit_at forest_edit_at
enough zero zero bytes a b = refl
enough zero (suc m) [] a b = refl
enough zero (suc m) (byte ∷ bytes) a b = absurd (omega arith)
enough (suc n) zero [] a b = refl
enough (suc n) zero (byte ∷ bytes) a b = absurd (omega arith)
enough (suc n) (suc m) bytes a b =
    go (closed_edit_at bytes) (λ (rest : List ℕ) c. enough n m rest (omega arith) (omega arith))
  where
    go : (r : Option (ForestEdit × List ℕ))
        → ((rest : List ℕ) → length rest < length bytes → edits_by n rest ≡ edits_by m rest)
        → edits_after (edits_by n) bytes r ≡ edits_after (edits_by m) bytes r
    go None same = refl
    go (Some x) same = test (nat_lt (length x.1) (length bytes)) refl
      where
        test : (t : Bool) → nat_lt (length x.1) (length bytes) ≡ t
            → (if t then x.0 ∷ edits_by n x.1 else []) ≡ (if t then x.0 ∷ edits_by m x.1 else [])
        test true e = ap (λ es. x.0 ∷ es) (same x.1 (ltb-true _ _ e))
        test false e = refl

-- one change first
edits_in-cons : (edit : ForestEdit) (more : List ℕ) → FitsForestEdit edit
    → edits_in (closed_spelling edit ++ more) ≡ edit ∷ edits_in more
unfolding edits_in
edits_in-cons edit more fits =
    let some : 1 ≤ length (closed_spelling edit) = one-more edit in
    let long : length (closed_spelling edit ++ more) ≡ length (closed_spelling edit) + length more =
    length-append (closed_spelling edit) more in
    enough (length (closed_spelling edit ++ more)) (suc (length (closed_spelling edit ++ more)))
    (closed_spelling edit ++ more) (omega arith) (omega arith)
    ∙ ap (edits_after (edits_by (length (closed_spelling edit ++ more))) (closed_spelling edit ++ more))
    (closed_edit-complete edit more fits)
    ∙ rw (lt-ltb (length more) (length (closed_spelling edit ++ more)) (omega arith))
    (ap (λ es. edit ∷ es) (enough (length (closed_spelling edit ++ more)) (length more) more (omega arith) (omega arith)))

-- whole records, and one more
pub whole-more : (bytes : List ℕ) (edit : ForestEdit) → IsWhole bytes → FitsForestEdit edit
    → IsWhole (bytes ++ closed_spelling edit)
whole-more bytes edit whole fits more =
    let last : edits_in (closed_spelling edit) ≡ edit ∷ [] =
    ap edits_in (sym (append-nil (closed_spelling edit))) ∙ edits_in-cons edit [] fits
    ∙ ap (λ es. edit ∷ es) edits_in-nil in
    ap edits_in (append_assoc bytes (closed_spelling edit) more) ∙ whole (closed_spelling edit ++ more)
    ∙ ap (λ es. edits_in bytes ++ es) (edits_in-cons edit more fits)
    ∙ sym (append_assoc (edits_in bytes) (edit ∷ []) (edits_in more))
    ∙ ap (λ es. es ++ edits_in more)
    (ap (λ es. edits_in bytes ++ es) (sym last) ∙ sym (whole (closed_spelling edit)))

pub all_forest_edited-append : (xs ys : List ForestEdit) (s : List Server)
    → all_forest_edited (xs ++ ys) s ≡ all_forest_edited ys (all_forest_edited xs s)
all_forest_edited-append [] ys s = refl
all_forest_edited-append (x ∷ xs) ys s = all_forest_edited-append xs ys (forest_edited x s)

-- and what they stand for
pub stood-more : (base : List Server) (bytes : List ℕ) (edit : ForestEdit) → IsWhole bytes → FitsForestEdit edit
    → stood_from base (bytes ++ closed_spelling edit) ≡ forest_edited edit (stood_from base bytes)
stood-more base bytes edit whole fits =
    let last : edits_in (closed_spelling edit) ≡ edit ∷ [] =
    ap edits_in (sym (append-nil (closed_spelling edit))) ∙ edits_in-cons edit [] fits
    ∙ ap (λ es. edit ∷ es) edits_in-nil in
    ap (λ es. all_forest_edited es base) (whole (closed_spelling edit))
    ∙ all_forest_edited-append (edits_in bytes) (edits_in (closed_spelling edit)) base
    ∙ ap (λ es. all_forest_edited es (all_forest_edited (edits_in bytes) base)) last

-- a change in front of bytes is the first of theirs
edits_in-step : (edit : ForestEdit) (rest after : List ℕ) → closed_edit_at rest ≡ Some (edit, after)
    → length after < length rest → edits_in rest ≡ edit ∷ edits_in after
unfolding edits_in
edits_in-step edit rest after e shorter =
    enough (length rest) (suc (length rest)) rest (omega arith) (omega arith)
    ∙ ap (edits_after (edits_by (length rest)) rest) e
    ∙ rw (lt-ltb (length after) (length rest) shorter)
    (ap (λ es. edit ∷ es)
    (enough (length rest) (length after) after (omega arith) (omega arith)))

-- so it may be made first
pub stood-step : (edit : ForestEdit) (rest after : List ℕ) (s s' : List Server)
    → closed_edit_at rest ≡ Some (edit, after) → length after < length rest → s' ≡ forest_edited edit s
    → stood_from s' after ≡ stood_from s rest
stood-step edit rest after s s' e shorter made =
    ap (λ t. stood_from t after) made
    ∙ ap (λ es. all_forest_edited es s) (sym (edits_in-step edit rest after e shorter))

-- no bytes stand for no change
pub stood-nil : (bytes : List ℕ) (s : List Server) → length bytes ≡ 0 → stood_from s bytes ≡ s
stood-nil bytes s none =
    ap (stood_from s) (nil_from_length bytes none) ∙ ap (λ es. all_forest_edited es s) edits_in-nil

-- no bytes are whole
pub whole-nil : IsWhole []
whole-nil more = ap (λ es. es ++ edits_in more) (sym edits_in-nil)

-- what was read is whole, and what is left is behind it
pub record IsRead (bytes rest : List ℕ) : Type 0 where
  pub front : List ℕ
  pub whole : IsWhole front
  pub is : bytes ≡ front ++ rest
  pub fits : IsBytes rest

pub read-none : (bytes : List ℕ) → IsBytes bytes → IsRead bytes bytes
read-none bytes fits = record { front = []; whole = whole-nil; is = refl; fits = fits }

-- one change more was read
pub read-more : (bytes rest after : List ℕ) (edit : ForestEdit) → IsRead bytes rest
    → closed_edit_at rest ≡ Some (edit, after) → IsRead bytes after
read-more bytes rest after edit r e =
    let s = closed_edit-sound rest (edit, after) r.fits e in
    record {
      front = r.front ++ closed_spelling edit;
      whole = whole-more r.front edit r.whole s.1;
      is = r.is ∙ ap (λ (b : List ℕ). r.front ++ b) s.0 ∙ sym (append_assoc r.front (closed_spelling edit) after);
      fits = IsBytes-back (closed_spelling edit) after (subst IsBytes s.0 r.fits);
    }

-- where nothing is left all of it is whole
pub read-all : (bytes rest : List ℕ) → IsRead bytes rest → length rest ≡ 0 → IsWhole bytes
read-all bytes rest r none =
    subst IsWhole (sym (r.is ∙ ap (λ (b : List ℕ). r.front ++ b) (nil_from_length rest none) ∙ append-nil r.front)) r.whole
