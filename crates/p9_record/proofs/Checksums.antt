-- Closed records are read as they are spelled.
use Rattle.std.proofs.Common.{◌≡◌, ◌≢◌, ℕ, ◌+◌, ◌-◌, ◌≤◌, ◌<◌, Fits, w8, Bool, false, cond, List, []}
use Rattle.std.proofs.Common.{◌++◌, length, take, drop, get_or, Option, Some, None, refl, sym, ap, subst}
use Rattle.std.proofs.Common.{◌∙◌, append_assoc, arith}
use Rattle.std.specs.Str.{bytes_eq}
use Rattle.std.proofs.lemmas.Bool.{false_from_ne_true, le-ltb}
use Rattle.std.proofs.lemmas.List.{drop_at, drop-take, length-append, length-drop, length-take-le, take_at}
use Rattle.std.proofs.lemmas.List.{take-append-drop}
use Rattle.std.proofs.lemmas.List.Elements.{All-from_get_or}
use Rattle.std.proofs.lemmas.Option.{cond_some, same_Some}
use Rattle.std.proofs.lemmas.Slice.Eq.{bytes_eq-Decides}
use Rattle.std.specs.Hash.FoldHasher as folding
use Rattle.byteorder.specs.Numbers.{length-bytes_low_first}
use Rattle.p9_tree.specs.ForestEdit.{ForestEdit}
use Rattle.p9_wire.specs.FieldReading.{◌and_then◌, bytes_at}
use Rattle.p9_wire.specs.Frame.{IsBytes}
use Rattle.p9_wire.specs.Writing.{Puts}
use Rattle.p9_wire.proofs.Bytes.{IsBytes-front}
use Rattle.p9_wire.proofs.Codes.{bind_some, bytes-sound, bytes-complete}
use Rattle.p9_record.specs.Closed.{checksum, closed_edit_at, closed_spelling}
use Rattle.p9_record.specs.Record.{FitsForestEdit, forest_spelling}
use Rattle.p9_record.specs.RecordReading.{forest_edit_at}
use Rattle.p9_record.proofs.ReadBack.{forest_edit-complete, forest_edit-sound}

-- each value of a slice is a byte
pub all_bytes : (bytes : List ℕ) → ((i : ℕ) → Fits w8 (get_or bytes i 0)) → IsBytes bytes
all_bytes bytes each = All-from_get_or (λ b. b < 256) bytes 0 (λ i lt. omega (arith, each i))

-- a checksum is eight bytes
pub length-checksum : (bytes : List ℕ) → length (checksum bytes) ≡ 8
unfolding checksum
length-checksum bytes = length-bytes_low_first 0 8 (folding.finish (folding.write folding.initial bytes))

-- what was put is between its two indices
pub put_between : (bytes old new : List ℕ) (at next : ℕ) → at ≤ length old → Puts bytes at next old new
    → take (next - at) (drop at new) ≡ bytes
put_between bytes old new at next room p =
    let on : at + (next - at) ≡ next = omega (arith, p.ends) in
    sym (drop-take at (next - at) new) ∙ ap (λ n. drop at (take n new)) on ∙ ap (drop at) p.front
    ∙ drop_at (take at old) bytes at (length-take-le at old room)

-- a change that was read is spelled in front of what is behind it
pub read_front : (bytes : List ℕ) (edit : ForestEdit) (rest : List ℕ) → IsBytes bytes
    → forest_edit_at bytes ≡ Some (edit, rest)
    → (length rest ≤ length bytes) × (take (length bytes - length rest) bytes ≡ forest_spelling edit)
read_front bytes edit rest fits e =
    let s = (forest_edit-sound bytes (edit, rest) fits e).0 in
    let long : length bytes ≡ length (forest_spelling edit) + length rest =
    ap length s ∙ length-append (forest_spelling edit) rest in (
      omega (arith, long),
      ap (take (length bytes - length rest)) s
          ∙ take_at (forest_spelling edit) rest (length bytes - length rest) (omega (arith, long)),
    )

-- the next eight bytes tell whether it is closed
pub closed_if : (bytes : List ℕ) (edit : ForestEdit) (rest front sum : List ℕ) (same : Bool)
    → IsBytes bytes → forest_edit_at bytes ≡ Some (edit, rest) → 8 ≤ length rest → front ≡ take 8 rest
    → sum ≡ checksum (take (length bytes - length rest) bytes) → bytes_eq front sum ≡ same
    → closed_edit_at bytes ≡ cond same (Some (edit, drop 8 rest)) None
unfolding closed_edit_at
closed_if bytes edit rest front sum same fits e long there computed is =
    let right : sum ≡ checksum (forest_spelling edit) =
    computed ∙ ap checksum (read_front bytes edit rest fits e).1 in
    let tested : bytes_eq (take 8 rest) (checksum (forest_spelling edit)) ≡ same =
    ap (λ f. bytes_eq f (checksum (forest_spelling edit))) (sym there)
    ∙ ap (bytes_eq front) (sym right) ∙ is in
    rw (e, le-ltb _ _ long, tested) refl

-- a closed record that is spelled is read
pub closed_edit-complete : (edit : ForestEdit) (rest : List ℕ) → FitsForestEdit edit
    → closed_edit_at (closed_spelling edit ++ rest) ≡ Some (edit, rest)
unfolding closed_spelling closed_edit_at
closed_edit-complete edit rest fits =
    let spelled : List ℕ = forest_spelling edit in
    let sum : List ℕ = checksum spelled in
    let first : forest_edit_at ((spelled ++ sum) ++ rest) ≡ Some (edit, sum ++ rest) =
    ap forest_edit_at (append_assoc spelled sum rest) ∙ forest_edit-complete edit (sum ++ rest) fits in
    let second : bytes_at 8 (sum ++ rest) ≡ Some (sum, rest) =
    subst (λ n. bytes_at n (sum ++ rest) ≡ Some (sum, rest)) (length-checksum spelled) (bytes-complete sum rest) in
    rw (first, second, (bytes_eq-Decides sum sum).1 refl) refl

-- and one that was read was spelled so
pub closed_edit-sound : (bytes : List ℕ) (x : ForestEdit × List ℕ) → IsBytes bytes
    → closed_edit_at bytes ≡ Some x → (bytes ≡ closed_spelling x.0 ++ x.1) × FitsForestEdit x.0
unfolding closed_spelling closed_edit_at
closed_edit-sound bytes x fits e =
    let a =
    bind_some (forest_edit_at bytes)
    (λ a. bytes_at 8 a.1 and_then λ sum.
    cond (bytes_eq sum.0 (checksum (forest_spelling a.0))) (Some (a.0, sum.1)) None) x e in
    let spelled : List ℕ = forest_spelling a.0.0 in
    let b =
    bind_some (bytes_at 8 a.0.1)
    (λ sum. cond (bytes_eq sum.0 (checksum spelled)) (Some (a.0.0, sum.1)) None) x a.2 in
    let g = cond_some (bytes_eq b.0.0 (checksum spelled)) (a.0.0, b.0.1) x b.2 in
    let s = forest_edit-sound bytes a.0 fits a.1 in
    let t = bytes-sound 8 a.0.1 b.0 b.1 in
    let same : b.0.0 ≡ checksum spelled = (bytes_eq-Decides b.0.0 (checksum spelled)).0 g.0 in
    let parts : bytes ≡ closed_spelling a.0.0 ++ b.0.1 =
    s.0 ∙ ap (λ (back : List ℕ). spelled ++ back) (t.0 ∙ ap (λ (sum : List ℕ). sum ++ b.0.1) same)
    ∙ sym (append_assoc spelled (checksum spelled) b.0.1) in
    subst (λ (y : ForestEdit × List ℕ). (bytes ≡ closed_spelling y.0 ++ y.1) × FitsForestEdit y.0) g.1
    (parts, s.1)

-- a closed record that is cut short is none
pub closed-cut : (bytes : List ℕ) (edit : ForestEdit) (n : ℕ) → IsBytes bytes
    → closed_edit_at bytes ≡ Some (edit, []) → n < length bytes → closed_edit_at (take n bytes) ≡ None
closed-cut bytes edit n fits e short = go (closed_edit_at (take n bytes)) refl
  where
    go : (r : Option (ForestEdit × List ℕ)) → closed_edit_at (take n bytes) ≡ r
        → closed_edit_at (take n bytes) ≡ None
    go None is = is
    go (Some x) is =
        let parts : take n bytes ++ drop n bytes ≡ bytes = take-append-drop n bytes in
        let front : IsBytes (take n bytes) =
        IsBytes-front (take n bytes) (drop n bytes) (subst IsBytes (sym parts) fits) in
        let s = closed_edit-sound (take n bytes) x front is in
        let whole : closed_spelling x.0 ++ (x.1 ++ drop n bytes) ≡ bytes =
        sym (append_assoc (closed_spelling x.0) x.1 (drop n bytes))
        ∙ ap (λ (b : List ℕ). b ++ drop n bytes) (sym s.0) ∙ parts in
        let left : x.1 ++ drop n bytes ≡ [] =
        ap (λ (y : ForestEdit × List ℕ). y.1)
        (same_Some (x.0, x.1 ++ drop n bytes) (edit, [])
        (sym (closed_edit-complete x.0 (x.1 ++ drop n bytes) s.1) ∙ ap closed_edit_at whole ∙ e)) in
        let none : length x.1 + length (drop n bytes) ≡ 0 =
        sym (length-append x.1 (drop n bytes)) ∙ ap length left in
        absurd (omega (arith, none, length-drop n bytes))

-- and one with another checksum
pub closed-other : (edit : ForestEdit) (sum rest : List ℕ) → FitsForestEdit edit → length sum ≡ 8
    → sum ≢ checksum (forest_spelling edit)
    → closed_edit_at (forest_spelling edit ++ (sum ++ rest)) ≡ None
unfolding closed_edit_at
closed-other edit sum rest fits long other =
    let second : bytes_at 8 (sum ++ rest) ≡ Some (sum, rest) =
    subst (λ n. bytes_at n (sum ++ rest) ≡ Some (sum, rest)) long (bytes-complete sum rest) in
    let differs : bytes_eq sum (checksum (forest_spelling edit)) ≡ false =
    false_from_ne_true _ (λ t. other ((bytes_eq-Decides sum (checksum (forest_spelling edit))).0 t)) in
    rw (forest_edit-complete edit (sum ++ rest) fits, second, differs) refl
