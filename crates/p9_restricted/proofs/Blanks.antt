-- Blanks in the place of a name.
use Rattle.std.proofs.Common.{◌≡◌, ℕ, zero, suc, ◌+◌, ◌-◌, ◌≤◌, List, ◌++◌, length, take, drop}
use Rattle.std.proofs.Common.{replicate, ap, sym, ◌∙◌, arith}
use Rattle.std.proofs.lemmas.List.{append-nil, append_assoc, length-append, length-drop}
use Rattle.std.proofs.lemmas.List.{length-take, length-replicate, take-append-drop, take-append-le}
use Rattle.std.proofs.lemmas.List.{drop-append-le, drop-drop}
use borrow.Rule.Slice.PartMut.{mid_of, put_mid}
use Rattle.p9_restricted.specs.Front.{IsWithin, blanked, name_at}

-- no blank changes nothing
pub blanked-none : (bytes : List ℕ) → blanked 0 bytes ≡ bytes
blanked-none bytes =
    ap (λ front. front ++ drop name_at bytes) (append-nil (take name_at bytes))
    ∙ take-append-drop name_at bytes

pub length-blanked : (mask : ℕ) (bytes : List ℕ) → IsWithin mask (length bytes)
    → length (blanked mask bytes) ≡ length bytes
length-blanked zero bytes within = ap length (blanked-none bytes)
length-blanked (suc n) bytes within =
    let held : name_at + suc n ≤ length bytes = within (omega arith) in
    let start = take name_at bytes in
    let blanks : List ℕ = replicate (suc n) 32 in
    let end = drop (name_at + suc n) bytes in
    omega (
      arith,
      length-append (start ++ blanks) end,
      length-append start blanks,
      length-take name_at bytes,
      length-replicate {A = ℕ} (suc n) 32,
      length-drop (name_at + suc n) bytes,
    )

-- bytes behind those that hold the name stay as they are
pub blanked-append : (mask : ℕ) (bytes more : List ℕ) → IsWithin mask (length bytes)
    → blanked mask (bytes ++ more) ≡ blanked mask bytes ++ more
blanked-append zero bytes more within =
    blanked-none (bytes ++ more) ∙ ap (λ all. all ++ more) (sym (blanked-none bytes))
blanked-append (suc n) bytes more within =
    let held : name_at + suc n ≤ length bytes = within (omega arith) in
    let before : take name_at (bytes ++ more) ≡ take name_at bytes =
    take-append-le name_at bytes more (omega arith) in
    let behind : drop (name_at + suc n) (bytes ++ more) ≡ drop (name_at + suc n) bytes ++ more =
    drop-append-le (name_at + suc n) bytes more held in
    ap (λ front. front ++ replicate (suc n) 32 ++ drop (name_at + suc n) (bytes ++ more)) before
    ∙ ap (λ end. take name_at bytes ++ replicate (suc n) 32 ++ end) behind
    ∙ sym (append_assoc (take name_at bytes ++ replicate (suc n) 32) (drop (name_at + suc n) bytes)
    more)

-- what a program writes
pub put_blanks : (mask : ℕ) (bytes blanks : List ℕ) → blanks ≡ replicate mask 32
    → put_mid name_at (name_at + mask - name_at) bytes blanks ≡ blanked mask bytes
put_blanks mask bytes blanks e =
    let count : name_at + mask - name_at ≡ mask = omega arith in
    ap (λ n. take name_at bytes ++ (blanks ++ drop n (drop name_at bytes))) count
    ∙ ap (λ end. take name_at bytes ++ (blanks ++ end)) (drop-drop mask name_at bytes)
    ∙ ap (λ middle. take name_at bytes ++ (middle ++ drop (name_at + mask) bytes)) e
    ∙ sym (append_assoc (take name_at bytes) (replicate mask 32) (drop (name_at + mask) bytes))

-- how many bytes it writes
pub length-written : (mask : ℕ) (bytes : List ℕ) → name_at + mask ≤ length bytes
    → length (mid_of name_at (name_at + mask - name_at) bytes) ≡ mask
length-written mask bytes held =
    omega (
      arith,
      length-take (name_at + mask - name_at) (drop name_at bytes),
      length-drop name_at bytes,
    )
