-- Lists that are read through a view, as the words of a line are.
use Rattle.std.proofs.Common.{◌≡◌, ℕ, ◌-◌, List, []}
use Rattle.std.proofs.Common.{Option, Some, None, Result, Ok, Err, Bor, subst, map, length}
use Rattle.std.proofs.Common.{take, drop, sym, ap, ◌∙◌, arith}
use Rattle.std.proofs.Common.{length-drop, find, string_bytes}
use Rattle.std.proofs.lemmas.List.{take-map, drop-map, take_all}
use Rattle.std.specs.Option.{option_map, option_map_or}
use Rattle.std.specs.Result.{IfErr, IsErrAnd}
use Rattle.std.specs.List.{prefix_len}
use Rattle.std.specs.Str.{bytes_eq}
use Rattle.std.specs.declared.string.String.{String}
use Rattle.p9_base.specs.Variable.{variables_of}
use Rattle.p9_base.proofs.Views.{find-map}
use Rattle.p9_nsline.specs.declared.flags.Flags.{Flags}
use Rattle.p9_nsline.specs.Flags.{Word, flags_of, is_flag}
use Rattle.p9_nsline.specs.Operation.{Form, behind_flags, leading_flags}
use Rattle.p9_nsline.specs.Variable.{value_of}

-- the value of a variable, from the texts of the code
pub value_of-texts : {A : Type 0} (vars : List (String A × String A)) (name : List ℕ)
    (found : Option (String A × String A)) →
    found ≡ find (λ var. bytes_eq (string_bytes var.0) name) vars →
    option_map_or (λ var. string_bytes var.1) found [] ≡ value_of (variables_of vars) name
value_of-texts vars name None e =
    ap (λ o. option_map_or (λ var. var.1) o [])
    (ap (option_map (λ var. (string_bytes var.0, string_bytes var.1))) e
    ∙ find-map (λ var. (string_bytes var.0, string_bytes var.1)) (λ var. bytes_eq var.0 name) vars)
value_of-texts vars name (Some var) e =
    ap (λ o. option_map_or (λ var. var.1) o [])
    (ap (option_map (λ var. (string_bytes var.0, string_bytes var.1))) e
    ∙ find-map (λ var. (string_bytes var.0, string_bytes var.1)) (λ var. bytes_eq var.0 name) vars)

-- the bytes of some words
abbrev pub texts : List (Bor (List ℕ)) → List (List ℕ)
texts words = map (λ w. w.now) words

-- a form of the flags in front and the words after them, from the code's slices
pub flagged_form : (form : Option Flags → List Word → Form) (words : List (Bor (List ℕ))) (n : ℕ)
    (said : Option Flags) (result : Form) →
    n ≡ prefix_len is_flag (texts words) → said ≡ flags_of (texts (take n words)) →
    result ≡ form said (texts (take (length words - n) (drop n words))) →
    result ≡ form (flags_of (leading_flags (texts words))) (behind_flags (texts words))
flagged_form form words n said result count flags is =
    let front : texts (take n words) ≡ leading_flags (texts words) =
    sym (take-map (λ w. w.now) n words) ∙ ap (λ k. take k (texts words)) count in
    let behind : texts (take (length words - n) (drop n words)) ≡ behind_flags (texts words) =
    ap texts (take_all (length words - n) (drop n words) (omega (arith, length-drop n words)))
    ∙ sym (drop-map (λ w. w.now) n words) ∙ ap (λ k. drop k (texts words)) count in
    is
    ∙ ap (λ s. form s (texts (take (length words - n) (drop n words))))
    (flags ∙ ap flags_of front) ∙ ap (form (flags_of (leading_flags (texts words)))) behind

-- what holds of the only error there is
pub IfErr-same : {T E : Type 0} (r : Result T E) (x : E) (P : E → Type 0) → IsErrAnd r (λ e. e ≡ x)
    → P x → IfErr r P
IfErr-same (Ok value) x P is holds = tt
IfErr-same (Err e) x P is holds = subst P (sym is) holds
