-- The sections of an input, by reference.
use Rattle.std.proofs.Common.{◌≡◌, ℕ, ◌+◌, Bor, List, length, take, drop, map, Err, refl, sym, ap}
use Rattle.std.proofs.Common.{◌∙◌}
use Rattle.std.proofs.lemmas.Bool.{eq-eqb, ne_eqb}
use Rattle.std.proofs.lemmas.List.{length-map, take-map, drop-map}
use Rattle.p9_exchange.specs.Exchange.{exchange_in, exchange_of_lines}
use Rattle.p9_exchange.specs.Input.{lines_before, script_head, replies_head, head_lines}
use Rattle.p9_exchange.specs.Input.{script_lines}
use Rattle.p9_exchange.specs.declared.refusal.Refusal.TheVariants.{NoReplies}

-- what a reference points to
abbrev pub pointed : List (Bor (List ℕ)) → List (List ℕ)
pointed lines = map (λ line. line.now) lines

module _ (lines part : List (Bor (List ℕ))) where
  -- the lines up to the script's head
  pub front-is : part ≡ take (lines_before script_head (pointed lines) + 1) lines
      → pointed part ≡ head_lines (pointed lines)
  unfolding head_lines
  front-is is =
      ap pointed is
      ∙ sym (take-map (λ (line : Bor (List ℕ)). line.now)
      (lines_before script_head (pointed lines) + 1) lines)

  -- and those after it
  pub back-is : part ≡ drop (lines_before script_head (pointed lines) + 1) lines
      → pointed part ≡ script_lines (pointed lines)
  unfolding script_lines
  back-is is =
      ap pointed is
      ∙ sym (drop-map (λ (line : Bor (List ℕ)). line.now)
      (lines_before script_head (pointed lines) + 1) lines)

-- an input has no replies
pub no-replies : (lines : List (Bor (List ℕ))) (n : ℕ)
    → n ≡ lines_before replies_head (pointed lines)
    → n ≡ length lines → exchange_in (pointed lines) ≡ Err NoReplies
unfolding exchange_in
no-replies lines n is all =
    rw (eq-eqb (lines_before replies_head (pointed lines)) (length (pointed lines))
    (sym is ∙ all ∙ sym (length-map lines (λ (line : Bor (List ℕ)). line.now)))) refl

-- an input has them
pub with-replies : (lines before script replies : List (Bor (List ℕ))) (n : ℕ)
    → n ≡ lines_before replies_head (pointed lines) → (n ≡ length lines → ⊥)
    → before ≡ take n lines
    → replies ≡ drop (lines_before replies_head (pointed lines) + 1) lines
    → script ≡ drop (lines_before script_head (pointed before) + 1) before
    → exchange_of_lines (pointed replies) (pointed script) ≡ exchange_in (pointed lines)
unfolding exchange_in
with-replies lines before script replies n is others front back followed_by =
    let now = λ (line : Bor (List ℕ)). line.now in
    let m = lines_before replies_head (pointed lines) in
    let printed : pointed replies ≡ drop (m + 1) (pointed lines) =
    ap pointed back ∙ sym (drop-map now (m + 1) lines) in
    let head : pointed before ≡ take m (pointed lines) =
    ap pointed front ∙ sym (take-map now n lines) ∙ ap (λ k. take k (pointed lines)) is in
    let asked : pointed script ≡ script_lines (take m (pointed lines)) =
    back-is before script followed_by ∙ ap script_lines head in
    rw (ne_eqb m (length (pointed lines)) (λ all. others (is ∙ all ∙ length-map lines now)))
    (ap (λ xs. exchange_of_lines xs (pointed script)) printed
    ∙ ap (exchange_of_lines (drop (m + 1) (pointed lines))) asked)
