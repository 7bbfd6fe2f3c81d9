-- One numbered line more.
use Rattle.std.proofs.Common.{◌≡◌, ℕ, ◌+◌, ◌<◌, ◌≤◌, Bor, List, [], ◌∷◌, length, get_or, drop, map}
use Rattle.std.proofs.Common.{Result, Ok, refl, sym, ap, ◌∙◌, arith}
use Rattle.std.specs.List.{enumerate_from}
use Rattle.std.proofs.lemmas.List.FromFn.{length-enumerate_from, get_or-enumerate_from}
use Rattle.p9_base.specs.Results.{and_then, try_fold}
use Rattle.p9_base.proofs.Results.{try_fold-ok, try_fold-err, try_fold-end}
use Rattle.p9_exchange.specs.Refusal.{IsStop}
use Rattle.p9_exchange.specs.declared.refusal.Refusal.{Refusal}
use Rattle.p9_base.specs.declared.stop.Stop.{Stop}
use Rattle.p9_base.specs.declared.stop.Stop.TheVariants.{Refused, NoMemory}

-- what a numbered reference points to, with its number
abbrev pub numbered_line : ℕ × Bor (List ℕ) → ℕ × List ℕ
numbered_line numbered = (numbered.0, numbered.1.now)

-- the numbers are the same for references and for what they point to
map-enumerate_from : (n : ℕ) (items : List (Bor (List ℕ)))
    → map numbered_line (enumerate_from n items) ≡ enumerate_from n (map (λ line. line.now) items)
map-enumerate_from n [] = refl
map-enumerate_from n (x ∷ xs) = ap (λ rest. (n, x.now) ∷ rest) (map-enumerate_from (n + 1) xs)

module _ {S : Type 0} (step : S → ℕ × List ℕ → Result S Refusal) (items : List (Bor (List ℕ)))
    (state : S) (i : ℕ) where
  -- the lines, each with its number
  abbrev lines : List (ℕ × List ℕ)
  lines = enumerate_from 1 (map (λ line. line.now) items)

  -- the line at a position has the number after it
  numbered_at : (d : Bor (List ℕ)) → i < length items
      → (i + 1, get_or items i d) ≡ get_or (enumerate_from 1 items) i (0, d)
  numbered_at d l =
      ap (λ k. (k, get_or items i d)) (omega arith) ∙ sym (get_or-enumerate_from 1 items i (0, d) l)

  -- numbered lines are as many
  numbered_below : i < length items → i < length (enumerate_from 1 items)
  numbered_below l = omega (arith, length-enumerate_from 1 items)

  -- a line that is taken
  pub line-taken : (d : Bor (List ℕ)) (after : S) (all : Result S Refusal) → i < length items
      → step state (i + 1, (get_or items i d).now) ≡ Ok after
      → try_fold step state (drop i lines) ≡ all → try_fold step after (drop (i + 1) lines) ≡ all
  line-taken d after all l taken kept =
      try_fold-ok step numbered_line (enumerate_from 1 items) lines (map-enumerate_from 1 items)
      state i after (i + 1, get_or items i d) (0, d) (numbered_below l) (numbered_at d l) taken
      ∙ kept

  -- a line that stops
  pub line-stops : {T : Type 0} (rest : S → Result T Refusal) (stop : Stop Refusal) (d : Bor (List ℕ))
      (all : Result S Refusal) → i < length items
      → IsStop (step state (i + 1, (get_or items i d).now)) stop
      → try_fold step state (drop i lines) ≡ all → IsStop (and_then all rest) stop
  line-stops rest NoMemory d all l stops kept = tt
  line-stops rest (Refused refusal) d all l stops kept =
      ap (λ all. and_then all rest)
      (sym kept
      ∙ try_fold-err step numbered_line (enumerate_from 1 items) lines
      (map-enumerate_from 1 items) state i refusal (i + 1, get_or items i d) (0, d)
      (numbered_below l) (numbered_at d l) stops)

  -- after the last line
  pub lines-end : (all : Result S Refusal) → length items ≤ i
      → try_fold step state (drop i lines) ≡ all → all ≡ Ok state
  lines-end all l kept =
      sym kept
      ∙ try_fold-end step numbered_line (enumerate_from 1 items) lines (map-enumerate_from 1 items)
      state i (omega (arith, length-enumerate_from 1 items))
