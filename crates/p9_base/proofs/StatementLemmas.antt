-- The statements of the first lines of a text.
use Rattle.std.proofs.Common.{◌≡◌, ℕ, ◌+◌, ◌<◌, ◌≤◌, cond, Bool, Bor, List, [], ◌∷◌, ◌++◌, length}
use Rattle.std.proofs.Common.{take, get_or, map, sym, ap, ◌∙◌, arith}
use Rattle.std.specs.Prelude.{not, filter}
use Rattle.std.specs.List.{enumerate_from}
use Rattle.std.proofs.lemmas.List.{get_or-map, length-map, take_all}
use Rattle.std.proofs.lemmas.List.Elements.{filter_more}
use Rattle.std.proofs.lemmas.List.FromFn.{length-enumerate_from, get_or-enumerate_from}
use Rattle.p9_base.specs.Line.{lines_of, words_of, is_skipped}
use Rattle.p9_base.specs.Statement.{statements_of}

-- the statements of the first lines
abbrev pub statements_in : ℕ → List (List ℕ) → List (ℕ × List (List ℕ))
statements_in n lines =
    filter (λ line. not (is_skipped line.1)) (take n (enumerate_from 1 (map words_of lines)))

-- those of one line more
statements_in-add-one : (n : ℕ) (lines : List (List ℕ)) (line : List ℕ) → n < length lines
    → line ≡ get_or lines n line →
    statements_in (n + 1) lines ≡ statements_in n lines
    ++ cond (not (is_skipped (words_of line))) ((n + 1, words_of line) ∷ []) []
statements_in-add-one n lines line l at =
    let numbered = enumerate_from 1 (map words_of lines) in
    let short : n < length (map words_of lines) = omega (arith, length-map lines words_of) in
    let long : n < length numbered = omega (arith, length-enumerate_from 1 (map words_of lines)) in
    let here : get_or numbered n (n + 1, words_of line) ≡ (n + 1, words_of line) =
    get_or-enumerate_from 1 (map words_of lines) n (n + 1, words_of line) short
    ∙ ap (λ k. (k, get_or (map words_of lines) n (words_of line))) (omega arith)
    ∙ ap (λ words. (n + 1, words))
    (get_or-map words_of lines n line (words_of line) l ∙ ap words_of (sym at)) in
    filter_more (λ entry. not (is_skipped entry.1)) numbered n (n + 1, words_of line) long
    ∙ ap (λ entry. statements_in n lines ++ cond (not (is_skipped entry.1)) (entry ∷ []) []) here

-- what a loop over the lines has, once it has read one line more
pub statements_in-step : (n : ℕ) (d : Bor (List ℕ)) (items : List (Bor (List ℕ)))
    (lines words : List (List ℕ)) (before : List (ℕ × List (List ℕ))) →
    map (λ line. line.now) items ≡ lines → n < length items
    → words ≡ words_of (get_or items n d).now → before ≡ statements_in n lines →
    (skipped : Bool) → skipped ≡ is_skipped words →
    before ++ cond (not skipped) ((n + 1, words) ∷ []) [] ≡ statements_in (n + 1) lines
statements_in-step n d items lines words before same l read kept skipped test =
    let line = (get_or items n d).now in
    let short : n < length lines =
    omega (arith, ap length same, length-map items (λ (line : Bor (List ℕ)). line.now)) in
    let at : line ≡ get_or lines n line =
    sym (get_or-map (λ (line : Bor (List ℕ)). line.now) items n d line l)
    ∙ ap (λ lines. get_or lines n line) same in
    rw (test, kept, read) (sym (statements_in-add-one n lines line short at))

-- those of all lines
pub statements_in-all : (n : ℕ) (text : List ℕ) → length (lines_of text) ≤ n
    → statements_in n (lines_of text) ≡ statements_of text
unfolding statements_of
statements_in-all n text l =
    let numbered = enumerate_from 1 (map words_of (lines_of text)) in
    ap (filter (λ line. not (is_skipped line.1)))
    (take_all n numbered
    (omega (
      arith,
      length-enumerate_from 1 (map words_of (lines_of text)),
      length-map
          (lines_of text) words_of,
    )))
