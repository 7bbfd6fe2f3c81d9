use Rattle.std.proofs.Common.{◌≡◌, ℕ, ◌+◌, ◌<◌, true, false, List, [], ◌∷◌, ◌++◌, length, get_or, drop}
use Rattle.std.proofs.Common.{Result, refl, sym, ap, ◌∙◌}
use Rattle.std.proofs.lemmas.Bool.{ne_eqb}
use Rattle.std.proofs.lemmas.List.{drop_more}
use Rattle.p9_words.specs.Reading.{unquoted_from}
use Rattle.p9_words.specs.declared.error.Fault.{Fault}
use Rattle.p9_words.proofs.word.take_quoted.Goals as goal
use Rattle.p9_words.proofs.word.take_quoted.Goals.{then-not-quote+then-byte-eq39}
use Rattle.p9_words.proofs.word.take_quoted.Goals.{else-not-quote+in_ok-push}
use Rattle.p9_words.proofs.word.take_quoted.Goals.{else-not-quote-via-then-not-quote+else-byte-eq39}
use Rattle.p9_words.proofs.word.take_quoted.Goals.{else-not-quote-via-else-not-quote}
use Rattle.p9_words.proofs.word.take_quoted.Goals.{else-quote-via-then-quote+else-byte-ne39}
use Rattle.p9_words.proofs.word.take_quoted.Goals.{else-quote-via-else-quote}

-- a quote at an index, and the bytes behind it
quote-here : (text : List ℕ) (i : ℕ) → i < length text → get_or text i 0 ≡ 39
    → drop i text ≡ 39 ∷ drop (i + 1) text
quote-here text i lt is = drop_more text i 0 lt ∙ ap (λ b. b ∷ drop (i + 1) text) is

-- a quote is read
one_quote : (bytes text : List ℕ) (i : ℕ) (total : Result (List ℕ × List ℕ) Fault)
    → i < length text → get_or text i 0 ≡ 39 → unquoted_from false bytes (drop i text) ≡ total
    → unquoted_from true bytes (drop (i + 1) text) ≡ total
one_quote bytes text i total lt is so_far =
    sym (ap (unquoted_from false bytes) (quote-here text i lt is)) ∙ so_far

-- and another behind it
two_quotes : (bytes text : List ℕ) (i : ℕ) (total : Result (List ℕ × List ℕ) Fault)
    → i < length text → get_or text i 0 ≡ 39 → unquoted_from true bytes (drop i text) ≡ total
    → unquoted_from false (bytes ++ get_or text i 0 ∷ []) (drop (i + 1) text) ≡ total
two_quotes bytes text i total lt is so_far =
    ap (λ b. unquoted_from false (bytes ++ b ∷ []) (drop (i + 1) text)) is
    ∙ sym (ap (unquoted_from true bytes) (quote-here text i lt is)) ∙ so_far

-- any other byte is read
no_quote : (bytes text : List ℕ) (i : ℕ) (total : Result (List ℕ × List ℕ) Fault)
    → i < length text → (get_or text i 0 ≡ 39 → ⊥)
    → unquoted_from false bytes (drop i text) ≡ total
    → unquoted_from false (bytes ++ get_or text i 0 ∷ []) (drop (i + 1) text) ≡ total
no_quote bytes text i total lt other so_far =
    let b = get_or text i 0 in
    let one : unquoted_from false bytes (b ∷ drop (i + 1) text)
    ≡ unquoted_from false (bytes ++ b ∷ []) (drop (i + 1) text) = rw (ne_eqb b 39 other) refl in
    sym one ∙ sym (ap (unquoted_from false bytes) (drop_more text i 0 lt)) ∙ so_far

pub loop-i-preserved : goal.loop-i-preserved
loop-i-preserved g c =
    let bytes = c.loop-i.bytes.items in
    let text = c.args.text.now in
    let i = c.loop-i.i in
    let lt = c.loop-i-test.true in
    elim c.if-not-quote.branch [
      | then-not-quote+then-byte-eq39 w ↦
          rw (w.quote-is, w.bytes-is)
          (one_quote bytes text i _ lt w.if-byte-eq39.true
          (rw w.if-not-quote.true at c.loop-i.invariant))
      | else-not-quote+in_ok-push w ↦
          rw (w.quote-is, w.bytes-is, w.in_ok-push.ensures.items)
          (elim w.else-not-quote.branch [
            | else-not-quote-via-then-not-quote+else-byte-eq39 w' ↦
                no_quote bytes text i _ lt w'.if-byte-eq39.false
                (rw w'.if-not-quote.true at c.loop-i.invariant)
            | else-not-quote-via-else-not-quote w' ↦
                elim c.else-quote.branch [
                  | else-quote-via-then-quote+else-byte-ne39 v ↦
                      two_quotes bytes text i _ lt v.if-byte-ne39.false
                      (rw v.if-quote.true at c.loop-i.invariant)
                  | else-quote-via-else-quote v ↦
                      absurd (let p = w'.if-not-quote.false in let q = v.if-quote.false in cc)
                ]
          ])
    ]
