-- The parts of a text that is cut at some ASCII characters.
use Rattle.std.proofs.Common.{◌≡◌, ℕ, ◌<◌, Bool, true, false, cond, List, [], ◌∷◌, ◌++◌, length}
use Rattle.std.proofs.Common.{take, drop, get_or, Option, Some, None, sym, ap, subst, ◌∙◌, arith}
use Rattle.std.proofs.Common.{⊎_elim, take-append-drop}
use Rattle.std.specs.Prelude.{MatchOption}
use Rattle.std.specs.List.{All, slice_split}
use Rattle.std.specs.Str.{NoCharPasses}
use Rattle.std.specs.Str.Iter.{split_steps, split_text, split_has_more, split_pattern}
use Rattle.std.specs.Str.Pattern.{FindsBy}
use Rattle.std.proofs.lemmas.Bool.{cases_Bool}
use Rattle.std.proofs.lemmas.Iterator.{YieldsList}
use Rattle.std.proofs.lemmas.Iterator.Splits.{YieldsList-from_shown_while}
use Rattle.std.proofs.lemmas.List.{get_or_default}
use Rattle.std.proofs.lemmas.List.Splits.{slice_split_none, slice_split_at}
use Rattle.std.proofs.lemmas.Str.{NoCharPasses-byte, len_utf8_bounds}
use Rattle.std.proofs.lemmas.Str.Pattern.{drop_at_char}

-- a test that only ASCII characters pass
module _ (test : ℕ → Bool) (ascii : (c : ℕ) → test c ≡ true → c < 128) where
  -- where no character passes, no byte does
  All-from_NoCharPasses : (bs : List ℕ) → NoCharPasses test bs → All (λ b. test b ≡ false) bs
  All-from_NoCharPasses bs none k d l = ⊎_elim
      (λ passes. let low : get_or bs k 0
      < 128 = ascii (get_or bs k 0) (ap test (get_or_default bs k 0 d l) ∙ passes) in
      ap test (get_or_default bs k d 0 l) ∙ NoCharPasses-byte test bs k none l low)
      (λ fails. fails)
      (cases_Bool (test (get_or bs k d)))

  -- the first part, and the parts of what is left
  slice_split-found : (w x rest : List ℕ) (live : Bool) (o : Option (ℕ × ℕ)) → FindsBy test w o →
      MatchOption o ((x ≡ w) × (live ≡ false))
      (λ q. 0 < q.1 → (x ≡ take q.0 w) × (live ≡ true) × (rest ≡ drop q.1 w)) →
      slice_split test w ≡ x ∷ cond live (slice_split test rest) []
  slice_split-found w x rest live None found cut =
      rw (cut.0, cut.1) (slice_split_none test w (All-from_NoCharPasses w found))
  slice_split-found w x rest live (Some q) found cut =
      let c = found.1.0 in
      let at = found.1.2 in
      let low : c < 128 = ascii c found.1.1 in
      let parts = cut (omega (arith, at.ends, (len_utf8_bounds c).0)) in
      let here : drop q.0 w ≡ c ∷ drop q.1 w = drop_at_char c w q.0 q.1 at low in
      rw (parts.0, parts.1, parts.2)
      (ap (slice_split test) (sym (take-append-drop q.0 w) ∙ ap (λ tail. take q.0 w ++ tail) here)
      ∙ slice_split_at test (take q.0 w) c (drop q.1 w) (All-from_NoCharPasses (take q.0 w) found.0)
      found.1.1)

  -- a text that is cut at each of some ASCII characters; the last three facts are the call's
  -- clauses `text` and `has_more`, and that the pattern is those characters
  pub YieldsList-from_split_by : {P : Type 0} (matches_by : P → (ℕ → Bool) → Type 0) {s : _}
      (bs : List ℕ) → split_text s ≡ bs → split_has_more s ≡ true
      → matches_by (split_pattern s) test →
      YieldsList
      (split_steps (λ p w o. (k : ℕ → Bool) → matches_by p k → FindsBy k w o)
      (λ p q. (k : ℕ → Bool) → matches_by p k → matches_by q k)) (λ x. x.now) s
      (slice_split test bs)
  YieldsList-from_split_by matches_by {s} bs text more pattern =
      let steps =
      split_steps (λ p w o. (k : ℕ → Bool) → matches_by p k → FindsBy k w o)
      (λ p q. (k : ℕ → Bool) → matches_by p k → matches_by q k) in
      let shown = λ (t : _). cond (split_has_more t) (slice_split test (split_text t)) [] in
      subst (YieldsList steps (λ x. x.now) s) (λ i. cond (more i) (slice_split test (text i)) [])
      (YieldsList-from_shown_while steps (λ x. x.now) shown (λ t. matches_by (split_pattern t) test)
      (λ t u h k. ap (λ b. length (cond b (slice_split test (split_text t)) [])) (sym k.0))
      (λ t x u h k.
      let cut = k.1.1.1 in (
        k.1.0 test h,
        ap (λ b. cond b (slice_split test (split_text t)) []) (sym k.0)
            ∙ slice_split-found (split_text t) x.now (split_text u) (split_has_more u) cut.0
            (cut.1 test h) cut.2,
      ))
      s pattern)
