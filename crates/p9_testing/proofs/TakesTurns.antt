-- Turns, one after another.
use Rattle.std.proofs.Common.{◌≡◌, ℕ, ◌+◌, ◌++◌, [], ◌∷◌, ap, ◌∙◌}
use Rattle.std.proofs.lemmas.Fn.{FoldsTo-push}
use Rattle.std.proofs.lemmas.List.{length-append}
use Rattle.p9_testing.specs.Turns.{TakesTurns}

module _ {M R V : Type 0} (Makes : M → V → M → Type 0) (Runs : R → V → Unit {0} → R → Type 0) where
  -- One more turn.
  pub TakesTurns-next : (make made : M) (run ran : R) (n m : ℕ) (value : V) (made' : M) (ran' : R)
      → TakesTurns Makes Runs make made run ran n → Makes made value made'
      → Runs ran value tt ran' → n + 1 ≡ m
      → TakesTurns Makes Runs make made' run ran' m
  TakesTurns-next make made run ran n m value made' ran' turns makes runs next = record {
    values = turns.values ++ value ∷ [];
    makes = FoldsTo-push Makes make turns.values made value made' turns.makes makes;
    runs = FoldsTo-push (λ p x q. Runs p x tt q) run turns.values ran value ran' turns.runs runs;
    count = length-append turns.values (value ∷ []) ∙ ap (λ k. k + 1) turns.count ∙ next;
  }
