-- What a restricted stream gives, from the first piece on.
use Rattle.std.proofs.Common.{ℕ, List, [], ◌∷◌, Option, ap, append-nil, subst, sym, ◌∙◌}
use Rattle.std.specs.List.{concat}
use Rattle.p9_restricted.specs.Laws.{PiecesAreMasked}
use Rattle.p9_restricted.specs.Masked.{masked}
use Rattle.p9_restricted.specs.Stream.{Gave, GaveEach, Over, new_over, to_give}
use Rattle.p9_restricted.proofs.Holdings.{gave-then, gave_none}

-- several pieces are given as one
pub each-joined : {S : Type 0} (remaining : S → Option (List ℕ)) (pieces : List (List ℕ))
    (old new : Over S) → GaveEach remaining pieces old new
    → Gave remaining old new (concat pieces)
each-joined remaining [] old new same =
    subst (λ (o : Over _). Gave remaining old o []) (sym same) (gave_none remaining old)
each-joined remaining (bytes ∷ pieces) old new each =
    gave-then remaining old each.0 new bytes (concat pieces) each.1
    (each-joined remaining pieces each.0 new each.2)

pub pieces-are-masked : (S : Type 0) → PiecesAreMasked S
pieces-are-masked S remaining users stream pieces new each =
    let its = each-joined remaining pieces (new_over stream users) new each in
    record {
      came = its.came;
      left = to_give new.gate new.held [];
      consumed = its.consumed;
      front = sym (its.front []) ∙ ap (masked users) (append-nil its.came);
    }
