-- An input that is refused, in words.
use Rattle.std.proofs.Common.{ℕ, IfOk, List, Result, Ok, Err, subst, sym}
use Rattle.p9_base.specs.declared.stop.Stop.{Stop}
use Rattle.p9_base.specs.declared.stop.Stop.TheVariants.{Refused, NoMemory}
use Rattle.p9_prepared.specs.Prepared.{IsPrepareErrorBy, Prepared, Rejected}
use Rattle.p9_prepared.specs.declared.refusal.Refusal.{Refusal}
use Rattle.p9_nsline.specs.Space.{Report}
use Rattle.p9_explain.specs.Explained.{IsExplained, IsRefusalTold}

pub refusal-explained : {E : Type 0} (asked : Result Prepared Rejected) (reports : List Report)
    (stop : Stop Refusal) (before after : List ℕ) → IsPrepareErrorBy asked reports stop
    → (result : Result ℕ E) → IfOk result (λ status. IsRefusalTold stop status before after)
    → IfOk result (λ status. IsExplained asked status before after)
refusal-explained asked reports (Refused refusal) before after is result told =
    subst (λ a. IfOk result (λ status. IsExplained a status before after)) (sym is) told
refusal-explained asked reports NoMemory before after is (Ok status) told = absurd told
refusal-explained asked reports NoMemory before after is (Err error) told = told
