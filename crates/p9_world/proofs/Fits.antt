-- Texts that a world can have.
use Rattle.std.proofs.Common.{◌≡◌, ℕ, List, Option, Some, None, Result, Ok, Err, refl, sym, ◌∙◌}
use Rattle.std.specs.Prelude.{IsOk, MatchResult, codes}
use Rattle.p9_base.proofs.Texts.{is_text-ascii}
use Rattle.p9_world.specs.declared.unfit.Unfit.{Unfit}
use Rattle.p9_world.specs.Unfit.{unfit_user}

-- what is tested is there where nothing is against it
pub IsOk-fit : (r : Result (List ℕ) Unfit) (text : List ℕ) (reason : Option Unfit) → reason ≡ None
    → MatchResult r (λ user. (user ≡ text) × (reason ≡ None)) (λ unfit. reason ≡ Some unfit)
    → IsOk r
IsOk-fit (Ok user) text reason none made = refl
IsOk-fit (Err unfit) text reason none made =
    let no : None ≡ Some unfit = sym none ∙ made in absurd (cc)

pub sys-fit : unfit_user (codes "sys") ≡ None
sys-fit = rw (is_text-ascii (codes "sys") refl refl) refl
