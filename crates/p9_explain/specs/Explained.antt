-- What is said of an input. It says yes only where `check` may say yes, and no only where `check` may
-- say no; no input has both.
use Rattle.std.specs.Prelude.{◌≡◌, ◌⊎◌, ℕ, List, [], ◌++◌, Option, Some, None, Result, Ok, Err, codes}
use Rattle.p9_base.specs.declared.stop.Stop.{Stop}
use Rattle.p9_base.specs.declared.stop.Stop.TheVariants.{Refused, NoMemory}
use Rattle.p9_prepared.specs.declared.refusal.Refusal.{Refusal}
use Rattle.p9_commands.specs.Judgement.{SaysNo, SaysYes}
use Rattle.p9_cert.specs.declared.gap.Gap.{Gap}
use Rattle.p9_prepared.specs.Prepared.{Prepared, Rejected, gap_in}
use Rattle.p9_prepared.specs.Refusal.{refusal_line}
use Rattle.p9_explain.specs.Certificate.{IsCertificateTold}
use Rattle.p9_explain.specs.Change.{IsReachTold}
use Rattle.p9_explain.specs.Claim.{claim_text}
use Rattle.p9_explain.specs.Free.{free_lines}
use Rattle.p9_explain.specs.Told.{IsBreachTold}

-- the exit status of a yes, where the input's own certificate has this gap
abbrev pub yes_status : Option Gap → ℕ
yes_status None = 0
yes_status (Some gap) = 1

-- The verdict.

-- yes: `check` prints some text for it that says so; the claim is told, how much clients reach, and
-- whether they can change it
pub record IsYesTold (prepared : Prepared) (status : ℕ) (text : List ℕ) : Type 0 where
  pub status_is : status ≡ yes_status (gap_in prepared)
  pub printed : List ℕ
  pub said : SaysYes prepared.space [] printed 0
  pub words : List ℕ
  pub told : IsReachTold prepared.space said.rows words
  pub is : text ≡ claim_text prepared.space.world ++ codes "yes: " ++ words

-- no: `check` prints some text for it that says so, and its breach is the one that is told after the
-- claim
pub record IsNoTold (prepared : Prepared) (status : ℕ) (text : List ℕ) : Type 0 where
  pub status_is : status ≡ 1
  pub printed : List ℕ
  pub said : SaysNo prepared.space [] printed 1
  pub words : List ℕ
  pub told : IsBreachTold prepared.space.world said.steps said.member said.kind words
  pub is : text ≡ claim_text prepared.space.world ++ codes "no: " ++ words

abbrev pub IsVerdict : Prepared → (status : ℕ) (text : List ℕ) → Type 0
IsVerdict prepared status text = IsYesTold prepared status text ⊎ IsNoTold prepared status text

-- What follows it.

-- what is said of the input's certificate, and free lines
pub record IsFurtherTold (prepared : Prepared) (text : List ℕ) : Type 0 where
  pub certificate : List ℕ
  pub told : IsCertificateTold prepared.rows (gap_in prepared) certificate
  pub hints : List ℕ
  pub is : text ≡ certificate ++ free_lines hints

-- free lines, and that
pub record IsRestTold (prepared : Prepared) (text : List ℕ) : Type 0 where
  pub leaks : List ℕ
  pub further : List ℕ
  pub told : IsFurtherTold prepared further
  pub is : text ≡ free_lines leaks ++ further

-- the verdict, and what follows it
pub record IsVerdictTold (prepared : Prepared) (status : ℕ) (text : List ℕ) : Type 0 where
  pub verdict : List ℕ
  pub rest : List ℕ
  pub told : IsVerdict prepared status verdict
  pub rest_told : IsRestTold prepared rest
  pub is : text ≡ verdict ++ rest

-- the input is refused, and why
abbrev pub IsRefusal : Refusal → List ℕ → Type 0
IsRefusal refusal text =
    (rest : List ℕ) × (text ≡ codes "refused: " ++ refusal_line refusal ++ rest)

-- that an input is refused is appended, with status 1; a failed allocation never is
abbrev pub IsRefusalTold : Stop Refusal → (status : ℕ) (before after : List ℕ) → Type 0
IsRefusalTold (Refused refusal) status before after =
    (status ≡ 1) × ((text : List ℕ) × IsRefusal refusal text × (after ≡ before ++ text))
IsRefusalTold NoMemory status before after = ⊥

-- the verdict over an input is appended; or that it is refused, where it has a fault
abbrev pub IsExplained : Result Prepared Rejected → (status : ℕ) (before after : List ℕ) → Type 0
IsExplained (Ok prepared) status before after =
    (text : List ℕ) × IsVerdictTold prepared status text × (after ≡ before ++ text)
IsExplained (Err rejected) status before after =
    (status ≡ 1)
    × ((text : List ℕ) × IsRefusal rejected.refusal text × (after ≡ before ++ text))
