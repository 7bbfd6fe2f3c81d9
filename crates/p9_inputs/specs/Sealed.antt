-- The sealing of an input, as it is printed.
use Rattle.std.specs.Prelude.{◌≡◌, ◌⊎◌, ◌++◌, ℕ, Bool, true, false, List, Some, None, codes}
use Rattle.clap.specs.Matches.{one_text}
use Rattle.clap.specs.declared.parser.matches.Found.{Found}
use Rattle.p9_prepared.specs.Prepared.{prepared_of}
use Rattle.p9_prepared.specs.declared.prepared.Needs.TheVariants.{Nothing}
use Rattle.p9_explain.specs.Explained.{IsExplained}
use Rattle.p9_seal.specs.Sealing.{IsSealError, IsSealed}
use Rattle.p9_seal.specs.declared.error.SealError.{SealError}
use Rattle.p9_seal.specs.declared.error.SealError.TheVariants.{Empty, Refused, No, Vacuous}
use Rattle.p9_seal.specs.declared.error.SealError.TheVariants.{Changeable, NoMemory}
use Rattle.p9_seal.specs.declared.wishes.Wishes.{Wishes}

-- What is wished.

-- whether an option without a value is given, among what `clap` read
pub record IsFlag (found : Found) (option : List ℕ) (given : Bool) : Type 0 where
  pub missing : one_text found option ≡ None → given ≡ false
  pub set : one_text found option ≡ Some (codes "true") → given ≡ true
  pub unset : one_text found option ≡ Some (codes "false") → given ≡ false

-- these are the wishes of the options
pub record AreWished (found : Found) (wishes : Wishes) : Type 0 where
  pub anyway : IsFlag found (codes "anyway") wishes.anyway
  pub fixed : IsFlag found (codes "fixed") wishes.fixed

-- What is printed: `out`, `err`, and the exit status.

-- a line, and nothing more
abbrev pub IsLine : List ℕ → Type 0
IsLine text = (line : List ℕ) × (text ≡ line ++ codes "\n")

-- a line, and after it what is explained of the input
pub record IsLineAndVerdict (input text : List ℕ) : Type 0 where
  pub line : List ℕ
  pub status : ℕ
  pub verdict : IsExplained (prepared_of Nothing input) status (line ++ codes "\n") text

-- a line, and after it more
pub record IsLineAndMore (text : List ℕ) : Type 0 where
  pub line : List ℕ
  pub more : List ℕ
  pub is : text ≡ line ++ codes "\n" ++ more

-- why an input is not sealed, in words
abbrev pub IsWhyNot : {A : Type 0} → (input : List ℕ) → SealError A → (text : List ℕ) → Type 0
IsWhyNot input Empty text = IsLine text
IsWhyNot input (Refused refusal) text = IsLine text
IsWhyNot input (No breach) text = IsLineAndVerdict input text
IsWhyNot input (Vacuous vacuity) text = IsLine text
IsWhyNot input (Changeable change) text = IsLineAndMore text
IsWhyNot input NoMemory text = ⊥

-- that is appended
abbrev pub IsReported : {A : Type 0} → (input : List ℕ) → SealError A → (before after : List ℕ)
    → Type 0
IsReported input error before after =
    (text : List ℕ) × IsWhyNot input error text × (after ≡ before ++ text)

-- the sealed input is appended
pub record EndsSealed (input : List ℕ) (wishes : Wishes) (status : ℕ)
    (out_before out_after err_before err_after : List ℕ) : Type 0 where
  pub done : status ≡ 0
  pub text : List ℕ
  pub sealed : IsSealed input wishes text
  pub printed : out_after ≡ out_before ++ text
  pub silent : err_after ≡ err_before

-- it is not sealed, and why is reported
pub record EndsUnsealed (A : Type 0) (input : List ℕ) (wishes : Wishes) (status : ℕ)
    (out_before out_after err_before err_after : List ℕ) : Type 0 where
  pub refused : status ≡ 1
  pub error : SealError A
  pub why : IsSealError input wishes error
  pub silent : out_after ≡ out_before
  pub reported : IsReported input error err_before err_after

-- either, by what the options wish
pub record IsSealing (A : Type 0) (found : Found) (input : List ℕ) (status : ℕ)
    (out_before out_after err_before err_after : List ℕ) : Type 0 where
  pub wishes : Wishes
  pub wished : AreWished found wishes
  pub ends : EndsSealed input wishes status out_before out_after err_before err_after
      ⊎ EndsUnsealed A input wishes status out_before out_after err_before err_after
