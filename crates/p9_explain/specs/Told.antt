-- A breach in words.
use Rattle.std.specs.Prelude.{◌≡◌, ℕ, List, [], ◌∷◌, ◌++◌, Option, IfSome, codes}
use Rattle.p9_base.specs.declared.node_ref.NodeRef.{NodeRef}
use Rattle.p9_cert.specs.declared.gap.MemberFault.{MemberFault}
use Rattle.p9_cert.specs.declared.gap.MemberFault.TheVariants.{Inside, Open, Owned, Removable, Missing}
use Rattle.p9_judge.specs.declared.breach.BreachKind.{BreachKind}
use Rattle.p9_judge.specs.declared.breach.BreachKind.TheVariants.{Inside as BreaksInside}
use Rattle.p9_judge.specs.declared.breach.BreachKind.TheVariants.{Open as BreaksOpen}
use Rattle.p9_judge.specs.declared.breach.BreachKind.TheVariants.{Owned as BreaksOwned}
use Rattle.p9_judge.specs.declared.breach.BreachKind.TheVariants.{Removable as BreaksRemovable}
use Rattle.p9_judge.specs.declared.breach.Step.{Step}
use Rattle.p9_shown.specs.Text.{shown_text}
use Rattle.p9_space.specs.Place.{root_place}
use Rattle.p9_world.specs.World.{World}
use Rattle.p9_prepared.specs.Path.{path_of}
use Rattle.p9_explain.specs.Free.{AreFree, first_line}
use Rattle.p9_explain.specs.Passing.{passing_text}
use Rattle.p9_explain.specs.Walker.{TakesAll, steps_by}

-- what is wrong with the member of a breach, as of a certificate's gap
abbrev pub fault_of : BreachKind → MemberFault
fault_of BreaksInside = Inside
fault_of BreaksOpen = Open
fault_of BreaksOwned = Owned
fault_of BreaksRemovable = Removable

-- what is wrong with a directory, in words
abbrev pub fault_words : MemberFault → List ℕ
fault_words Inside = codes "is inside "
fault_words Open = codes "is open: "
fault_words Owned = codes "is owned: "
fault_words Removable = codes "is removable from "
fault_words Missing = codes "is no row: "

module _ (world : World) where
  -- a path as it is shown
  abbrev pub path_text : NodeRef → List ℕ
  path_text at = shown_text (path_of world at)

  -- the inside of some directory is within reach
  abbrev pub IsHeadTold : List ℕ → Type 0
  IsHeadTold text =
      (dir : NodeRef)
      × (text ≡ codes "the inside of " ++ path_text dir ++ codes " is within reach\n")

  -- the user of the first step attaches at the root of the name space
  abbrev pub start_text : List Step → List ℕ
  start_text [] = []
  start_text (step ∷ steps) =
      codes "  " ++ shown_text step.user ++ codes " attaches at " ++ path_text root_place
      ++ codes "\n"

  -- a line: who passes which directory, as they are shown; something of the line that made it; by
  -- which right it is passed; and something of where it is bound
  abbrev pub IsStepTold : Step → List ℕ → Type 0
  IsStepTold step line =
      (made : List ℕ) × (bound : List ℕ)
      × (line ≡ codes "  " ++ shown_text step.user ++ codes " passes " ++ path_text step.member
      ++ first_line made ++ passing_text world step.user step.member ++ codes ")"
      ++ first_line bound ++ codes "\n")

  -- the steps, one after another
  abbrev pub IsWalkTold : List Step → List ℕ → Type 0
  IsWalkTold [] text = text ≡ []
  IsWalkTold (step ∷ steps) text =
      (line : List ℕ) × (rest : List ℕ) × IsStepTold step line × (text ≡ line ++ rest)
      × IsWalkTold steps rest

  -- a line: the member that they lead to; something of the line that made it; what is wrong with it;
  -- and something of why
  abbrev pub IsEndTold : NodeRef → BreachKind → List ℕ → Type 0
  IsEndTold member kind line =
      (made : List ℕ) × (why : List ℕ)
      × (line ≡ codes "  " ++ path_text member ++ first_line made ++ codes ") "
      ++ fault_words (fault_of kind) ++ first_line why ++ codes "\n")

  -- what is within reach, who attaches, the steps, the member that they lead to, and free lines
  pub record IsWayTold (steps : List Step) (member : NodeRef) (kind : BreachKind) (text : List ℕ)
      : Type 0 where
    pub head : List ℕ
    pub walk : List ℕ
    pub end : List ℕ
    pub mend : List ℕ
    pub head_told : IsHeadTold head
    pub steps_told : IsWalkTold steps walk
    pub end_told : IsEndTold member kind end
    pub free : AreFree mend
    pub is : text ≡ head ++ start_text steps ++ walk ++ end ++ mend

  -- a way to the member, whose steps are as one listed user takes them, if one is named who may take
  -- them all
  pub record IsBreachTold (steps : List Step) (member : NodeRef) (kind : BreachKind) (text : List ℕ)
      : Type 0 where
    pub walker : Option (List ℕ)
    pub takes_all : IfSome walker (λ user. TakesAll world user steps)
    pub told : IsWayTold (steps_by walker steps) member kind text
