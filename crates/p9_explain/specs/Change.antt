-- What listed users can change, in words.
use Rattle.std.specs.Prelude.{◌≡◌, ◌⊎◌, ◌==◌, ℕ, List, [], ◌∷◌, ◌++◌, Option, Some, None, codes, length}
use Rattle.std.specs.Prelude.{if◌then◌else◌}
use Rattle.std.specs.Fmt.{decimal}
use Rattle.p9_base.specs.declared.node_ref.NodeRef.{NodeRef}
use Rattle.p9_cert.specs.Policy.{policy_of}
use Rattle.p9_prepared.specs.NameSpace.{NameSpace}
use Rattle.p9_prepared.specs.Path.{path_of}
use Rattle.p9_fixed.specs.Change.{first_change}
use Rattle.p9_fixed.specs.Changer.{changer_of}
use Rattle.p9_fixed.specs.declared.change.Change.{Change}
use Rattle.p9_fixed.specs.declared.change.ChangeKind.{ChangeKind}
use Rattle.p9_fixed.specs.declared.change.ChangeKind.TheVariants.{Alterable, Removable, Exclusive}
use Rattle.p9_explain.specs.Free.{AreFree, first_line}
use Rattle.p9_shown.specs.Text.{shown_text}
use Rattle.p9_world.specs.World.{World}

-- what a user may do to a node
abbrev pub IsVerb : ChangeKind → List ℕ → Type 0
IsVerb Alterable verb = (verb ≡ codes " may write ") ⊎ (verb ≡ codes " may change the mode of ")
IsVerb Removable verb = verb ≡ codes " may remove "
IsVerb Exclusive verb = verb ≡ codes " may open "

module _ (world : World) (change : Change) where
  -- a line: who may do what to which node, as they are shown, and something of that
  pub record IsDeedTold (user text : List ℕ) : Type 0 where
    pub verb : List ℕ
    pub is_verb : IsVerb change.kind verb
    pub right : List ℕ
    pub is : text ≡ shown_text user ++ verb ++ shown_text (path_of world change.member)
        ++ first_line right ++ codes "\n"

  -- the first listed user who can make the change is named; without one nothing is said
  abbrev pub IsToldOf : Option (List ℕ) → List ℕ → Type 0
  IsToldOf None text = text ≡ []
  IsToldOf (Some user) text = IsDeedTold user text

  abbrev pub IsChangeTold : List ℕ → Type 0
  IsChangeTold text = IsToldOf (changer_of (policy_of world) world.forest change) text

-- the line of a name space in which nobody can change anything
abbrev pub fixed_line : List ℕ
fixed_line = codes "fixed: no listed user can change anything that he reaches" ++ 10 ∷ []

-- what follows the number of directories
abbrev pub directories : ℕ → List ℕ
directories count = if count == 1 then codes " directory" else codes " directories"

-- so many directories are reached
abbrev pub reach_text : ℕ → List ℕ
reach_text count =
    codes "clients can reach " ++ decimal count ++ directories count
    ++ codes ", and nothing hidden\n"

-- it is told that a name space is fixed, or else the first change
abbrev pub IsFirstTold : World → Option Change → List ℕ → Type 0
IsFirstTold world None text = text ≡ fixed_line
IsFirstTold world (Some change) text =
    (words : List ℕ) × IsChangeTold world change words × (text ≡ codes "changeable: " ++ words)

module _ (space : NameSpace) (rows : List NodeRef) where
  -- by the first change of what a certificate of these rows reaches
  abbrev pub IsKindTold : List ℕ → Type 0
  IsKindTold text =
      IsFirstTold space.world
      (first_change (policy_of space.world) space.world.forest space.table rows) text

  -- how many directories are reached, whether they can be changed, and free lines
  pub record IsReachTold (text : List ℕ) : Type 0 where
    pub kind : List ℕ
    pub hints : List ℕ
    pub told : IsKindTold kind
    pub free : AreFree hints
    pub is : text ≡ reach_text (length rows) ++ kind ++ hints
