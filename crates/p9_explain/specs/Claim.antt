-- What an input claims: of which listed users, and about which hidden directories.
use Rattle.std.specs.Prelude.{ℕ, ◌==◌, List, [], ◌∷◌, ◌++◌, codes, length, if◌then◌else◌}
use Rattle.p9_base.specs.declared.node_ref.NodeRef.{NodeRef}
use Rattle.p9_prepared.specs.Path.{path_of}
use Rattle.p9_shown.specs.Text.{shown_text}
use Rattle.p9_world.specs.World.{World}

-- what follows a name, by how many are left
abbrev pub after_name : ℕ → List ℕ
after_name left = if left == 0 then [] else if left == 1 then codes " and " else codes ", "

-- the names of users: 'a', 'a and b', 'a, b and c'
abbrev pub names_text : List (List ℕ) → List ℕ
names_text [] = []
names_text (user ∷ users) = shown_text user ++ (after_name (length users) ++ names_text users)

-- of which users something is claimed, and what
abbrev pub users_text : List (List ℕ) → List ℕ
users_text [] = codes "claim: no user is listed, so none sees or changes"
users_text (user ∷ []) = codes "claim: " ++ shown_text user ++ codes " neither sees nor changes"
users_text (user ∷ other ∷ users) =
    codes "claim: of " ++ names_text (user ∷ other ∷ users) ++ codes ", none sees or changes"

-- what follows a path, by how many are left: the last one ends the line
abbrev pub after_path : ℕ → List ℕ
after_path left = if left == 0 then codes "\n" else codes ", "

module _ (world : World) where
  -- the paths of directories, with a comma between them
  abbrev pub paths_text : List NodeRef → List ℕ
  paths_text [] = []
  paths_text (dir ∷ dirs) =
      shown_text (path_of world dir) ++ (after_path (length dirs) ++ paths_text dirs)

  -- the claim about these directories
  abbrev pub claim_about : List NodeRef → List ℕ
  claim_about [] = codes "claim: none, since nothing is hidden\n"
  claim_about (dir ∷ dirs) =
      users_text world.users ++ codes " what is inside " ++ paths_text (dir ∷ dirs)

  -- the claim of the world: it is about those that are hidden
  abbrev pub claim_text : List ℕ
  claim_text = claim_about world.hidden
