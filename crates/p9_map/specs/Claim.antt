-- What an input claims.
use Rattle.std.specs.Prelude.{ℕ, ◌==◌, List, [], ◌∷◌, ◌++◌, codes, length, if◌then◌else◌}
use Rattle.std.specs.List.{flat_map}
use Rattle.p9_base.specs.declared.node_ref.NodeRef.{NodeRef}
use Rattle.p9_world.specs.World.{World}
use Rattle.p9_prepared.specs.Path.{path_of}
use Rattle.p9_shown.specs.Text.{shown_text}

-- the texts of some things with a comma between them
abbrev pub comma_list : {X : Type 0} → (X → List ℕ) → List X → List ℕ
comma_list text [] = []
comma_list text (x ∷ xs) = text x ++ flat_map (λ y. codes ", " ++ text y) xs

-- the path of a node as it is shown
abbrev pub shown_path : World → NodeRef → List ℕ
shown_path world at = shown_text (path_of world at)

-- the names of users
abbrev pub users_text : List (List ℕ) → List ℕ
users_text [] = codes "a user, since none is listed"
users_text (user ∷ users) = comma_list shown_text (user ∷ users)

-- what is inside the hidden directories, and which users do not come there
abbrev pub claim_text : World → List ℕ
claim_text world =
    if length world.hidden == 0 then codes "claim: none, since nothing is hidden"
    else codes "claim: what is inside " ++ comma_list (shown_path world) world.hidden
    ++ codes " is neither seen nor changed by " ++ users_text world.users
