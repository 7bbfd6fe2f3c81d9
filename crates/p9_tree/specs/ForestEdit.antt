-- What a change of a forest says and does.
use Rattle.std.specs.Prelude.{ℕ, List, [], ◌∷◌, ◌++◌}
use Rattle.p9_tree.specs.Edit.{Edit, edited}
use Rattle.p9_tree.specs.Forest.{tree_changed_at}
use Rattle.p9_tree.specs.Server.{Server, rooted}

-- a change of a forest
pub data ForestEdit : Type 0 where
  AddServer : ForestEdit
  OnServer : (server : ℕ) (edit : Edit) → ForestEdit

-- the forest after a change: a server of a root alone joins behind the others, or one server is
-- changed, if it is there
abbrev pub forest_edited : ForestEdit → List Server → List Server
forest_edited AddServer forest = forest ++ rooted ∷ []
forest_edited (OnServer server edit) forest = tree_changed_at server (edited edit) forest

-- one change after another
abbrev pub all_forest_edited : List ForestEdit → List Server → List Server
all_forest_edited [] forest = forest
all_forest_edited (edit ∷ edits) forest = all_forest_edited edits (forest_edited edit forest)
