-- What the code's changes of a forest say.
use Rattle.p9_tree.specs.ForestEdit.{ForestEdit}
use Rattle.p9_tree.specs.ForestEdit as e
use Rattle.p9_tree.specs.TreeChange.{edit_of}
use Rattle.p9_tree.specs.declared.forest_change.ForestChange.{ForestChange}
use Rattle.p9_tree.specs.declared.forest_change.ForestChange.TheVariants.{AddServer, OnServer}

-- what a change says
abbrev pub forest_edit_of : ForestChange → ForestEdit
forest_edit_of AddServer = e.AddServer
forest_edit_of (OnServer server change) = e.OnServer server (edit_of change)
