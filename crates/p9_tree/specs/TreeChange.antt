-- What the code's changes of a tree say.
use Rattle.p9_tree.specs.Edit.{Edit}
use Rattle.p9_tree.specs.Edit as e
use Rattle.p9_tree.specs.Saved.{saved_node}
use Rattle.p9_tree.specs.declared.tree_change.TreeChange.{TreeChange}
use Rattle.p9_tree.specs.declared.tree_change.TreeChange.TheVariants.{SetRoot, Create, Remove, Wstat}
use Rattle.p9_tree.specs.declared.tree_change.TreeChange.TheVariants.{Mark, Write, Truncate, PutBack}
use Rattle.p9_tree.specs.declared.tree_change.TreeChange.TheVariants.{Skip}

-- what a change says
abbrev pub edit_of : TreeChange → Edit
edit_of (SetRoot permissions uid gid) = e.SetRoot permissions uid gid
edit_of (Create dir new) = e.Create dir (record {
  name = new.name;
  mode = new.mode;
  uid = new.uid;
  gid = new.gid;
  muid = new.muid;
  atime = new.atime;
  mtime = new.mtime;
  bytes = new.bytes.now;
})
edit_of (Remove number) = e.Remove number
edit_of (Wstat number change) = e.Wstat number change
edit_of (Mark number user clock) = e.Mark number user clock
edit_of (Write number offset bytes) = e.Write number offset bytes.now
edit_of (Truncate number size) = e.Truncate number size
edit_of (PutBack saved) = e.PutBack (saved_node saved)
edit_of (Skip next) = e.Skip next
