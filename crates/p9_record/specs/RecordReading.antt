-- Changes read from bytes.
use Rattle.std.specs.Prelude.{ℕ, ◌==◌, List, Option, Some, None, if◌then◌else◌, option_map}
use Rattle.std.specs.Option.{option_map_or}
use Rattle.p9_base.specs.declared.mode.Mode.{Mode}
use Rattle.p9_base.specs.declared.mode.Permissions.{Permissions}
use Rattle.p9_base.specs.Mode.{is_dir, mode_of}
use Rattle.p9_base.specs.Name.{is_name}
use Rattle.p9_base.specs.User.{is_user}
use Rattle.p9_tree.specs.declared.change.Change.{Change}
use Rattle.p9_tree.specs.Edit.{Edit, SetRoot, Create, Remove, Wstat, Mark, Write, Truncate}
use Rattle.p9_tree.specs.Edit.{PutBack, Skip}
use Rattle.p9_tree.specs.ForestEdit.{ForestEdit, AddServer, OnServer}
use Rattle.p9_tree.specs.Node.{Node, root_name}
use Rattle.p9_wire.specs.FieldReading.{◌and_then◌, Reader, ◌then◌, mapped, number_at, text_at}
use Rattle.p9_wire.specs.FieldReading.{counted_at}

-- a file's name
unfoldable pub name_at : Reader (List ℕ)
name_at bytes = text_at bytes and_then λ s. if is_name s.0 then Some s else None

-- a user
unfoldable pub user_at : Reader (List ℕ)
user_at bytes = text_at bytes and_then λ s. if is_user s.0 then Some s else None

-- a mode
unfoldable pub mode_at : Reader Mode
mode_at bytes = number_at 4 bytes and_then λ n. mode_of n.0 and_then λ mode. Some (mode, n.1)

-- a directory's permissions
unfoldable pub permissions_at : Reader Permissions
permissions_at bytes =
    mode_at bytes and_then λ mode.
    if is_dir mode.0 then Some (mode.0.permissions, mode.1) else None

-- a directory and a name
unfoldable pub entry_at : Reader (ℕ × List ℕ)
entry_at = number_at 8 then name_at

-- what was read, if it was
abbrev pub given : {A : Type 0} → Option (A × List ℕ) → Option (Option A × List ℕ)
given r = r and_then λ x. Some (Some x.0, x.1)

-- 0, or 1 and what is after it
unfoldable pub optional_at : {A : Type 0} → Reader A → Reader (Option A)
optional_at r bytes =
    number_at 1 bytes and_then λ t.
    if t.0 == 0 then Some (None, t.1) else (if t.0 == 1 then given (r t.1) else None)

unfoldable pub change_at : Reader Change
change_at =
    mapped
    (λ x. record {
      name = x.0.0.0.0.0.0;
      mode = x.0.0.0.0.0.1;
      gid = x.0.0.0.0.1;
      length = x.0.0.0.1;
      mtime = x.0.0.1;
      user = x.0.1;
      clock = x.1;
    })
    (optional_at name_at then optional_at mode_at then optional_at user_at
    then optional_at (number_at 8) then optional_at (number_at 4) then user_at then number_at 4)

-- a node that is in this directory under this name, or is a root
unfoldable pub node_at : Reader Node
node_at =
    mapped
    (λ x. record {
      number = x.0.0.0.0.0.0.0.0.0;
      parent = option_map (λ entry. entry.0) x.0.0.0.0.0.0.0.0.1;
      name = option_map_or (λ entry. entry.1) x.0.0.0.0.0.0.0.0.1 root_name;
      mode = x.0.0.0.0.0.0.0.1;
      uid = x.0.0.0.0.0.0.1;
      gid = x.0.0.0.0.0.1;
      muid = x.0.0.0.0.1;
      version = x.0.0.0.1;
      atime = x.0.0.1;
      mtime = x.0.1;
      bytes = x.1;
    })
    (number_at 8 then optional_at entry_at then mode_at then user_at then user_at then user_at
    then number_at 4 then number_at 4 then number_at 4 then counted_at)

unfoldable pub set_root_at : Reader Edit
set_root_at = mapped (λ x. SetRoot x.0.0 x.0.1 x.1) (permissions_at then user_at then user_at)

unfoldable pub create_at : Reader Edit
create_at =
    mapped
    (λ x. Create x.0.0.0.0.0.0.0.0 (record {
      name = x.0.0.0.0.0.0.0.1;
      mode = x.0.0.0.0.0.0.1;
      uid = x.0.0.0.0.0.1;
      gid = x.0.0.0.0.1;
      muid = x.0.0.0.1;
      atime = x.0.0.1;
      mtime = x.0.1;
      bytes = x.1;
    }))
    (number_at 8 then name_at then mode_at then user_at then user_at then user_at
    then number_at 4 then number_at 4 then counted_at)

unfoldable pub remove_at : Reader Edit
remove_at = mapped Remove (number_at 8)

unfoldable pub wstat_at : Reader Edit
wstat_at = mapped (λ x. Wstat x.0 x.1) (number_at 8 then change_at)

unfoldable pub mark_at : Reader Edit
mark_at = mapped (λ x. Mark x.0.0 x.0.1 x.1) (number_at 8 then user_at then number_at 4)

unfoldable pub write_at : Reader Edit
write_at = mapped (λ x. Write x.0.0 x.0.1 x.1) (number_at 8 then number_at 8 then counted_at)

unfoldable pub truncate_at : Reader Edit
truncate_at = mapped (λ x. Truncate x.0 x.1) (number_at 8 then number_at 8)

unfoldable pub put_back_at : Reader Edit
put_back_at = mapped PutBack node_at

unfoldable pub skip_at : Reader Edit
skip_at = mapped Skip (number_at 8)

-- the fields of a change of this kind
unfoldable pub body_at : ℕ → Reader Edit
body_at kind =
    if kind == 0 then set_root_at
    else if kind == 1 then create_at
    else if kind == 2 then remove_at
    else if kind == 3 then wstat_at
    else if kind == 4 then mark_at
    else if kind == 5 then write_at
    else if kind == 6 then truncate_at
    else if kind == 7 then put_back_at
    else if kind == 8 then skip_at
    else λ bytes. None

-- a change of a tree
unfoldable pub edit_at : Reader Edit
edit_at bytes = number_at 1 bytes and_then λ kind. body_at kind.0 kind.1

-- the change of a server's tree
unfoldable pub on_server_at : Reader ForestEdit
on_server_at = mapped (λ x. OnServer x.0 x.1) (number_at 2 then edit_at)

-- what is after the first byte of a change of a forest
unfoldable pub forest_body_at : ℕ → Reader ForestEdit
forest_body_at kind =
    if kind == 0 then (λ bytes. Some (AddServer, bytes))
    else if kind == 1 then on_server_at
    else λ bytes. None

-- a change of a forest
unfoldable pub forest_edit_at : Reader ForestEdit
forest_edit_at bytes = number_at 1 bytes and_then λ kind. forest_body_at kind.0 kind.1
