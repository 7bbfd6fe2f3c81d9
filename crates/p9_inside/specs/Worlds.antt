-- Worlds small enough to see what is inside.
use Rattle.std.specs.Prelude.{◌≡◌, ℕ, List, [], ◌∷◌, Option, Some, None, codes, true, false}
use Rattle.p9_base.specs.declared.mode.Kind.{Kind}
use Rattle.p9_base.specs.declared.mode.Kind.TheVariants.{Directory, File}
use Rattle.p9_base.specs.declared.mode.Permissions.{Permissions}
use Rattle.p9_base.specs.declared.mode.Rights.{Rights}
use Rattle.p9_base.specs.declared.node_ref.NodeRef.{NodeRef}
use Rattle.p9_tree.specs.Node.{Node, root_name}
use Rattle.p9_tree.specs.Server.{Server, all_rights, read_and_search, with_dropped}
use Rattle.p9_tree.specs.Forest.{tree_changed_at}
use Rattle.p9_tree.specs.Inside.{inner, outer}
use Rattle.p9_inside.specs.Changes.{with_new}

-- no right
abbrev pub no_rights : Rights
no_rights = record { read = false; write = false; execute = false }

-- rw-
abbrev pub read_and_write : Rights
read_and_write = record { read = true; write = true; execute = false }

-- the owner's rights, and those of the group and of all others
abbrev pub owner_and_others : Rights → Rights → Permissions
owner_and_others owner others = record { owner = owner; group = others; others = others }

-- a file without flags
abbrev pub plain_file : Kind
plain_file = File (record { append_only = false; exclusive = false; temporary = false })

-- a node of the user sys, as it was made at the time 0
abbrev pub plain_node : (number : ℕ) (parent : Option ℕ) (name : List ℕ) → Kind → Permissions
    → (bytes : List ℕ) → Node
plain_node number parent name kind permissions bytes = record {
  number = number;
  parent = parent;
  name = name;
  mode = record { kind = kind; permissions = permissions };
  uid = codes "sys";
  gid = codes "sys";
  muid = codes "sys";
  version = 0;
  atime = 0;
  mtime = 0;
  bytes = bytes;
}

-- a directory, in the parent
abbrev pub dir : (number parent : ℕ) (name : List ℕ) → Permissions → Node
dir number parent name permissions = plain_node number (Some parent) name Directory permissions []

-- the root of a server
abbrev pub root : Permissions → Node
root permissions = plain_node 0 None root_name Directory permissions []

-- one server, of these nodes
abbrev pub alone : List Node → ℕ → List Server
alone nodes next = record { nodes = nodes; next = next } ∷ []

-- In each of them node 2 of server 0 is hidden.
abbrev pub hidden : List NodeRef
hidden = record { server = 0; number = 2 } ∷ []

-- A hidden directory with a file in it, beside a public one.

abbrev pub vault_root : Node
vault_root = root (owner_and_others all_rights read_and_search)

abbrev pub vault_pub : Node
vault_pub = dir 1 0 (codes "pub") (owner_and_others all_rights all_rights)

abbrev pub vault : Node
vault = dir 2 0 (codes "vault") (owner_and_others no_rights no_rights)

abbrev pub vault_key : Node
vault_key =
    plain_node 3 (Some 2) (codes "key") plain_file (owner_and_others read_and_write no_rights) (1 ∷ [])

abbrev pub vault_world : List Server
vault_world = alone (vault_root ∷ vault_pub ∷ vault ∷ vault_key ∷ []) 4

abbrev pub VaultInsides : Type 0
VaultInsides = inner hidden vault_world ≡ (vault_key ∷ []) ∷ []

abbrev pub VaultOthers : Type 0
VaultOthers = outer hidden vault_world ≡ alone (vault_root ∷ vault_pub ∷ vault ∷ []) 4

-- A hidden directory of all rights, which a bind is to cover.

abbrev pub covered_root : Node
covered_root = root (owner_and_others all_rights all_rights)

abbrev pub covered_empty : Node
covered_empty = dir 1 0 (codes "empty") (owner_and_others all_rights read_and_search)

abbrev pub covered_vault : Node
covered_vault = dir 2 0 (codes "vault") (owner_and_others all_rights all_rights)

abbrev pub covered_key : Node
covered_key =
    plain_node 3 (Some 2) (codes "key") plain_file (owner_and_others read_and_write read_and_write) (1 ∷ [])

abbrev pub covered_vault_world : List Server
covered_vault_world =
    alone (covered_root ∷ covered_empty ∷ covered_vault ∷ covered_key ∷ []) 4

abbrev pub CoveredVaultInsides : Type 0
CoveredVaultInsides = inner hidden covered_vault_world ≡ (covered_key ∷ []) ∷ []

-- The same world after its key and its vault were removed, and a directory with a file was made.
-- The node at position 2 of the list is now another.

abbrev pub new_dir : ℕ → Node
new_dir number = dir number 1 (codes "new") (owner_and_others all_rights read_and_search)

abbrev pub new_file : ℕ → Node
new_file number =
    plain_node number (Some 4) (codes "f") plain_file (owner_and_others read_and_write read_and_write) []

abbrev pub after_removal : List Server
after_removal =
    tree_changed_at 0 (with_new new_file)
    (tree_changed_at 0 (with_new new_dir)
    (tree_changed_at 0 (with_dropped 2)
    (tree_changed_at 0 (with_dropped 3) covered_vault_world)))

abbrev pub RemovedInsides : Type 0
RemovedInsides = inner hidden after_removal ≡ [] ∷ []

-- A directory inside the hidden one, which a bind is to show elsewhere.

abbrev pub bound_in : Node
bound_in = dir 3 2 (codes "in") (owner_and_others all_rights read_and_search)

abbrev pub bound_u : Node
bound_u = dir 1 0 (codes "u") (owner_and_others all_rights read_and_search)

abbrev pub bound_inside_world : List Server
bound_inside_world = alone (vault_root ∷ bound_u ∷ vault ∷ bound_in ∷ []) 4

abbrev pub BoundInsideInsides : Type 0
BoundInsideInsides = inner hidden bound_inside_world ≡ (bound_in ∷ []) ∷ []

-- A tree inside, and a server on which nothing is hidden.

abbrev pub deep_file : Node
deep_file = plain_node 4 (Some 3) (codes "f") plain_file (owner_and_others read_and_write no_rights) []

abbrev pub deep_open : Node
deep_open = dir 5 0 (codes "open") (owner_and_others all_rights all_rights)

abbrev pub deep_world : List Server
deep_world =
    record { nodes = vault_root ∷ vault ∷ bound_in ∷ deep_file ∷ deep_open ∷ []; next = 6 }
    ∷ vault_world

abbrev pub DeepInsides : Type 0
DeepInsides = inner hidden deep_world ≡ (bound_in ∷ deep_file ∷ []) ∷ [] ∷ []
