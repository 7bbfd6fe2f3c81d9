-- The sample world `small`: one server with /a, /a/b and /a/f, which are glenda's.
use Rattle.std.specs.Prelude.{◌==◌, ◌||◌, ℕ, Bool, false, List, [], ◌∷◌, Some, codes}
use Rattle.std.specs.List.{list_all}
use Rattle.p9_base.specs.Line.{is_blank}
use Rattle.p9_base.specs.declared.mode.Kind.TheVariants.{Directory, File}
use Rattle.p9_base.specs.declared.mode.Mode.{Mode}
use Rattle.p9_base.specs.Mode.{permissions_of}
use Rattle.p9_tree.specs.Node.{Node}
use Rattle.p9_tree.specs.Server.{Server, root_node}
use Rattle.p9_world.specs.World.{World}

-- an input has nothing but blanks, tabs and newlines
abbrev pub is_blank_input : List ℕ → Bool
is_blank_input input = list_all (λ b. is_blank b || b == 10) input

-- rwxr-xr-x
abbrev pub directory_mode : Mode
directory_mode = record { kind = Directory; permissions = permissions_of 493 }

-- rw-r--r--
abbrev pub file_mode : Mode
file_mode = record {
  kind = File (record { append_only = false; exclusive = false; temporary = false });
  permissions = permissions_of 420;
}

-- a node that was glenda's from the beginning
abbrev pub glendas : (number parent : ℕ) (name : List ℕ) → Mode → (bytes : List ℕ) → Node
glendas number parent name mode bytes = record {
  number = number;
  parent = Some parent;
  name = name;
  mode = mode;
  uid = codes "glenda";
  gid = codes "glenda";
  muid = codes "glenda";
  version = 0;
  atime = 0;
  mtime = 0;
  bytes = bytes;
}

-- the one server of the world
abbrev pub small : Server
small = record {
  nodes =
      root_node
      ∷ glendas 1 0 (codes "a") directory_mode []
      ∷ glendas 2 1 (codes "b") directory_mode []
      ∷ glendas 3 1 (codes "f") file_mode (codes "hi")
      ∷ [];
  next = 4;
}

-- the world, with glenda for its one user
abbrev pub small_world : World
small_world = record {
  forest = small ∷ [];
  users = codes "glenda" ∷ [];
  groups = [];
  hidden = [];
  vars = [];
  servers = codes "main" ∷ [];
}
