-- The end of fids, and removal on close: clunk(5), open(5).
use Rattle.std.specs.Prelude.{ℕ, Bool, false, List, [], ◌∷◌, ◌++◌, Option}
use Rattle.std.specs.Prelude.{if◌then◌else◌}
use Rattle.std.specs.Option.{option_map_or}
use Rattle.p9_base.specs.declared.node_ref.NodeRef.{NodeRef}
use Rattle.p9_base.specs.NodeRef.{beside}
use Rattle.p9_tree.specs.Node.{Node}
use Rattle.p9_tree.specs.Server.{Server}
use Rattle.p9_space.specs.Table.{MountRow}
use Rattle.p9_fids.specs.Fid.{Fid, FidRow}
use Rattle.p9_step.specs.State.{fid_file, fid_ref}
use Rattle.p9_step.specs.ForestChange.{ForestChange, EditNode, DropNode, Mark, all_applied}

-- the directory that a node is in is marked, where there is one
abbrev pub parent_marked : List ℕ → ℕ → NodeRef → Option ℕ → List ForestChange
parent_marked user clock at parent =
    option_map_or (λ number. EditNode (beside at number) (Mark user clock) ∷ []) parent []

-- a node is taken out, and its directory marked
abbrev pub taken_out : List ℕ → ℕ → NodeRef → Node → List ForestChange
taken_out user clock at n = DropNode at ∷ parent_marked user clock at n.parent

-- the fid is open, with remove-on-close
abbrev pub removes_on_close : Fid → Bool
removes_on_close v = option_map_or (λ opened. opened.remove_on_close) v.opened false

-- what the end of a fid changes: a file that is open with remove-on-close goes, without a further
-- test
abbrev pub on_end : List MountRow → ℕ → List Server → Fid → List ForestChange
on_end table clock forest v =
    if removes_on_close v
    then option_map_or (taken_out v.user clock (fid_ref table v)) (fid_file table forest v) []
    else []

-- what the end of all of them changes, by rising number, each in the forest that the one before
-- left
abbrev pub on_ends : List MountRow → ℕ → List Server → List FidRow → List ForestChange
on_ends table clock forest [] = []
on_ends table clock forest (row ∷ rows) =
    let changes = on_end table clock forest row.1 in
    changes ++ on_ends table clock (all_applied changes forest) rows
