-- A line 'hide SERVER PATH'.
use Rattle.std.specs.Prelude.{ℕ, Bool, not, List, [], ◌∷◌, ◌++◌, Result, Ok}
use Rattle.std.specs.List.{list_any}
use Rattle.p9_base.specs.declared.node_ref.NodeRef.{NodeRef}
use Rattle.p9_base.specs.NodeRef.{same_node}
use Rattle.p9_base.specs.Results.{obtain, need}
use Rattle.p9_tree.specs.Forest.{server_at}
use Rattle.p9_world.specs.declared.error.LineFault.{LineFault}
use Rattle.p9_world.specs.declared.error.LineFault.TheVariants.{NoServer, BadPath, NoParent}
use Rattle.p9_world.specs.declared.error.LineFault.TheVariants.{Duplicate}
use Rattle.p9_world.specs.Path.{dir_of, names_of}
use Rattle.p9_world.specs.Server.{server_number}
use Rattle.p9_world.specs.World.{World}

-- the directory is hidden already
abbrev pub is_hidden_by : List NodeRef → NodeRef → Bool
is_hidden_by hidden node = list_any (λ other. same_node other node) hidden

-- the directory, which isn't hidden yet, joins those that are
abbrev pub with_hidden : NodeRef → World → Result World LineFault
with_hidden node w =
    need (not (is_hidden_by w.hidden node)) Duplicate (
    Ok (record w { hidden = w.hidden ++ node ∷ [] }))

-- what comes of a world by 'hide SERVER PATH'
abbrev pub hide_line : (server path : List ℕ) → World → Result World LineFault
hide_line server path w =
    obtain (server_number server w.servers) NoServer (λ number.
    obtain (names_of path) BadPath (λ names.
    obtain (dir_of names (server_at number w.forest)) NoParent (λ dir.
    with_hidden (record { server = number; number = dir }) w)))
