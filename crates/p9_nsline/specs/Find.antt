-- The file that a word of a namespace file names.
use Rattle.std.specs.Prelude.{ℕ, ◌==◌, List, [], ◌∷◌, Option, Some, None, Result, Ok, Err}
use Rattle.std.specs.Prelude.{take, position, if◌then◌else◌}
use Rattle.std.specs.Option.{option_map_or}
use Rattle.std.specs.List.{before_first, after_first}
use Rattle.std.specs.Str.{bytes_eq}
use Rattle.p9_base.specs.declared.node_ref.NodeRef.{NodeRef}
use Rattle.p9_base.specs.declared.fault.Fault.{Fault}
use Rattle.p9_base.specs.Name.{is_slash, slash}
use Rattle.p9_base.specs.NodeRef.{servers_max}
use Rattle.p9_base.specs.Results.{and_then}
use Rattle.p9_clean.specs.Path.{cleaned_elements, is_rooted}
use Rattle.p9_space.specs.Place.{file_ref, root_place}
use Rattle.p9_space.specs.Trail.{here}
use Rattle.p9_space.specs.Walk.{walk}
use Rattle.p9_nsline.specs.declared.fault.OpFault.{OpFault}
use Rattle.p9_nsline.specs.declared.fault.OpFault.TheVariants.{Path, UnknownServer}
use Rattle.p9_nsline.specs.Flags.{Word}
use Rattle.p9_nsline.specs.Environment.{Environment}
use Rattle.p9_nsline.specs.Space.{Space}
use Rattle.p9_nsline.specs.Variable.{expanded}

-- a walk's fault is the path's
abbrev pub path_fault : {X : Type 0} → Result X Fault → Result X OpFault
path_fault (Ok value) = Ok value
path_fault (Err fault) = Err (Path fault)

-- the root of the server of this name
abbrev pub server_root : List (List ℕ) → Word → Result NodeRef OpFault
server_root servers name =
    option_map_or (λ number. Ok (record { server = number; number = 0 }))
    (position (λ server. bytes_eq server name) (take servers_max servers)) (Err UnknownServer)

-- what follows the '#' at the front, which names a server
abbrev pub behind_hash : Word → Option Word
behind_hash [] = None
behind_hash (b ∷ bs) = if b == 35 then Some bs else None

module _ (environment : Environment) (space : Space) where
  -- along the cleaned path; no permission is needed
  abbrev pub walked_along : List NodeRef → Word → Result (List NodeRef) OpFault
  walked_along start path =
      path_fault (walk environment.forest space.table None start (cleaned_elements path))

  -- a path from the root place, or from the current directory
  abbrev pub found_from : Word → Result (List NodeRef) OpFault
  found_from path = walked_along (if is_rooted path then root_place ∷ [] else space.current) path

  -- a path that begins with a server's name; what follows that is rooted
  abbrev pub found_on_server : Word → Result (List NodeRef) OpFault
  found_on_server path =
      and_then (server_root environment.servers (before_first is_slash path))
      (λ root. walked_along (root ∷ []) (slash ∷ after_first is_slash path))

  -- the trail to the file that a path names
  abbrev pub found_at : Word → Result (List NodeRef) OpFault
  found_at path = option_map_or found_on_server (behind_hash path) (found_from path)

  -- the trail to the file that a word names, with the variables' values put in
  abbrev pub found : Word → Result (List NodeRef) OpFault
  found word = found_at (expanded environment.vars word)

  -- the file that a word names: the first that stands for its place
  abbrev pub found_file : Word → Result NodeRef OpFault
  found_file word = and_then (found word) (λ trail. Ok (file_ref (here trail) space.table))
