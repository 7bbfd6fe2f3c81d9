-- Who takes the walk of a breach.
use Rattle.std.specs.Prelude.{◌&&◌, ℕ, Bool, false, List, Option, Some, None, IsTrue, map}
use Rattle.std.specs.List.{list_all, list_any}
use Rattle.std.specs.Option.{option_map_or}
use Rattle.std.specs.Str.{bytes_eq}
use Rattle.p9_base.specs.declared.node_ref.NodeRef.{NodeRef}
use Rattle.p9_tree.specs.Forest.{node_of}
use Rattle.p9_tree.specs.Node.{is_dir}
use Rattle.p9_cert.specs.Listed.{may_pass}
use Rattle.p9_judge.specs.declared.breach.Step.{Step}
use Rattle.p9_world.specs.World.{World}

-- a step as this user takes it
abbrev pub taken_by : List ℕ → Step → Step
taken_by user step = record { name = step.name; member = step.member; user = user }

-- the steps as this user takes them; without one as they are
abbrev pub steps_by : Option (List ℕ) → List Step → List Step
steps_by None steps = steps
steps_by (Some user) steps = map (taken_by user) steps

module _ (world : World) where
  -- the node is a directory that exists, and the user may search it or rules it
  abbrev pub is_passed_by : (user : List ℕ) → NodeRef → Bool
  is_passed_by user at =
      option_map_or (λ n. is_dir n && may_pass n (record { user = user; groups = world.groups }))
      (node_of at world.forest) false

  -- the user may pass the member of each step
  abbrev pub takes_all : (user : List ℕ) → List Step → Bool
  takes_all user steps = list_all (λ step. is_passed_by user step.member) steps

  -- a listed user may take all steps
  pub record TakesAll (user : List ℕ) (steps : List Step) : Type 0 where
    pub listed : IsTrue (list_any (bytes_eq user) world.users)
    pub takes : IsTrue (takes_all user steps)
