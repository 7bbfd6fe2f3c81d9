-- What a namespace file is run in.
use Rattle.std.specs.Prelude.{ℕ, List, map, string_bytes}
use Rattle.std.specs.declared.string.String.{String}
use Rattle.p9_base.specs.Variable.{Variable, variables_of}
use Rattle.p9_tree.specs.Server.{Server}

-- what no operation changes: the trees, the variables, and the servers' names by number
pub record Environment : Type 0 where
  pub forest : List Server
  pub vars : List Variable
  pub servers : List (List ℕ)

-- an environment of the code, as it is seen
abbrev pub environment_view : {A : Type 0} → List Server → List (String A × String A)
    → List (String A) → Environment
environment_view forest vars servers = record {
  forest = forest;
  vars = variables_of vars;
  servers = map string_bytes servers;
}
