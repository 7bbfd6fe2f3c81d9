-- What a journal keeps of a forest.
use Rattle.std.specs.Prelude.{◌≡◌, ◌≤◌, ◌⊎◌, Bool, IsTrue, List, Option, length}
use Rattle.std.specs.Option.{ForSome}
use Rattle.p9_base.specs.NodeRef.{servers_max}
use Rattle.p9_tree.specs.Server.{Server}
use Rattle.p9_tree.specs.Unread.{all_unread}

-- the servers are the same but for their times of last access
abbrev pub IsAlike : List Server → List Server → Type 0
IsAlike forest other = all_unread forest ≡ all_unread other

module _ {J : Type 0} (is_whole : J → Bool) (stands_for : J → List Server) where
  -- the journal, if it is whole, stands for the forest but for times of last access
  abbrev pub Keeps : J → List Server → Type 0
  Keeps journal forest = IsTrue (is_whole journal) → IsAlike (stands_for journal) forest

  -- and so does one that may be there
  abbrev pub KeepsIfAny : Option J → List Server → Type 0
  KeepsIfAny journal forest = ForSome journal (λ j. Keeps j forest)

  -- there are not too many servers, and a journal, if there is one, keeps them
  pub record IsKept (journal : Option J) (forest : List Server) : Type 0 where
    pub few : length forest ≤ servers_max
    pub kept : KeepsIfAny journal forest

  -- a whole journal stands for the forest, and what it may leave is the same, but for times of last
  -- access
  pub record IsSettled (may_leave : J → List Server → Type 0) (forest : List Server) : Type 0 where
    pub journal : J
    pub whole : IsTrue (is_whole journal)
    pub stands : IsAlike (stands_for journal) forest
    pub settled : (left : List Server) → may_leave journal left → IsAlike left forest

  -- the same of what it leaves where the process is killed, and of what it leaves where the machine
  -- stops
  abbrev pub IsSynced : (J → List Server → Type 0) → (J → List Server → Type 0) → List Server
      → Type 0
  IsSynced may_stay may_stand forest =
      IsSettled (λ journal left. may_stay journal left ⊎ may_stand journal left) forest
