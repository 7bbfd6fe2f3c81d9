-- What is wrong with the member that a breach leads to.
use Rattle.std.specs.Prelude.{ℕ, Bool, false, List, ◌++◌, Option, codes, find}
use Rattle.std.specs.Option.{option_map_or}
use Rattle.p9_base.specs.declared.node_ref.NodeRef.{NodeRef}
use Rattle.p9_base.specs.NodeRef.{beside}
use Rattle.p9_tree.specs.Forest.{node_of}
use Rattle.p9_tree.specs.Node.{Node}
use Rattle.p9_world.specs.World.{World}
use Rattle.p9_space.specs.Rights.{Who, rules}
use Rattle.p9_cert.specs.Listed.{may_alter, may_use}
use Rattle.p9_judge.specs.declared.breach.BreachKind.{BreachKind}
use Rattle.p9_judge.specs.declared.breach.BreachKind.TheVariants.{Inside, Open, Owned, Removable}
use Rattle.p9_shown.specs.Text.{shown_text}

-- a user has a right by which what is inside is within reach, if this node is the breach's member: to
-- use it, to change its mode, or to alter the directory that it is in
abbrev pub reaches : World → NodeRef → BreachKind → Who → Node → Bool
reaches world at Inside who n = false
reaches world at Open who n = may_use n who
reaches world at Owned who n = rules who n
reaches world at Removable who n =
    option_map_or (λ number. option_map_or (λ dir. may_alter dir who) (node_of (beside at number)
    world.forest) false) n.parent false

-- the first listed user who has it
abbrev pub reacher : World → NodeRef → BreachKind → Option (List ℕ)
reacher world at kind =
    find (λ user. option_map_or (reaches world at kind (record { user = user; groups = world.groups }))
    (node_of at world.forest) false) world.users

-- his name
abbrev pub reacher_name : World → NodeRef → BreachKind → List ℕ
reacher_name world at kind = option_map_or shown_text (reacher world at kind) (codes "a listed user")

-- what a breach of this kind lets him do
abbrev pub may_words : BreachKind → List ℕ
may_words Inside = codes ""
may_words Open = codes " may use it"
may_words Owned = codes " may change its mode"
may_words Removable = codes " may remove it"

-- what is wrong with the member
abbrev pub fault_note : World → NodeRef → BreachKind → List ℕ
fault_note world at Inside = codes "inside a hidden directory"
fault_note world at Open = reacher_name world at Open ++ may_words Open
fault_note world at Owned = reacher_name world at Owned ++ may_words Owned
fault_note world at Removable = reacher_name world at Removable ++ may_words Removable
