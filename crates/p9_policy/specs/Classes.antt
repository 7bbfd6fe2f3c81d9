-- Classes of a node's users: what a node's mode gives, it gives to the owner, to the members of the
-- group or to everybody; and its owner and its group's leader rule it, as intro(5) and stat(5).
use Rattle.std.specs.Prelude.{ℕ, ◌&&◌, ◌||◌, Bool, List, Option}
use Rattle.std.specs.Option.{option_map_or}
use Rattle.std.specs.Str.{bytes_eq}
use Rattle.p9_base.specs.Group.{Group, has_member, is_member, leads}
use Rattle.p9_base.specs.declared.mode.Rights.{Rights}
use Rattle.p9_tree.specs.Node.{Node}
use Rattle.p9_table.specs.Rights.{Who}
use Rattle.p9_policy.specs.declared.classes.Classes.{Classes}

-- the user is of one of the classes: everybody is of the others
abbrev pub is_of : Classes → Node → Who → Bool
is_of classes n who =
    classes.others
    || ((classes.owner && bytes_eq n.uid who.user)
    || ((classes.members && is_member who.groups n.gid who.user)
    || (classes.leader && leads who.groups n.gid who.user)))

-- one of the three is given
abbrev pub gives_some : Rights → Bool
gives_some rights = rights.read || (rights.write || rights.execute)

-- the user is a member of a group, by what is listed of that name
abbrev pub has_as_member : List ℕ → Option Group → List ℕ → Bool
has_as_member name listed user = option_map_or (has_member user) listed (bytes_eq name user)

-- the user leads it
abbrev pub has_as_leader : List ℕ → Option Group → List ℕ → Bool
has_as_leader name listed user =
    option_map_or (λ g. bytes_eq g.leader user) listed (bytes_eq name user)
