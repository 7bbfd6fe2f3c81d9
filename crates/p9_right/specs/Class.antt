-- As whom a user may do something with a node.
use Rattle.std.specs.Prelude.{ℕ, ◌&&◌, ◌||◌, ◌++◌, Bool, List, Option, Some, None, codes, if◌then◌else◌}
use Rattle.std.specs.Str.{bytes_eq}
use Rattle.p9_base.specs.Group.{is_member, leads}
use Rattle.p9_base.specs.declared.mode.Rights.{Rights}
use Rattle.p9_tree.specs.Node.{Node}
use Rattle.p9_space.specs.Rights.{Who, may, to_execute, to_read, to_write}
use Rattle.p9_right.specs.declared.class.Class.{Class}
use Rattle.p9_right.specs.declared.class.Class.TheVariants.{Others, Owner, Member, Leader}

-- one of the wanted rights is given
abbrev pub gives_one : (given wanted : Rights) → Bool
gives_one given wanted =
    (wanted.read && given.read) || (wanted.write && given.write) || (wanted.execute && given.execute)

-- the first class by whose bits the user has one of the wanted rights: the others, the owner, the
-- members of the group
abbrev pub class_of : Who → Node → (wanted : Rights) → Option Class
class_of who n wanted =
    let permissions = n.mode.permissions in
    if gives_one permissions.others wanted then Some Others
    else if bytes_eq n.uid who.user && gives_one permissions.owner wanted then Some Owner
    else if gives_one permissions.group wanted && is_member who.groups n.gid who.user then Some Member
    else None

-- the user may do one of what is wanted
abbrev pub may_one : Who → Node → (wanted : Rights) → Bool
may_one who n wanted =
    (wanted.read && may who n to_read) || (wanted.write && may who n to_write)
    || (wanted.execute && may who n to_execute)

-- as whom the user rules the node: as its owner, or else as the leader of its group
abbrev pub ruling_class : Who → Node → Option Class
ruling_class who n =
    if bytes_eq n.uid who.user then Some Owner
    else if leads who.groups n.gid who.user then Some Leader
    else None

-- the class, where its group is called so
abbrev pub class_words : Class → (group : List ℕ) → List ℕ
class_words Others group = codes "others"
class_words Owner group = codes "its owner"
class_words Member group = codes "a member of " ++ group
class_words Leader group = codes "the leader of " ++ group
