-- What a user may do with a file, as intro(5).
use Rattle.std.specs.Prelude.{ℕ, ◌||◌, Bool, true, false, List}
use Rattle.std.specs.Str.{bytes_eq}
use Rattle.p9_base.specs.declared.mode.Rights.{Rights}
use Rattle.p9_base.specs.Group.{GroupRow, is_member, leads}
use Rattle.p9_base.specs.Rights.{is_granted}
use Rattle.p9_table.specs.declared.rights.Who.{Who as WhoIs}
use Rattle.p9_tree.specs.Node.{Node}

-- to read a file, or to list a directory
abbrev pub to_read : Rights
to_read = record { read = true; write = false; execute = false }

-- to write a file, or to change a directory's entries
abbrev pub to_write : Rights
to_write = record { read = false; write = true; execute = false }

-- to execute a file, or to search a directory
abbrev pub to_execute : Rights
to_execute = record { read = false; write = false; execute = true }

-- a user, and the groups that are listed
pub record Who : Type 0 where
  pub user : List ℕ
  pub groups : List GroupRow

-- what the code's reference to both says
abbrev pub who_view : {A : Type 0} → WhoIs A → Who
who_view w = record { user = w.user.now; groups = w.groups.now }

-- the user has each wanted right: by the others' bits, as the owner, or as a member of the group
abbrev pub may : Who → Node → Rights → Bool
may who n wanted =
    is_granted n.mode.permissions (bytes_eq n.uid who.user) (is_member who.groups n.gid who.user)
    wanted

-- the user owns the node or leads its group
abbrev pub rules : Who → Node → Bool
rules who n = bytes_eq n.uid who.user || leads who.groups n.gid who.user
