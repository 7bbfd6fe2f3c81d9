-- What listed users may do with a node, no matter which of them, as intro(5).
use Rattle.std.specs.Prelude.{ℕ, ◌&&◌, ◌||◌, Bool, List}
use Rattle.std.specs.List.{list_any}
use Rattle.p9_base.specs.Group.{GroupRow}
use Rattle.p9_tree.specs.Node.{Node, is_dir}
use Rattle.p9_table.specs.Rights.{Who, may, rules, to_execute, to_read, to_write}

-- the user may read, write or search the node
abbrev pub may_use : Node → Who → Bool
may_use n who = may who n to_read || may who n to_write || may who n to_execute

-- the user may search the directory, or rules it and so may come to search it
abbrev pub may_pass : Node → Who → Bool
may_pass n who = may who n to_execute || rules who n

-- the user may write the directory, or rules it and so may come to write it: then what is in it
-- may be removed and renamed
abbrev pub may_alter : Node → Who → Bool
may_alter n who = may who n to_write || rules who n

module _ (users : List (List ℕ)) (groups : List GroupRow) where
  -- some listed user passes the test
  abbrev pub some_listed : (Who → Bool) → Bool
  some_listed test = list_any (λ user. test (record { user = user; groups = groups })) users

  -- a directory that some listed user may pass
  unfoldable pub is_passable : Node → Bool
  is_passable n = is_dir n && some_listed (may_pass n)

  -- a node that some listed user may read, write or search
  unfoldable pub is_open : Node → Bool
  is_open n = some_listed (may_use n)

  -- a node that some listed user rules
  unfoldable pub is_owned : Node → Bool
  is_owned n = some_listed (λ who. rules who n)

  -- a directory that some listed user may alter
  unfoldable pub is_alterable : Node → Bool
  is_alterable n = some_listed (may_alter n)
