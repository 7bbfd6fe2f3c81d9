-- The mode that a new file gets: open(5).
use Rattle.std.specs.Prelude.{◌&&◌, if◌then◌else◌}
use Rattle.p9_base.specs.declared.mode.Mode.{Mode}
use Rattle.p9_base.specs.declared.mode.Permissions.{Permissions}
use Rattle.p9_base.specs.declared.mode.Rights.{Rights}
use Rattle.p9_base.specs.Mode.{is_dir as is_dir_mode}

-- a right to read or write is given only where the directory gives it; to execute, in a file, as
-- asked
abbrev pub file_rights : (dir asked : Rights) → Rights
file_rights dir asked = record {
  read = asked.read && dir.read;
  write = asked.write && dir.write;
  execute = asked.execute;
}

-- in a directory each right only where the directory around gives it
abbrev pub dir_rights : (dir asked : Rights) → Rights
dir_rights dir asked = record {
  read = asked.read && dir.read;
  write = asked.write && dir.write;
  execute = asked.execute && dir.execute;
}

-- the same in each class
abbrev pub in_each : (Rights → Rights → Rights) → (dir asked : Permissions) → Permissions
in_each f dir asked = record {
  owner = f dir.owner asked.owner;
  group = f dir.group asked.group;
  others = f dir.others asked.others;
}

-- the mode that a new node gets in a directory of these permissions
abbrev pub inherited : Permissions → Mode → Mode
inherited dir asked = record asked {
  permissions =
      in_each (if is_dir_mode asked then dir_rights else file_rights) dir asked.permissions;
}
