-- Who may do what, as intro(5) has it.
use Rattle.std.specs.Prelude.{◌&&◌, ◌||◌, Bool, not}
use Rattle.p9_base.specs.declared.mode.Rights.{Rights}
use Rattle.p9_base.specs.declared.mode.Permissions.{Permissions}

-- what either gives
abbrev pub rights_or : Rights → Rights → Rights
rights_or a b = record {
  read = a.read || b.read;
  write = a.write || b.write;
  execute = a.execute || b.execute;
}

-- each wanted right is given
abbrev pub rights_cover : (given wanted : Rights) → Bool
rights_cover given wanted =
    (given.read || not wanted.read) && (given.write || not wanted.write)
    && (given.execute || not wanted.execute)

-- a right is given by the owner's bits to the owner, by the group's to its members, by the others'
-- to everybody
abbrev pub has_right : (Rights → Bool) → Permissions → (owner member : Bool) → Bool
has_right right p owner member =
    (owner && right p.owner) || ((member && right p.group) || right p.others)

-- each right that is wanted is given, by whichever class
abbrev pub is_granted : Permissions → (owner member : Bool) → Rights → Bool
is_granted p owner member wanted =
    (has_right (λ r. r.read) p owner member || not wanted.read)
    && (has_right (λ r. r.write) p owner member || not wanted.write)
    && (has_right (λ r. r.execute) p owner member || not wanted.execute)
