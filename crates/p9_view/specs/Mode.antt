-- Modes, as `ls -l` of Plan 9 prints them.
use Rattle.std.specs.Prelude.{ℕ, Bool, List, [], ◌∷◌, ◌++◌, codes, if◌then◌else◌}
use Rattle.p9_base.specs.declared.mode.Kind.{Kind}
use Rattle.p9_base.specs.declared.mode.Kind.TheVariants.{Directory, File}
use Rattle.p9_base.specs.declared.mode.Mode.{Mode}
use Rattle.p9_base.specs.declared.mode.Rights.{Rights}

-- the letter where the bit is set, and else '-'
abbrev pub letter : Bool → ℕ → ℕ
letter set l = if set then l else 45

-- r, w and x
abbrev pub rights_text : Rights → List ℕ
rights_text r = letter r.read 114 ∷ letter r.write 119 ∷ letter r.execute 120 ∷ []

-- `d` for a directory, `a` for a file that is only appended to, and then `l` for one that is open
-- once at a time
abbrev pub kind_text : Kind → List ℕ
kind_text Directory = codes "d-"
kind_text (File f) = letter f.append_only 97 ∷ letter f.exclusive 108 ∷ []

-- the kind, and the rights of the owner, of the group and of the others
abbrev pub mode_text : Mode → List ℕ
mode_text m =
    kind_text m.kind ++ rights_text m.permissions.owner ++ rights_text m.permissions.group
    ++ rights_text m.permissions.others
