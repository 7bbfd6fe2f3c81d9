-- What an open fid may be used for, as open(5) and read(5).
use Rattle.std.specs.Prelude.{Bool, true, false}
use Rattle.p9_fids.specs.declared.opened.OpenMode.{OpenMode}
use Rattle.p9_fids.specs.declared.opened.OpenMode.TheVariants.{Read, Write, ReadWrite, Execute}

-- what may be executed may be read
abbrev pub reads : OpenMode → Bool
reads Read = true
reads Write = false
reads ReadWrite = true
reads Execute = true

-- what may be executed may not be written
abbrev pub writes : OpenMode → Bool
writes Read = false
writes Write = true
writes ReadWrite = true
writes Execute = false
