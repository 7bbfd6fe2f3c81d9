-- What a wstat touches, as the code has it.
use Rattle.std.specs.Option.{option_copied}
use Rattle.p9_step.specs.Wstat.{Touched}
use Rattle.p9_requests.specs.declared.wstat.Touched.{Touched as TouchedParts}

-- the definition's, of the code's type, whose texts are slices
abbrev pub touched_view : TouchedParts → Touched
touched_view t = record {
  mode = t.mode;
  name = option_copied t.name;
  length = t.length;
  mtime = t.mtime;
  gid = option_copied t.gid;
}
