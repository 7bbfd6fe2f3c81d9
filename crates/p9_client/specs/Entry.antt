-- What a server reports of a file, and the stats of a directory's contents.
use Rattle.std.specs.Prelude.{◌≡◌, ℕ, List, Option, None, Some}
use Rattle.std.specs.String.{string_bytes}
use Rattle.p9_wire.specs.Fields.{FitsStat, StatNumbersFit, stat_bytes}
use Rattle.p9_wire.specs.Stat.{StatFields}
use Rattle.p9_wire.specs.Message.{RMessage, Rstat}
use Rattle.p9_client.specs.declared.entry.Entry.{Entry}

-- the stat that an entry is
abbrev pub entry_view : {A : Type 0} → Entry A → StatFields
entry_view entry = record {
  kind = entry.kind;
  dev = entry.dev;
  qid = entry.qid;
  mode = entry.mode;
  atime = entry.atime;
  mtime = entry.mtime;
  length = entry.length;
  name = string_bytes entry.name;
  uid = string_bytes entry.uid;
  gid = string_bytes entry.gid;
  muid = string_bytes entry.muid;
}

-- a reply to a stat has this entry
abbrev pub IsStat : {A : Type 0} → RMessage → Entry A → Type 0
IsStat m entry = m ≡ Rstat (entry_view entry)

-- an entry is the stat that these bytes are, or they are no stat
abbrev pub IsEntryOf : {A : Type 0} → List ℕ → Option (Entry A) → Type 0
IsEntryOf bytes None = (s : StatFields) → StatNumbersFit s → FitsStat s → stat_bytes s ≡ bytes → ⊥
IsEntryOf bytes (Some entry) = stat_bytes (entry_view entry) ≡ bytes
