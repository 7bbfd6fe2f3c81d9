-- The parts of a stat that was read.
use Rattle.std.specs.Prelude.{ℕ, List, ◌++◌}
use Rattle.p9_wire.specs.Fields.{number, text, qid_bytes}
use Rattle.p9_wire.specs.Stat.{StatFields}
use Rattle.p9_words.specs.declared.stat.Parts.{Parts}

-- the fields of the stat
abbrev pub parts_view : {A : Type 0} → Parts A → StatFields
parts_view p = record {
  kind = p.kind;
  dev = p.dev;
  qid = p.qid;
  mode = p.mode;
  atime = p.atime;
  mtime = p.mtime;
  length = p.length;
  name = p.name.items;
  uid = p.uid.items;
  gid = p.gid.items;
  muid = p.muid.items;
}

-- the bytes of its numbers, in the order of a stat
abbrev pub stat_numbers : StatFields → List ℕ
stat_numbers s =
    number 2 s.kind ++ number 4 s.dev ++ qid_bytes s.qid ++ number 4 s.mode
    ++ number 4 s.atime ++ number 4 s.mtime ++ number 8 s.length

-- and those of its texts
abbrev pub stat_texts : StatFields → List ℕ
stat_texts s = text s.name ++ text s.uid ++ text s.gid ++ text s.muid
