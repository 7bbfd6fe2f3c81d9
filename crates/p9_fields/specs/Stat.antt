-- What is told of a file, apart from where its bytes lie.
use Rattle.std.specs.Prelude.{ℕ, List}
use Rattle.p9_base.specs.declared.qid.Qid.{Qid}
use Rattle.p9_fields.specs.declared.stat.Stat.{Stat}

-- what is told of a file
pub record StatFields : Type 0 where
  pub kind : ℕ
  pub dev : ℕ
  pub qid : Qid
  pub mode : ℕ
  pub atime : ℕ
  pub mtime : ℕ
  pub length : ℕ
  pub name : List ℕ
  pub uid : List ℕ
  pub gid : List ℕ
  pub muid : List ℕ

-- the same of the code's type, whose texts are slices
abbrev pub stat_view : Stat → StatFields
stat_view s = record {
  kind = s.kind;
  dev = s.dev;
  qid = s.qid;
  mode = s.mode;
  atime = s.atime;
  mtime = s.mtime;
  length = s.length;
  name = s.name.now;
  uid = s.uid.now;
  gid = s.gid.now;
  muid = s.muid.now;
}
