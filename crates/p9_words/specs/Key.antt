-- The words that are before the fields of a message.
use Rattle.std.specs.Prelude.{ℕ, List, codes}
use Rattle.p9_words.specs.declared.key.Key.{Key}
use Rattle.p9_words.specs.declared.key.Key.TheVariants.{Tag, Msize, Version, Afid, Uname, Aname}
use Rattle.p9_words.specs.declared.key.Key.TheVariants.{Fid, Oldtag}
use Rattle.p9_words.specs.declared.key.Key.TheVariants.{Newfid, Nwname, Mode, Name, Perm, Offset}
use Rattle.p9_words.specs.declared.key.Key.TheVariants.{Count, Stat}
use Rattle.p9_words.specs.declared.key.Key.TheVariants.{Qid, Ename, Nwqid, Iounit, StatQid}
use Rattle.p9_words.specs.declared.key.Key.TheVariants.{StatMode, Atime, Mtime}
use Rattle.p9_words.specs.declared.key.Key.TheVariants.{Length, Kind, Dev}

-- the word
abbrev pub key_text : Key → List ℕ
key_text Tag = codes "tag"
key_text Msize = codes "msize"
key_text Version = codes "version"
key_text Afid = codes "afid"
key_text Uname = codes "uname"
key_text Aname = codes "aname"
key_text Fid = codes "fid"
key_text Oldtag = codes "oldtag"
key_text Newfid = codes "newfid"
key_text Nwname = codes "nwname"
key_text Mode = codes "mode"
key_text Name = codes "name"
key_text Perm = codes "perm"
key_text Offset = codes "offset"
key_text Count = codes "count"
key_text Stat = codes "stat"
key_text Qid = codes "qid"
key_text Ename = codes "ename"
key_text Nwqid = codes "nwqid"
key_text Iounit = codes "iounit"
key_text StatQid = codes "q"
key_text StatMode = codes "m"
key_text Atime = codes "at"
key_text Mtime = codes "mt"
key_text Length = codes "l"
key_text Kind = codes "t"
key_text Dev = codes "d"
