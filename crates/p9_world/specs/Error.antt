-- The texts of what may be wrong with a line of a world's text.
use Rattle.std.specs.Prelude.{ℕ, List, codes}
use Rattle.p9_world.specs.declared.error.LineFault.{LineFault}
use Rattle.p9_world.specs.declared.error.LineFault.TheVariants.{UnknownWord, WordCount, NoServer}
use Rattle.p9_world.specs.declared.error.LineFault.TheVariants.{BadName, BadPath, BadMode, BadUser}
use Rattle.p9_world.specs.declared.error.LineFault.TheVariants.{BadHex, TooLarge, NoParent}
use Rattle.p9_world.specs.declared.error.LineFault.TheVariants.{Duplicate, TooMany}

-- the text that a report carries
abbrev pub line_fault_text : LineFault → List ℕ
line_fault_text UnknownWord = codes "unknown word"
line_fault_text WordCount = codes "wrong number of words"
line_fault_text NoServer = codes "no server"
line_fault_text BadName = codes "bad name"
line_fault_text BadPath = codes "bad path"
line_fault_text BadMode = codes "bad mode"
line_fault_text BadUser = codes "bad user"
line_fault_text BadHex = codes "bad hex"
line_fault_text TooLarge = codes "file too large"
line_fault_text NoParent = codes "no such directory"
line_fault_text Duplicate = codes "already there"
line_fault_text TooMany = codes "too many"
