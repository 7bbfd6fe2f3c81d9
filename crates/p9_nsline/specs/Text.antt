-- The texts of what is reported of a namespace file.
use Rattle.std.specs.Prelude.{ℕ, List, codes}
use Rattle.p9_base.specs.Fault.{text_of as walk_text}
use Rattle.p9_nsline.specs.declared.error.BadForm.{BadForm}
use Rattle.p9_nsline.specs.declared.error.BadForm.TheVariants.{UnknownWord, WordCount, BadFlag}
use Rattle.p9_nsline.specs.declared.fault.OpFault.{OpFault}
use Rattle.p9_nsline.specs.declared.fault.OpFault.TheVariants.{Path, UnknownServer, KindMismatch}
use Rattle.p9_nsline.specs.declared.fault.OpFault.TheVariants.{NotMounted, NotMember, SpecGiven}
use Rattle.p9_nsline.specs.declared.fault.OpFault.TheVariants.{NotOffered, BadInclude, TooDeep}

-- of a line of bad form
abbrev pub form_text : BadForm → List ℕ
form_text UnknownWord = codes "unknown word"
form_text WordCount = codes "wrong number of words"
form_text BadFlag = codes "bad flag"

-- of an operation that fails
abbrev pub fault_text : OpFault → List ℕ
fault_text (Path fault) = walk_text fault
fault_text UnknownServer = codes "unknown server"
fault_text KindMismatch = codes "inconsistent mount"
fault_text NotMounted = codes "not mounted"
fault_text NotMember = codes "not in the union"
fault_text SpecGiven = codes "spec not offered"
fault_text NotOffered = codes "not offered"
fault_text BadInclude = codes "bad included file"
fault_text TooDeep = codes "nested too deep"
