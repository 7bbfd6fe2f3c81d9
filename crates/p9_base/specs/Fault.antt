-- The faults: for each its number and the text that a reply carries.
use Rattle.std.specs.Prelude.{ℕ, List, codes}
use Rattle.p9_base.specs.declared.fault.Fault.{Fault}
use Rattle.p9_base.specs.declared.fault.Fault.TheVariants.{Malformed, VersionNotSet, SmallMsize}
use Rattle.p9_base.specs.declared.fault.Fault.TheVariants.{NoAuthentication, UnknownUser}
use Rattle.p9_base.specs.declared.fault.Fault.TheVariants.{UnknownAttachName, UnknownFid, FidInUse}
use Rattle.p9_base.specs.declared.fault.Fault.TheVariants.{FidOpen, FidNotOpen, NotDirectory}
use Rattle.p9_base.specs.declared.fault.Fault.TheVariants.{NotFound, PermissionDenied, PhaseError}
use Rattle.p9_base.specs.declared.fault.Fault.TheVariants.{BadOpenMode, IsDirectory, ExclusiveUse}
use Rattle.p9_base.specs.declared.fault.Fault.TheVariants.{BadFileName, FileExists}
use Rattle.p9_base.specs.declared.fault.Fault.TheVariants.{CreationForbidden, BadDirectoryOffset}
use Rattle.p9_base.specs.declared.fault.Fault.TheVariants.{SmallReadCount, FileTooLarge, NotEmpty}
use Rattle.p9_base.specs.declared.fault.Fault.TheVariants.{IsRoot, FixedField, TooManyFids}
use Rattle.p9_base.specs.declared.fault.Fault.TheVariants.{QidsUsedUp, OutOfMemory, PathTooDeep}

-- the most bytes of a fault's text
abbrev pub fault_text_max : ℕ
fault_text_max = 34

-- the number and the text of each
abbrev pub fault_row : Fault → ℕ × List ℕ
fault_row Malformed = (1, codes "malformed message")
fault_row VersionNotSet = (2, codes "version not set")
fault_row SmallMsize = (3, codes "msize too small")
fault_row NoAuthentication = (4, codes "authentication not required")
fault_row UnknownUser = (5, codes "unknown user")
fault_row UnknownAttachName = (6, codes "unknown attach name")
fault_row UnknownFid = (7, codes "unknown fid")
fault_row FidInUse = (8, codes "fid in use")
fault_row FidOpen = (9, codes "fid already open")
fault_row FidNotOpen = (10, codes "fid not open for this")
fault_row NotDirectory = (11, codes "not a directory")
fault_row NotFound = (12, codes "file does not exist")
fault_row PermissionDenied = (13, codes "permission denied")
fault_row PhaseError = (14, codes "phase error")
fault_row BadOpenMode = (15, codes "bad open mode")
fault_row IsDirectory = (16, codes "is a directory")
fault_row ExclusiveUse = (17, codes "exclusive use file already open")
fault_row BadFileName = (18, codes "bad file name")
fault_row FileExists = (19, codes "file already exists")
fault_row CreationForbidden = (20, codes "mounted directory forbids creation")
fault_row BadDirectoryOffset = (21, codes "bad directory offset")
fault_row SmallReadCount = (22, codes "read count too small")
fault_row FileTooLarge = (23, codes "file too large")
fault_row NotEmpty = (24, codes "directory not empty")
fault_row IsRoot = (25, codes "root can't be removed or renamed")
fault_row FixedField = (26, codes "wstat of a fixed field")
fault_row TooManyFids = (27, codes "too many fids")
fault_row QidsUsedUp = (28, codes "qid numbers used up")
fault_row OutOfMemory = (29, codes "out of memory")
fault_row PathTooDeep = (30, codes "path too deep")

-- the number of a fault
abbrev pub fault_number : Fault → ℕ
fault_number fault = (fault_row fault).0

-- the text of a fault
abbrev pub text_of : Fault → List ℕ
text_of fault = (fault_row fault).1
