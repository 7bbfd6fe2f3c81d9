-- The texts of the faults.
use Rattle.std.proofs.Common.{◌≡◌, true, refl}
use Rattle.p9_base.proofs.Texts.{is_text-ascii}
use Rattle.p9_base.specs.Text.{is_text}
use Rattle.p9_base.specs.Fault.{text_of}
use Rattle.p9_base.specs.declared.fault.Fault.{Fault}
use Rattle.p9_base.specs.declared.fault.Fault.TheVariants.{Malformed, VersionNotSet, SmallMsize}
use Rattle.p9_base.specs.declared.fault.Fault.TheVariants.{NoAuthentication, UnknownUser}
use Rattle.p9_base.specs.declared.fault.Fault.TheVariants.{UnknownAttachName, UnknownFid, FidInUse}
use Rattle.p9_base.specs.declared.fault.Fault.TheVariants.{FidOpen, FidNotOpen, NotDirectory}
use Rattle.p9_base.specs.declared.fault.Fault.TheVariants.{NotFound, PermissionDenied, PhaseError}
use Rattle.p9_base.specs.declared.fault.Fault.TheVariants.{BadOpenMode, IsDirectory, ExclusiveUse}
use Rattle.p9_base.specs.declared.fault.Fault.TheVariants.{BadFileName, FileExists}
use Rattle.p9_base.specs.declared.fault.Fault.TheVariants.{CreationForbidden, BadDirectoryOffset}
use Rattle.p9_base.specs.declared.fault.Fault.TheVariants.{SmallReadCount, FileTooLarge, NotEmpty}
use Rattle.p9_base.specs.declared.fault.Fault.TheVariants.{IsRoot, FixedField, TooManyFids}
use Rattle.p9_base.specs.declared.fault.Fault.TheVariants.{QidsUsedUp, OutOfMemory, PathTooDeep}

-- each is a text
pub fault_text_is_text : (fault : Fault) → is_text (text_of fault) ≡ true
fault_text_is_text Malformed = is_text-ascii (text_of Malformed) refl refl
fault_text_is_text VersionNotSet = is_text-ascii (text_of VersionNotSet) refl refl
fault_text_is_text SmallMsize = is_text-ascii (text_of SmallMsize) refl refl
fault_text_is_text NoAuthentication = is_text-ascii (text_of NoAuthentication) refl refl
fault_text_is_text UnknownUser = is_text-ascii (text_of UnknownUser) refl refl
fault_text_is_text UnknownAttachName = is_text-ascii (text_of UnknownAttachName) refl refl
fault_text_is_text UnknownFid = is_text-ascii (text_of UnknownFid) refl refl
fault_text_is_text FidInUse = is_text-ascii (text_of FidInUse) refl refl
fault_text_is_text FidOpen = is_text-ascii (text_of FidOpen) refl refl
fault_text_is_text FidNotOpen = is_text-ascii (text_of FidNotOpen) refl refl
fault_text_is_text NotDirectory = is_text-ascii (text_of NotDirectory) refl refl
fault_text_is_text NotFound = is_text-ascii (text_of NotFound) refl refl
fault_text_is_text PermissionDenied = is_text-ascii (text_of PermissionDenied) refl refl
fault_text_is_text PhaseError = is_text-ascii (text_of PhaseError) refl refl
fault_text_is_text BadOpenMode = is_text-ascii (text_of BadOpenMode) refl refl
fault_text_is_text IsDirectory = is_text-ascii (text_of IsDirectory) refl refl
fault_text_is_text ExclusiveUse = is_text-ascii (text_of ExclusiveUse) refl refl
fault_text_is_text BadFileName = is_text-ascii (text_of BadFileName) refl refl
fault_text_is_text FileExists = is_text-ascii (text_of FileExists) refl refl
fault_text_is_text CreationForbidden = is_text-ascii (text_of CreationForbidden) refl refl
fault_text_is_text BadDirectoryOffset = is_text-ascii (text_of BadDirectoryOffset) refl refl
fault_text_is_text SmallReadCount = is_text-ascii (text_of SmallReadCount) refl refl
fault_text_is_text FileTooLarge = is_text-ascii (text_of FileTooLarge) refl refl
fault_text_is_text NotEmpty = is_text-ascii (text_of NotEmpty) refl refl
fault_text_is_text IsRoot = is_text-ascii (text_of IsRoot) refl refl
fault_text_is_text FixedField = is_text-ascii (text_of FixedField) refl refl
fault_text_is_text TooManyFids = is_text-ascii (text_of TooManyFids) refl refl
fault_text_is_text QidsUsedUp = is_text-ascii (text_of QidsUsedUp) refl refl
fault_text_is_text OutOfMemory = is_text-ascii (text_of OutOfMemory) refl refl
fault_text_is_text PathTooDeep = is_text-ascii (text_of PathTooDeep) refl refl
