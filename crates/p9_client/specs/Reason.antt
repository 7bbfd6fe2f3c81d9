-- Errors of a session.
use Rattle.std.specs.Prelude.{◌≡◌, ℕ, ◌≤◌, Bool, false, true, List, length}
use Rattle.p9_client.specs.declared.error.ClientError.{ClientError}
use Rattle.p9_client.specs.declared.error.ClientError.TheVariants.{Refused, TooLong, Over, Stream}
use Rattle.p9_client.specs.declared.error.ClientError.TheVariants.{BadSize, NoMessage, OtherTag}
use Rattle.p9_client.specs.declared.error.ClientError.TheVariants.{OtherType, Unasked, NoMemory}
use Rattle.p9_client.specs.declared.reason.Reason.{Reason}

-- the most bytes that are kept of a server's text
abbrev pub reason_max : ℕ
reason_max = 255

-- what is kept of a server's text: all of it, where it is short
abbrev pub IsReason : List ℕ → Reason → Type 0
IsReason ename reason = length ename ≤ reason_max → reason.text.bytes ≡ ename

-- a session has failed after this error
abbrev pub ends : ClientError → Bool
ends (Refused reason) = false
ends TooLong = false
ends Over = true
ends (Stream error) = true
ends BadSize = true
ends NoMessage = true
ends OtherTag = true
ends OtherType = true
ends Unasked = true
ends NoMemory = false
