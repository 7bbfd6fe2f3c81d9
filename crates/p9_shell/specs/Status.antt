-- How a program fails, and its exit statuses.
use Rattle.std.specs.Prelude.{ℕ}
use Rattle.std.specs.declared.io.ErrorKind.{ErrorKind}
use Rattle.std.specs.declared.io.ErrorKind.TheVariants.{OutOfMemory}
use Rattle.p9_shell.specs.declared.failure.Failure.{Failure}
use Rattle.p9_shell.specs.declared.failure.Failure.TheVariants.{Refused, BadWords, NoMemory, Failed}

-- the exit status of a program that ends before its work is done
abbrev pub status_of : Failure → ℕ
status_of Refused = 1
status_of BadWords = 2
status_of NoMemory = 3
status_of Failed = 4

-- how a program fails where there is an error of this kind
abbrev pub failure_of : ErrorKind → Failure
failure_of OutOfMemory = NoMemory
failure_of kind = Failed
