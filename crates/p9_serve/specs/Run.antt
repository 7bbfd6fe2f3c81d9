-- How the serving of an input ends.
use Rattle.std.specs.Prelude.{◌≡◌, ℕ, ◌/◌, ◌%◌, ◌^◌, ◌⊎◌, List, [], ◌++◌, Option, Some, None}
use Rattle.std.specs.Prelude.{codes, take}
use Rattle.std.specs.Io.KnownBytes.{Appends}
use Rattle.std.specs.Net.Text.{socket_text}
use Rattle.std.specs.declared.io.ErrorKind.{ErrorKind}
use Rattle.std.specs.declared.io.ErrorKind.TheVariants.{OutOfMemory}
use Rattle.std.specs.declared.net.socket_addr.SocketAddr.{SocketAddr}
use Rattle.std.specs.declared.alloc.Global.{Global}
use Rattle.mio.specs.declared.net.stream.TcpStream.{TcpStream}
use Rattle.p9_guard.specs.Guard.{Guarded}
use Rattle.p9_commands.specs.Offer.{Offered, Serves}
use Rattle.p9_serve.specs.Rounds.{untold}
use Rattle.p9_serve.specs.Served.{WasServed, WasServedTo}
use Rattle.p9_serve.specs.declared.socket.Socket.{Socket}

-- what the clock reads so many nanoseconds after 1970 began: whole seconds, modulo 2^32
abbrev pub reading : (nanoseconds : ℕ) → ℕ
reading nanoseconds = nanoseconds / 1_000_000_000 % 2 ^ 32

-- the line with the address that is served
abbrev pub listening : SocketAddr → List ℕ
listening address = codes "listening " ++ socket_text address ++ codes "\n"

-- what is reported of an input, and the guard that it offers, if it offers one
pub record IsOffer (offered : Offered) (before after : Option (List ℕ)) (guard : Option Guarded)
    : Type 0 where
  pub reports : List ℕ
  pub serves : Serves offered [] reports guard
  pub errors : Appends before after reports

-- the bytes of the two writers and the readings of the clock, before and after, where they are
-- known
pub record Known : Type 0 where
  pub out_before : Option (List ℕ)
  pub out : Option (List ℕ)
  pub err_before : Option (List ℕ)
  pub err : Option (List ℕ)
  pub clock_before : Option (List ℕ)
  pub clock : Option (List ℕ)

-- the socket of a client
abbrev pub ClientSocket : Type 0
ClientSocket = Socket TcpStream Global

-- the guard of what the input offers was served at some address for so many rounds, and this guard
-- is left: the address is printed, and what failed in the namespace file is reported
pub record IsServed (offered : Offered) (rounds : ℕ) (w : Known) (left : Guarded) : Type 0 where
  pub guard : Guarded
  pub reports : List ℕ
  pub serves : Serves offered [] reports (Some guard)
  pub address : SocketAddr
  pub errors : Appends w.err_before w.err reports
  pub output : Appends w.out_before w.out (listening address)
  pub served : WasServed {S = ClientSocket} untold untold guard rounds w.clock_before w.clock left

-- there is a reason against that, and it is reported
pub record IsRefused (offered : Offered) (w : Known) : Type 0 where
  pub reports : List ℕ
  pub serves : Serves offered [] reports None
  pub errors : Appends w.err_before w.err reports
  pub output : w.out ≡ w.out_before

-- the guard that was served is given back as it is left, or none where there is nothing to serve
abbrev pub GivesBack : Offered → (rounds : ℕ) → Known → Option Guarded → Type 0
GivesBack offered rounds w (Some left) = IsServed offered rounds w left
GivesBack offered rounds w None = IsRefused offered w

-- the exit status of serving and of a refusal
abbrev pub Served : Offered → (rounds : ℕ) → Known → (status : ℕ) → Type 0
Served offered rounds w status =
    ((status ≡ 0) × (left : Guarded) × IsServed offered rounds w left)
    ⊎ ((status ≡ 1) × IsRefused offered w)

-- a text was written, or a front of it
abbrev pub AppendsFront : Option (List ℕ) → Option (List ℕ) → List ℕ → Type 0
AppendsFront old new text = (count : ℕ) × Appends old new (take count text)

-- what is reported of an input, or nothing
abbrev pub AreReports : Offered → List ℕ → Type 0
AreReports offered reports =
    (reports ≡ []) ⊎ ((guard : Option Guarded) × Serves offered [] reports guard)

-- no more was reported than a front of that
pub record IsCutShort (offered : Offered) (before after : Option (List ℕ)) : Type 0 where
  pub reports : List ℕ
  pub are_reports : AreReports offered reports
  pub errors : AppendsFront before after reports

-- serving broke off: there is a front of the reports, and a front of the line with an address
pub record BreaksOff (offered : Offered) (w : Known) : Type 0 where
  pub reports : List ℕ
  pub are_reports : AreReports offered reports
  pub address : SocketAddr
  pub errors : AppendsFront w.err_before w.err reports
  pub output : AppendsFront w.out_before w.out (listening address)

-- To clients that come to any listener, over streams whose bytes may be known.
module _ {S : Type 0} (remaining contents : S → Option (List ℕ)) where
  -- the guard of what the input offers was served to those of these clients that came, for so many
  -- rounds, and this guard is left; what failed in the namespace file is reported
  pub record IsServedTo (coming : Option (List S)) (offered : Offered) (rounds : ℕ) (w : Known)
      (left : Guarded) : Type 0 where
    pub guard : Guarded
    pub offer : IsOffer offered w.err_before w.err (Some guard)
    pub served : WasServedTo remaining contents coming guard rounds w.clock_before w.clock left

  -- the guard that was served is given back as it is left, or none where there is nothing to serve
  abbrev pub GivesBackTo : Option (List S) → Offered → (rounds : ℕ) → Known → Option Guarded
      → Type 0
  GivesBackTo coming offered rounds w (Some left) = IsServedTo coming offered rounds w left
  GivesBackTo coming offered rounds w None = IsOffer offered w.err_before w.err None

-- the exit status of a failure: an allocation failed, or the system
abbrev pub failure_status : ErrorKind → ℕ
failure_status OutOfMemory = 3
failure_status kind = 4

-- the text that reports it
abbrev pub failure_text : ErrorKind → List ℕ
failure_text OutOfMemory = codes "out of memory\n"
failure_text kind = codes "input or output failed\n"

-- serving broke off for a failure, and a front of its text is after what was reported
pub record HasFailed (offered : Offered) (w : Known) (status : ℕ) : Type 0 where
  pub kind : ErrorKind
  pub status_is : status ≡ failure_status kind
  pub between : Option (List ℕ)
  pub broken : BreaksOff offered (record w { err = between })
  pub text : AppendsFront between w.err (failure_text kind)

-- a serving of what an input offers, a refusal of it, or a failure
abbrev pub Ends : Offered → (rounds : ℕ) → Known → (status : ℕ) → Type 0
Ends offered rounds w status = HasFailed offered w status ⊎ Served offered rounds w status
