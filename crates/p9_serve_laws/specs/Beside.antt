-- Two servers, side by side.
use Rattle.std.specs.Prelude.{◌≡◌, ℕ, [], Option}
use Rattle.std.specs.Option.{option_map}
use Rattle.p9_guard.specs.Guard.{Guarded}
use Rattle.p9_guard_laws.specs.Alike.{AreAlike}
use Rattle.p9_guard_laws.specs.Guarded.{IsGuardedState}
use Rattle.p9_conn.specs.Conn.{Connection}
use Rattle.p9_conn.specs.Turn.{Link}
use Rattle.p9_clients.specs.Serving.{Serving, slot_at}
use Rattle.p9_serve.specs.Rounds.{Running, new_server}

-- the states of two guards differ only inside hidden directories, and the first guard is guarded
pub record AreAlikeGuards (a b : Guarded) : Type 0 where
  pub guarded : IsGuardedState a.hidden a.start a.state
  pub alike : AreAlike a.hidden a.state b.state

-- Over the same streams.

-- two servers whose guards are alike, and which have the same connections at the same keys
pub record AreTwins {S : Type 0} (a b : Serving S) : Type 0 where
  pub guards : AreAlikeGuards a.guard b.guard
  pub slots : b.slots ≡ a.slots

-- and whose rounds so far say the same of when they accept and rest
pub record AreRunningTwins {S : Type 0} (a b : Running S) : Type 0 where
  pub serving : AreTwins a.serving b.serving
  pub pace : b.pace ≡ a.pace

-- Over any streams.

-- a connection without its stream: the name of its session, and what is in its buffers
abbrev pub without_stream : {S : Type 0} → Connection S → ℕ × Link
without_stream conn = (conn.session, conn.link)

-- the connection at a key, without its stream
abbrev pub link_at : {S : Type 0} → Serving S → ℕ → Option (ℕ × Link)
link_at serving key = option_map without_stream (slot_at serving.slots key)

-- two servers whose guards are alike, and which have the same connections at the same keys, but
-- for the streams
pub record AreBeside {S T : Type 0} (a : Serving S) (b : Serving T) : Type 0 where
  pub guards : AreAlikeGuards a.guard b.guard
  pub links : (key : ℕ) → link_at b key ≡ link_at a key

-- and whose rounds so far say the same of when they accept and rest
pub record AreRunningBeside {S T : Type 0} (a : Running S) (b : Running T) : Type 0 where
  pub serving : AreBeside a.serving b.serving
  pub pace : b.pace ≡ a.pace

-- Where they begin.
module _ (S : Type 0) where
  -- new servers over alike guards are twins
  abbrev pub NewServersAreTwins : Type 0
  NewServersAreTwins =
      (a b : Guarded) → AreAlikeGuards a b
      → AreRunningTwins {S = S} (new_server (record { guard = a; slots = [] }))
      (new_server (record { guard = b; slots = [] }))

  -- and twins are side by side
  abbrev pub TwinsAreBeside : Type 0
  TwinsAreBeside = (a b : Running S) → AreRunningTwins a b → AreRunningBeside a b
