-- What an exporter keeps of its sessions.
use Rattle.std.specs.Prelude.{ℕ, List}
use Rattle.p9_tree.specs.Server.{Server}
use Rattle.p9_step.specs.Sound.{IsServed}
use Rattle.p9_step.specs.State.{Setting}
use Rattle.p9_walks.specs.Held.{HeldSession, SessionsFit, sessions_in}

-- what is kept of the sessions of an exporter
pub record IsKept (setting : Setting) (forest : List Server) (rows : List (ℕ × HeldSession))
    : Type 0 where
  pub served : IsServed setting forest (sessions_in rows)
  pub channels : SessionsFit setting.table rows
