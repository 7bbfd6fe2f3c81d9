-- A draft of a log's file.
use Rattle.std.specs.Prelude.{◌≡◌, ◌≤◌, ℕ, ◌+◌, ◌^◌, List, length}
use Rattle.p9_log.specs.declared.crash.Crash.{Crash}
use Rattle.p9_log.specs.declared.crash.Crash.TheVariants.{Stopped}
use Rattle.p9_log.specs.Blocks.{content_in}
use Rattle.p9_log.specs.Rest.{Runs}

-- a draft of so many bytes: blocks with all gates open, which count after each crash
pub record IsDraft (draft : List ℕ) (len : ℕ) : Type 0 where
  pub size : length draft ≡ len
  pub near : len ≤ 2 ^ 61 + 10
  pub blocks : (how : Crash) → Runs how draft (content_in Stopped draft) how
