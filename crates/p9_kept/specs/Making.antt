-- A forest that is made again from none, server by server and node by node.
use Rattle.std.specs.Prelude.{◌≡◌, ◌⊎◌, ℕ, ◌<◌, List, [], ◌++◌, None, All}
use Rattle.std.specs.Option.{ForSome}
use Rattle.p9_log.specs.declared.crash.Crash.{Crash}
use Rattle.p9_log.specs.declared.crash.Crash.TheVariants.{Killed, Stopped}
use Rattle.p9_log.specs.Blocks.{content_in}
use Rattle.p9_log.specs.Device.{LeavesOnly}
use Rattle.p9_log.specs.Log.{IsAppended, NoMore, Nothing}
use Rattle.p9_tree.specs.Bytes.{cut_to}
use Rattle.p9_tree.specs.Node.{Node, with_bytes}
use Rattle.p9_tree.specs.Server.{Server}
use Rattle.p9_kept.specs.Edits.{IsWhole, stood_for}

-- the records in a draft of a log, and those behind them, are whole and make the forest
pub record Makes (draft noted : List ℕ) (forest : List Server) : Type 0 where
  pub whole : IsWhole (content_in Stopped draft ++ noted)
  pub stood : stood_for (content_in Stopped draft ++ noted) ≡ forest

-- the node with the first of its bytes
abbrev pub with_front : ℕ → Node → Node
with_front n node = with_bytes (cut_to n) node

-- the node may be the next that is put back: its number is above all there, or it is the root
pub record IsNextOf (made : Server) (n : Node) : Type 0 where
  pub past : ForSome n.parent (λ dir. All (λ m. m.number < n.number) made.nodes)
  pub root : n.parent ≡ None → n.bytes ≡ []

-- nothing of a file was changed, and no crash meanwhile has left anything else
pub record IsUntouched {D : Type 0} (seen : D → List ℕ) (moment : D → ℕ)
    (may_leave : D → Crash → List ℕ → Type 0) (left_since : D → Crash → ℕ → List ℕ → Type 0)
    (old new : D) : Type 0 where
  pub same : seen new ≡ seen old
  pub no_more : NoMore (may_leave old) (may_leave new)
  pub any_moment : (how : Crash) → LeavesOnly moment left_since how Nothing old new

-- While what was noted is added to a log in this file and synced, a process that is killed leaves what
-- was there, with all that was noted or without. A machine that stops leaves what was synced before, or
-- all of it.
abbrev pub IsAppendedAndKept : Crash → (file noted : List ℕ) → List ℕ → Type 0
IsAppendedAndKept Killed file noted c = IsAppended Killed file noted c
IsAppendedAndKept Stopped file noted c =
    IsAppended Stopped file noted c ⊎ (content_in Stopped c ≡ content_in Killed file ++ noted)

-- While a journal in this file is renewed, a crash leaves what a settling leaves, or a file that stands
-- for the forest, whichever way it is read.
abbrev pub IsRenewed : Crash → (file noted : List ℕ) → (forest : List Server) → List ℕ → Type 0
IsRenewed how file noted forest c =
    IsAppended how file noted c ⊎ ((next : Crash) → stood_for (content_in next c) ≡ forest)
