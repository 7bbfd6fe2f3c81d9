-- The bad lines of a text that is read on.
use Rattle.std.proofs.Common.{◌≡◌, ℕ, ◌<◌, ◌≤◌, List, [], ◌∷◌, ◌++◌, Result, Err, drop, length, map}
use Rattle.std.proofs.Common.{option_map, refl, slice_get, sym, ◌∙◌}
use Rattle.std.specs.Result.{result_err}
use Rattle.p9_base.specs.Results.{try_fold}
use Rattle.p9_base.specs.Statement.{statements_of}
use Rattle.p9_world.specs.declared.error.LineFault.{LineFault}
use Rattle.p9_world.specs.declared.error.LineFault.TheVariants.{NoServer}
use Rattle.p9_world.specs.declared.faults.BadLine.{BadLine}
use Rattle.p9_world.specs.Faults.{fault_view}
use Rattle.p9_world.specs.Read.{read_statement, world_of}
use Rattle.p9_world.specs.World.{World, empty_world}
use Rattle.p9_world.proofs.Readings.{world_of-err, world_of-none, world_of-ok}

-- Bad lines that were found so far, with what the statements that are left make of the world, and what
-- all of them make: the same, or the first bad line.
abbrev pub AreFound : List BadLine → (left all : Result World (ℕ × LineFault)) → Type 0
AreFound [] left all = left ≡ all
AreFound (bad ∷ bads) left all = all ≡ Err (fault_view bad)

-- a statement that is good
pub AreFound-good : (found : List BadLine) (left next all : Result World (ℕ × LineFault))
    → AreFound found left all → next ≡ left → AreFound found next all
AreFound-good [] left next all kept same = same ∙ kept
AreFound-good (bad ∷ bads) left next all kept same = kept

-- one that is bad
pub AreFound-bad : (found : List BadLine) (bad : BadLine) (left next all : Result World (ℕ × LineFault))
    → AreFound found left all → left ≡ Err (fault_view bad) → AreFound (found ++ bad ∷ []) next all
AreFound-bad [] bad left next all kept refused = sym kept ∙ refused
AreFound-bad (first ∷ others) bad left next all kept refused = kept

-- a text of which all statements are read
module _ {X : Type 0} (view : X → ℕ × List (List ℕ)) (items : List X) (text : List ℕ)
    (same : map view items ≡ statements_of text) (w : World) (i : ℕ) (all : length items ≤ i) where
  -- what was found, with what is left and what all come to
  abbrev Kept : List BadLine → Type 0
  Kept found =
      AreFound found (try_fold read_statement w (drop i (statements_of text)))
      (try_fold read_statement empty_world (statements_of text))

  -- they make a world with a server
  pub first-with_server : (found : List BadLine) → Kept found → 0 < length w.servers
      → option_map fault_view (slice_get found 0) ≡ result_err (world_of text)
  first-with_server [] kept some = rw (world_of-ok view items text same w i all kept some) refl
  first-with_server (bad ∷ bads) kept some = rw (world_of-err text (fault_view bad) kept) refl

  -- they make no server
  pub first-with_none : (found : List BadLine) (none : BadLine) → Kept found
      → length w.servers ≡ 0 → fault_view none ≡ (0, NoServer)
      → option_map fault_view (slice_get (found ++ none ∷ []) 0) ≡ result_err (world_of text)
  first-with_none [] none kept empty is =
      rw (world_of-none view items text same w i all kept empty, is) refl
  first-with_none (bad ∷ bads) none kept empty is =
      rw (world_of-err text (fault_view bad) kept) refl
