-- The world of a text, once its statements are read.
use Rattle.std.proofs.Common.{◌≡◌, ℕ, ◌<◌, ◌≤◌, List, length, drop, map, Result, Ok, Err, refl, sym}
use Rattle.std.proofs.Common.{Bool, arith, false, true, ◌==◌, ◌∙◌}
use Rattle.std.proofs.lemmas.Bool.{lt-ltb}
use Rattle.std.proofs.lemmas.Bool.Decides.{nat_tests}
use Rattle.p9_base.specs.Statement.{statements_of}
use Rattle.p9_base.specs.Results.{need, try_fold}
use Rattle.p9_base.proofs.Results.{try_fold-end}
use Rattle.p9_world.specs.declared.error.LineFault.{LineFault}
use Rattle.p9_world.specs.declared.error.LineFault.TheVariants.{NoServer}
use Rattle.p9_world.specs.declared.error.WorldError.{WorldError}
use Rattle.p9_world.specs.declared.error.WorldError.TheVariants.{BadWorld, NoMemory}
use Rattle.p9_world.specs.Read.{Tells, read_statement, world_of}
use Rattle.p9_world.specs.World.{World, empty_world}

-- a text of which all statements are read
module _ {X : Type 0} (view : X → ℕ × List (List ℕ)) (items : List X) (text : List ℕ)
    (same : map view items ≡ statements_of text) (w : World) (i : ℕ) (all : length items ≤ i)
    (kept : try_fold read_statement w (drop i (statements_of text))
    ≡ try_fold read_statement empty_world (statements_of text)) where
  made : try_fold read_statement empty_world (statements_of text) ≡ Ok w
  made = sym kept ∙ try_fold-end read_statement view items (statements_of text) same w i all

  -- they make a world with a server
  pub world_of-ok : 0 < length w.servers → world_of text ≡ Ok w
  unfolding world_of need
  world_of-ok some =
      let test = lt-ltb 0 (length w.servers) some in
      rw (made, test) refl

  -- they make no server
  pub world_of-none : length w.servers ≡ 0 → world_of text ≡ Err (0, NoServer)
  unfolding world_of need
  world_of-none none = rw (made, none) refl

-- a text with a bad statement
pub world_of-err : (text : List ℕ) (e : ℕ × LineFault)
    → try_fold read_statement empty_world (statements_of text) ≡ Err e → world_of text ≡ Err e
unfolding world_of
world_of-err text e bad = rw bad refl

-- what is reported of a statement is reported of the text, if that comes to it
pub Tells-world_of : (error : WorldError) (text : List ℕ) (step : Result World (ℕ × LineFault))
    → Tells error step
    → ((e : ℕ × LineFault) → step ≡ Err e
    → try_fold read_statement empty_world (statements_of text) ≡ Err e)
    → Tells error (world_of text)
Tells-world_of (BadWorld line kind) text step told comes =
    world_of-err text (line, kind) (comes (line, kind) told)
Tells-world_of NoMemory text step told comes = tt

-- a test of emptiness that holds
pub is-zero : (tested : Bool) (n : ℕ) → tested ≡ (n == 0) → tested ≡ true → n ≡ 0
is-zero tested n is holds = grind (arith, nat_tests)

-- one that doesn't hold
pub is-positive : (tested : Bool) (n : ℕ) → tested ≡ (n == 0) → tested ≡ false → 0 < n
is-positive tested n is fails = grind (arith, nat_tests)
