-- The world of a text has a server.
use Rattle.std.proofs.Common.{◌≡◌, ℕ, ◌<◌, Bool, true, false, List, Result, Ok, Err, length, refl}
use Rattle.std.proofs.Common.{subst, arith}
use Rattle.std.specs.Prelude.{if◌then◌else◌, nat_lt}
use Rattle.std.proofs.lemmas.Bool.Decides.{nat_tests}
use Rattle.p9_base.specs.Statement.{statements_of}
use Rattle.p9_base.specs.Results.{and_then, need, try_fold}
use Rattle.p9_world.specs.declared.error.LineFault.{LineFault}
use Rattle.p9_world.specs.declared.error.LineFault.TheVariants.{NoServer}
use Rattle.p9_world.specs.Read.{read_statement, with_a_server, world_of}
use Rattle.p9_world.specs.World.{World, empty_world}

-- a text that makes no server
no_server : Result World (ℕ × LineFault)
no_server = Err (0, NoServer)

-- what the lines made is a world only where it has a server
made-some : (made : Result World (ℕ × LineFault)) (world : World)
    → and_then made with_a_server ≡ Ok world → 0 < length world.servers
unfolding no_server need
made-some (Err bad) world is = absurd (cc)
made-some (Ok made) world is = by (nat_lt 0 (length made.servers)) refl is
  where
    by : (b : Bool) → nat_lt 0 (length made.servers) ≡ b
        → (if b then Ok made else no_server) ≡ Ok world → 0 < length world.servers
    by true there same =
        let one : made ≡ world = cc in
        let some : 0 < length made.servers = grind (arith, nat_tests) in
        subst (λ w. 0 < length w.servers) one some
    by false there none = absurd (cc)

-- the world of a text has a server
pub world_of-some : (text : List ℕ) (world : World) → world_of text ≡ Ok world
    → 0 < length world.servers
unfolding world_of
world_of-some text world is =
    made-some (try_fold read_statement empty_world (statements_of text)) world is
