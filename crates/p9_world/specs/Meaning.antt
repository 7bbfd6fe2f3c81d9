-- What a line means: a value, or what is wrong with the line.
use Rattle.std.specs.Prelude.{◌≡◌, Result, Ok, Err}
use Rattle.p9_world.specs.declared.error.LineFault.{LineFault}
use Rattle.p9_base.specs.declared.stop.Stop.{Stop}
use Rattle.p9_base.specs.declared.stop.Stop.TheVariants.{Refused, NoMemory}

-- What a function that reads a line has to do: what it makes of the old value is the line's
-- meaning, and at a fault or a failed allocation the value is unchanged.
abbrev pub Makes : {D X : Type 0} → Result X LineFault → X → X → Result D (Stop LineFault) → Type 0
Makes meaning old new (Ok done) = meaning ≡ Ok new
Makes meaning old new (Err (Refused fault)) = (meaning ≡ Err fault) × (new ≡ old)
Makes meaning old new (Err NoMemory) = new ≡ old
