use Rattle.std.proofs.Common.{take}
use Rattle.std.specs.List.{AllByRecursion}
use Rattle.p9_wire.specs.Fields.{FitsText}
use Rattle.p9_wire.proofs.fits.names_fit.Given as goal

abbrev pub invariant-loop-name : goal.invariant-loop-name
invariant-loop-name l = AllByRecursion FitsText (take l.name-index l.names)
