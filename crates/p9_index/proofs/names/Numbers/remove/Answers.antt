use Rattle.std.proofs.Common.{None, refl}
use Rattle.p9_index.proofs.Shorts.{renumbers-long, renumbers-short}
use Rattle.p9_index.proofs.names.Numbers.remove.Goals as goal

pub returns-in-Some : goal.returns-in-Some
returns-in-Some g c =
    renumbers-short c.args.self.now (record { short = c.remove.new.self; long = c.args.self.now.long })
    c.args.entry.now None c.in-Some.short c.in-Some.ensures.some c.in-Some.ensures.short
    c.remove.ensures.updates refl

pub returns-in-None : goal.returns-in-None
returns-in-None g c =
    renumbers-long c.args.self.now
    (record { short = c.args.self.now.short; long = c.remove-in-None.new.self }) c.args.entry.now
    None c.in-None.ensures.none c.remove-in-None.ensures.updates refl
