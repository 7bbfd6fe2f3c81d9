use Rattle.std.proofs.Common.{Some, refl}
use Rattle.p9_index.proofs.Shorts.{renumbers-long, renumbers-short}
use Rattle.p9_index.proofs.names.Numbers.insert.Goals as goal

pub returns-in_ok-insert-in-Some-clause-ok : goal.returns-in_ok-insert-in-Some-clause-ok
returns-in_ok-insert-in-Some-clause-ok g c =
    renumbers-short c.args.self.now (record { short = c.insert.new.self; long = c.args.self.now.long })
    c.args.entry (Some c.args.number) c.in-Some.short c.in-Some.ensures.some c.in-Some.ensures.short
    c.in_ok-insert-in-Some.ensures.updates refl

pub returns-in_ok-insert-in-None-clause-ok : goal.returns-in_ok-insert-in-None-clause-ok
returns-in_ok-insert-in-None-clause-ok g c =
    renumbers-long c.args.self.now
    (record { short = c.args.self.now.short; long = c.insert-in-None.new.self }) c.args.entry
    (Some c.args.number) c.in-None.ensures.none c.in_ok-insert-in-None.ensures.updates refl
