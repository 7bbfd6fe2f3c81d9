use Rattle.p9_world.proofs.Names.{last_and_rest-pop}
use Rattle.p9_world.proofs.path.take_last.Goals as goal

pub returns : goal.returns
returns g c =
    last_and_rest-pop c.pop.result c.args.names.now.items c.pop.new.self.items c.args.names.now.len
    c.pop.ensures.items c.args.names.now.ok.0 c.pop.ensures.variant
