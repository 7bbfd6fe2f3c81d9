use Rattle.std.proofs.Common.{sym, ◌∙◌}
use Rattle.p9_world.proofs.Puts.{path-put}
use Rattle.p9_world.proofs.put.put_path.Goals as goal

pub returns : goal.returns
returns g c =
    path-put c.put_names.result c.args.names.now c.args.text.now.items c.push.new.self.items
    c.put_names.new.text.items (sym c.is_empty.ensures ∙ c.if-is_empty.false)
    c.in_ok-push.ensures.items c.put_names.ensures
