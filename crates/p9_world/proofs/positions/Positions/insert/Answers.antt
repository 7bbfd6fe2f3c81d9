use Rattle.std.proofs.Common.{◌∙◌, Some, ap, string_bytes}
use Rattle.std.proofs.lemmas.Map.Text.{btree_map_updates_text}
use Rattle.std.specs.Map.{update}
use Rattle.std.specs.Str.{bytes_eq}
use Rattle.p9_world.specs.Positions.{position_at}
use Rattle.p9_world.proofs.positions.Positions.insert.Goals as goal

pub returns-clause-ok : goal.returns-clause-ok
returns-clause-ok g c = λ q.
    btree_map_updates_text (string_bytes c.in_ok-text.text) c.args.self.now.by_text
    c.insert.new.self (Some c.args.position) c.in_ok-insert.ensures.updates q
    ∙ ap (λ bs. update bytes_eq (position_at c.args.self.now) bs (Some c.args.position) q)
    c.in_ok-text.ensures.ok
