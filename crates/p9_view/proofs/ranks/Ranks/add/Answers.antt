use Rattle.std.proofs.Common.{◌≡◌, None, Some, sym, ◌∙◌}
use Rattle.p9_view.proofs.Ranked.{none-added, one-added}
use Rattle.p9_view.proofs.ranks.Ranks.add.Goals as goal

pub returns-in_ok-insert : goal.returns-in_ok-insert
returns-in_ok-insert g c =
    let is : c.get_index_of.result ≡ Some c.in-Some.rank = c.in-Some.is in
    one-added c.args.self.now.users.keys c.args.name.now c.len-count.ensures.unique c.in-Some.rank
    c.args.found.now.keys c.insert.new.self.keys (sym c.get_index_of.ensures.index ∙ is)
    c.in_ok-insert.ensures.updates.0

pub returns-in_default : goal.returns-in_default
returns-in_default g c =
    let is : c.get_index_of.result ≡ None = c.in_default.is in
    none-added c.args.self.now.users.keys c.args.name.now c.len-count.ensures.unique
    c.args.found.now.keys (sym c.get_index_of.ensures.index ∙ is)
