use Rattle.std.proofs.Common.{◌≡◌, ◌+◌, ◌∙◌, inl, inr, sym, true}
use Rattle.std.proofs.Common.{take}
use Rattle.std.specs.List.{list_any}
use Rattle.std.specs.Str.{bytes_eq}
use Rattle.p9_view.proofs.Ranked.{among-more, both-added}
use Rattle.p9_view.proofs.ranks.Ranks.add_all.Goals as goal

pub loop-name-preserved : goal.loop-name-preserved
loop-name-preserved g c =
    let names = c.args.names.now in
    let i = c.loop-name.name-index in
    both-added (λ user. list_any (bytes_eq user) (take i names) ≡ true)
    (λ user. user ≡ c.name-item.result)
    (λ user. list_any (bytes_eq user) (take (i + 1) names) ≡ true) c.args.self.now.users.keys
    c.args.found.now.keys c.loop-name.found.keys c.add.new.found.keys
    (λ user t. elim (among-more names i c.name-item.result c.loop-name-test.true user t) [
      | inl before ↦ inl before
      | inr last ↦ inr (last ∙ sym c.name-item.is)
    ])
    c.loop-name.invariant c.in_ok-add.ensures
