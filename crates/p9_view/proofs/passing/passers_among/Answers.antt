use Rattle.std.proofs.Common.{◌≡◌, ◌++◌, ◌∙◌, [], List, ap, append-nil, arith, sym, ℕ}
use Rattle.std.specs.Prelude.{filter, slice_get}
use Rattle.std.specs.List.{filter_map, list_any}
use Rattle.std.proofs.lemmas.Grind.{common_steps}
use Rattle.p9_view.specs.Passing.{is_passed_by}
use Rattle.p9_view.proofs.Ranked.{all-picked}
use Rattle.p9_view.proofs.passing.passers_among.Goals as goal

pub returns : goal.returns
returns g c =
    let p = λ (user : List ℕ). list_any (is_passed_by c.args.world.now user) c.args.members.now in
    let users = c.args.ranks.now.users.keys in
    let keys = c.args.named.now.keys in
    let done : c.loop-rank.rank-iterator ≡ [] =
    grind (arith, common_steps, c.in-None.ensures.steps, c.in-None.is) in
    sym (append-nil c.loop-rank.users.items)
    ∙ ap (λ ks. c.loop-rank.users.items ++ filter p (filter_map (slice_get users) ks)) (sym done)
    ∙ c.loop-rank.invariant
    ∙ all-picked p keys users c.into_iter-rank-iterator.ensures.into_iter_gives.4
    c.requires.named.added
    ∙ ap (filter p) c.requires.ranks
