use Rattle.std.proofs.Common.{◌≡◌, ◌++◌, List, ℕ}
use Rattle.std.specs.Prelude.{filter, slice_get}
use Rattle.std.specs.List.{filter_map, list_any}
use Rattle.p9_view.specs.Passing.{is_passed_by}
use Rattle.p9_view.proofs.passing.passers_among.Given as goal

-- the users so far, and those of the ranks that are left
abbrev pub invariant-loop-rank : goal.invariant-loop-rank
invariant-loop-rank g l =
    let p = λ (user : List ℕ). list_any (is_passed_by l.world user) l.members in
    let at = slice_get l.ranks.users.keys in
    l.users.items ++ filter p (filter_map at l.rank-iterator)
    ≡ filter p (filter_map at l.named.keys)
