use Rattle.std.proofs.Common.{◌≡◌, ◌∙◌, Some, true, false, get_or, sym, ap}
use Rattle.std.specs.Prelude.{slice_get}
use Rattle.std.specs.List.{list_any}
use Rattle.std.specs.Map.Iter.{deref_pair}
use Rattle.std.specs.Option.{option_map}
use Rattle.std.specs.Str.{bytes_eq}
use Rattle.std.proofs.lemmas.Option.{slice_get-get_or}
use Rattle.p9_base.specs.Group.{group_of}
use Rattle.p9_policy.proofs.Basics.{some_same}
use Rattle.p9_judge.specs.Listed.{has_listed}
use Rattle.p9_judge.proofs.Users.{marked-more, marked-same}
use Rattle.p9_judge.proofs.listed.mark_group.Goals as goal

pub returns-in_ok-insert : goal.returns-in_ok-insert
returns-in_ok-insert g c =
    let groups = c.args.groups.now in
    let name = c.unwrap.result.0.now in
    let group = c.unwrap.result.1.now in
    let i = c.args.position in
    let row : Some (name, group) ≡ slice_get groups i =
    sym (ap (option_map deref_pair) c.unwrap.ensures) ∙ c.at.ensures.row in
    let here : (name, group) ≡ get_or groups i (name, group) =
    some_same (name, group) (get_or groups i (name, group))
    (row ∙ slice_get-get_or groups i (name, group) c.requires.there) in
    let found : group_of name groups ≡ Some group = rw c.unwrap.ensures at c.at.ensures.only in
    let test : has_listed c.args.users.now.keys group ≡ true =
    ap (λ ms. list_any (λ m. list_any (bytes_eq m) c.args.users.now.keys) ms)
    (sym c.members.ensures) ∙ sym c.has_one_among.ensures ∙ c.if-has_one_among.true in
    marked-more (has_listed c.args.users.now.keys) groups i (name, group) c.requires.there name group
    here found test c.args.marked.now.keys c.insert.new.self.keys
    c.in_ok-insert.ensures.updates.0 c.requires.before

pub returns-else-has_one_among : goal.returns-else-has_one_among
returns-else-has_one_among g c =
    let groups = c.args.groups.now in
    let name = c.unwrap.result.0.now in
    let group = c.unwrap.result.1.now in
    let i = c.args.position in
    let row : Some (name, group) ≡ slice_get groups i =
    sym (ap (option_map deref_pair) c.unwrap.ensures) ∙ c.at.ensures.row in
    let here : (name, group) ≡ get_or groups i (name, group) =
    some_same (name, group) (get_or groups i (name, group))
    (row ∙ slice_get-get_or groups i (name, group) c.requires.there) in
    let found : group_of name groups ≡ Some group = rw c.unwrap.ensures at c.at.ensures.only in
    let test : has_listed c.args.users.now.keys group ≡ false =
    ap (λ ms. list_any (λ m. list_any (bytes_eq m) c.args.users.now.keys) ms)
    (sym c.members.ensures) ∙ sym c.has_one_among.ensures ∙ c.if-has_one_among.false in
    λ q. c.requires.before q
    ∙ marked-same (has_listed c.args.users.now.keys) groups i (name, group) c.requires.there name
    group here found test q
