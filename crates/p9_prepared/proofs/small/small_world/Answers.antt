use Rattle.std.proofs.Common.{◌≡◌, ◌≤◌, ◌∷◌, [], ◌∙◌, arith, length, map, refl, string_bytes, sym}
use Rattle.p9_base.specs.NodeRef.{servers_max}
use Rattle.p9_prepared.proofs.small.small_world.Goals as goal

pub new-requires : goal.new-requires
new-requires g c =
    let trees : c.push.new.self.items ≡ c.in_ok-small.field-0 ∷ [] =
    rw c.new-trees.ensures.items at c.in_ok-push.ensures.items in
    let one_tree : length c.push.new.self.items ≡ 1 = rw trees refl in
    omega (arith, one_tree)

-- one tree and one name
pub invariant_of-result : goal.invariant_of-result
invariant_of-result g c =
    let trees : c.push.new.self.items ≡ c.in_ok-small.field-0 ∷ [] =
    rw c.new-trees.ensures.items at c.in_ok-push.ensures.items in
    let names : c.push-3.new.self.items ≡ c.in_ok-from_str.field-0 ∷ [] =
    rw c.new-servers.ensures.items at c.in_ok-push-3.ensures.items in
    let one_tree : length (map g.T.Tree.state c.push.new.self.items) ≡ 1 = rw trees refl in
    let one_name : length (map string_bytes c.push-3.new.self.items) ≡ 1 = rw names refl in
    let few : length (map g.T.Tree.state c.push.new.self.items) ≤ servers_max =
    omega (arith, one_tree) in
    rw c.new.ensures (record {
      named = one_name ∙ sym one_tree;
      few = few;
      distinct = λ i j d before within same. omega (arith, one_name);
      below = rw c.new-3.ensures.items (λ k d within. absurd (omega (arith, within)));
    })
