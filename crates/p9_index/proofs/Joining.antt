-- What a tree has to know of a node that may join under a number that was never given.
use Rattle.std.proofs.Common.{◌≡◌, ◌∙◌, ◌+◌, ◌≤◌, ℕ, false, List, None, ap, arith, subst, sym}
use Rattle.std.specs.BTreeMap.{insert_entry}
use Rattle.std.specs.Map.{values_of}
use Rattle.std.specs.Option.{option_map}
use Rattle.std.specs.Ordering.{nat_cmp}
use Rattle.p9_index.specs.declared.entries.Entries.{Entries}
use Rattle.p9_index.specs.Entries.{child_at, is_listed, number_at}
use Rattle.p9_index.specs.Join.{CanJoin}
use Rattle.p9_index.specs.Tree.{IsIndex, server_of}
use Rattle.p9_index.proofs.Joined.{state-joined, unlisted-past}
use Rattle.p9_index.proofs.Numbers.{number_at-child}
use Rattle.p9_tree.specs.declared.node.Entry.{Entry}
use Rattle.p9_tree.specs.Node.{Node}
use Rattle.p9_tree.specs.Server.{WellFormed, added, child_of, next_max}
use Rattle.p9_tree.proofs.Added.{WellFormed-added}
use Rattle.p9_tree.proofs.Restored.{WellFormed-skipped_to}

module _ {Z : Type 0} (es : List (ℕ × Node)) (next : ℕ) (s : Entries Z) (e : Entry) (k : ℕ)
    (n : Node) (index : IsIndex es (is_listed s) (number_at s))
    (well : WellFormed (server_of es next)) (can : CanJoin es next e k n) where
  pub few : k ≤ next_max
  few = omega (arith, can.can_add.number_left)

  -- the tree whose next number it is
  pub well-skipped : WellFormed (server_of es k)
  well-skipped = WellFormed-skipped_to k (server_of es next) can.not_given few well

  -- nothing has the entry
  pub free-entry : number_at s e ≡ None
  free-entry =
      number_at-child es s index well.rising e
      ∙ ap (option_map (λ (n : Node). n.number))
      (subst (λ name. child_of e.parent name (values_of es) ≡ None) can.name can.can_add.free)

  -- nor the number
  pub unlisted-number : is_listed s (child_at e.parent k) ≡ false
  unlisted-number = unlisted-past es k s e.parent index well-skipped.below

  -- the tree with the node
  module _ (fs : List (ℕ × Node)) (put : fs ≡ insert_entry nat_cmp es k n) where
    pub state-joining : server_of fs (k + 1) ≡ added (server_of es k) n
    state-joining = state-joined es fs k n index.keyed well-skipped.below put

    pub well-joining : WellFormed (server_of fs (k + 1))
    well-joining =
        subst WellFormed (sym state-joining)
        (WellFormed-added (server_of es k) e.parent n well-skipped can.can_add can.own can.parent
        can.valid can.tellable)
