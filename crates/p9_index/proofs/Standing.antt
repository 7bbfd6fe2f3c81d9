-- Where a node is.
use Rattle.std.proofs.Common.{◌≡◌, ℕ, Option, Some, None, refl, arith}
use Rattle.std.specs.Option.{option_map}
use Rattle.p9_tree.specs.declared.node.Entry.{Entry}
use Rattle.p9_tree.specs.Node.{Node}

-- the entry that a node gives
abbrev pub entry_of : Node → Option Entry
entry_of n = option_map (λ parent. record { parent = parent; name = n.name }) n.parent

-- it has the node's directory and its name
pub stands-entry : (n : Node) (e : Entry) → Some e ≡ entry_of n
    → (n.parent ≡ Some e.parent) × (n.name ≡ e.name)
stands-entry n e is = go n.parent refl is
  where
    go : (o : Option ℕ) → n.parent ≡ o
        → Some e ≡ option_map (λ parent. record { parent = parent; name = n.name }) o
        → (n.parent ≡ Some e.parent) × (n.name ≡ e.name)
    go None at none = absurd (cc)
    go (Some p) at some = grind (arith)

-- a node without an entry has no parent
pub stands-nowhere : (n : Node) → ◌≡◌ {A = Option Entry} None (entry_of n) → n.parent ≡ None
stands-nowhere n is = go n.parent refl is
  where
    go : (o : Option ℕ) → n.parent ≡ o
        → ◌≡◌ {A = Option Entry} None
        (option_map (λ parent. record { parent = parent; name = n.name }) o)
        → n.parent ≡ None
    go None at none = at
    go (Some p) at some = absurd (cc)
