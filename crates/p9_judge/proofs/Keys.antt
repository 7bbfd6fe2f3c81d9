-- The set of the directories that were passed, by its keys.
use Rattle.std.proofs.Common.{◌≡◌, ℕ, suc, ◌-◌, Bool, true, false, cond, ◌||◌, List, [], ◌∷◌}
use Rattle.std.proofs.Common.{◌++◌, length, refl, sym, ap, ◌∙◌, arith}
use Rattle.std.specs.Prelude.{slice_get}
use Rattle.std.specs.BTreeMap.{is_at}
use Rattle.std.specs.List.{list_any}
use Rattle.std.specs.List.Sorted.{IsStrictlySortedBy}
use Rattle.std.specs.Option.{option_map_or}
use Rattle.std.specs.Ordering.{nat_cmp, ordering_then}
use Rattle.std.specs.declared.cmp.Ordering.{Ordering}
use Rattle.std.specs.declared.cmp.Ordering.TheVariants.{Less}
use Rattle.std.proofs.lemmas.Bool.{or_left, or_right}
use Rattle.std.proofs.lemmas.Bool.Decides.{nat_tests}
use Rattle.std.proofs.lemmas.Map.Keys.{sorted_head, sorted_tail}
use Rattle.p9_base.specs.declared.node_ref.NodeRef.{NodeRef}
use Rattle.p9_base.specs.NodeRef.{same_node}
use Rattle.p9_cert.specs.Rows.{is_below, is_row, may_follow}
use Rattle.p9_policy.proofs.Basics.{same_self}

-- by server, then by number
abbrev pub node_cmp : NodeRef → NodeRef → Ordering
node_cmp a b = ordering_then (nat_cmp a.server b.server) (nat_cmp a.number b.number)

at-same : (a b : NodeRef) → is_at (node_cmp a) b ≡ same_node a b
at-same a b = grind (arith, nat_tests)

same-turned : (a b : NodeRef) → same_node a b ≡ same_node b a
same-turned a b = grind (arith, nat_tests)

less-below : (a b : NodeRef) → node_cmp a b ≡ Less → is_below a b ≡ true
less-below a b e = grind (arith, nat_tests)

-- a key of the set is a row
pub has-row : (keys : List NodeRef) (at : NodeRef) → list_any (is_at (node_cmp at)) keys
    ≡ is_row keys at
has-row [] at = refl
has-row (k ∷ ks) at =
    ap (λ b. b || list_any (is_at (node_cmp at)) ks) (at-same at k ∙ same-turned at k)
    ∙ ap (λ b. same_node k at || b) (has-row ks at)

-- a key more
pub row-inserted : (old new : List NodeRef) (at : NodeRef)
    → ((q : NodeRef) → list_any (is_at (node_cmp q)) new
    ≡ cond (is_at (node_cmp at) q) true (list_any (is_at (node_cmp q)) old))
    → (r : NodeRef) → is_row new r ≡ (is_row old r || same_node at r)
row-inserted old new at h r =
    sym (has-row new r) ∙ h r ∙ ap (λ b. cond (is_at (node_cmp at) r) true b) (has-row old r)
    ∙ ap (λ b. cond b true (is_row old r)) (at-same at r) ∙ turn (same_node at r) (is_row old r)
  where
    turn : (a b : Bool) → cond a true b ≡ (b || a)
    turn true true = refl
    turn true false = refl
    turn false true = refl
    turn false false = refl

-- of rising keys, each may follow those before it
pub sorted-follows : (done : List NodeRef) (row : NodeRef) (rest : List NodeRef)
    → IsStrictlySortedBy node_cmp (done ++ row ∷ rest) → may_follow done row ≡ true
sorted-follows [] row rest sorted = refl
sorted-follows (x ∷ []) row rest sorted =
    less-below x row (sorted_head node_cmp x (row ∷ rest) sorted).0
sorted-follows (x ∷ y ∷ ys) row rest sorted =
    ap (λ i. option_map_or (λ last. is_below last row) (slice_get (x ∷ y ∷ ys) i) true)
    (shift (length ys))
    ∙ sorted-follows (y ∷ ys) row rest (sorted_tail node_cmp x (y ∷ ys ++ row ∷ rest) sorted)
  where
    shift : (n : ℕ) → suc (suc n) - 1 ≡ suc (suc n - 1)
    shift n = omega arith

-- a row in the middle is there
pub row-there : (done : List NodeRef) (row : NodeRef) (rest all : List NodeRef)
    → done ++ row ∷ rest ≡ all → is_row all row ≡ true
row-there done row rest all e = ap (λ rows. is_row rows row) (sym e) ∙ go done
  where
    go : (rows : List NodeRef) → is_row (rows ++ row ∷ rest) row ≡ true
    go [] = or_left (same_node row row) (is_row rest row) (same_self row)
    go (x ∷ xs) = or_right (same_node x row) (is_row (xs ++ row ∷ rest) row) (go xs)
