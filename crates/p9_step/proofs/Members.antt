-- The nodes of a server's list, and those that a look-up finds.
use Rattle.std.proofs.Common.{◌≡◌, ℕ, zero, suc, ◌<◌, Bool, true, false, List, [], ◌∷◌, ◌++◌, ◌⊎◌}
use Rattle.std.proofs.Common.{inl, inr, Some, refl, sym, ap, ◌∙◌, subst, arith, AllPairs, find}
use Rattle.std.proofs.Common.{length, get_or}
use Rattle.std.proofs.lemmas.Bool.Decides.{nat_tests}
use Rattle.p9_tree.specs.Node.{Node, has_number}
use Rattle.p9_tree.specs.Server.{changed_at, dropped_at, node_at}

-- the node is in the list
pub IsMember : Node → List Node → Type 0
IsMember n [] = ⊥
IsMember n (x ∷ xs) = (n ≡ x) ⊎ IsMember n xs

pub no_member : (n : Node) → IsMember n [] → ⊥
unfolding IsMember
no_member n there = there

-- by rising number, as a server has its nodes
abbrev pub Rising : List Node → Type 0
Rising xs = AllPairs (λ m n. m.number < n.number) xs

-- what a test finds is a member, and passes it
pub found-member : (test : Node → Bool) (xs : List Node) (n : Node) → find test xs ≡ Some n
    → IsMember n xs × (test n ≡ true)
unfolding IsMember
found-member test [] n e = absurd (cc)
found-member test (x ∷ xs) n e = go (test x) refl (found-member test xs n)
  where
    go : (b : Bool) → test x ≡ b → (find test xs ≡ Some n → IsMember n xs × (test n ≡ true))
        → IsMember n (x ∷ xs) × (test n ≡ true)
    go true t later =
        let here : Some x ≡ Some n = rw t at e in let same : x ≡ n = cc in
        (inl (sym same), ap test (sym same) ∙ t)
    go false t later =
        let there : find test xs ≡ Some n = rw t at e in let rest = later there in
        (inr rest.0, rest.1)

-- the numbers of the others are above the first's
above : (x n : Node) (xs : List Node) → Rising (x ∷ xs) → IsMember n xs → x.number < n.number
unfolding IsMember
above x n [] rising there = absurd there
above x n (y ∷ ys) rising (inl same) =
    let lt = rising 0 1 x (omega arith) (omega arith) in
    subst (λ (m : Node). x.number < m.number) (sym same) lt
above x n (y ∷ ys) rising (inr later) = above x n ys (λ i j d lt within. skip i j d lt within) later
  where
    skip : (i j : ℕ) (d : Node) → i < j → j < length (x ∷ ys)
        → (get_or (x ∷ ys) i d).number < (get_or (x ∷ ys) j d).number
    skip zero zero d lt within = absurd (omega arith)
    skip zero (suc j) d lt within = rising 0 (suc (suc j)) d (omega arith) (omega arith)
    skip (suc i) zero d lt within = absurd (omega arith)
    skip (suc i) (suc j) d lt within =
        rising (suc (suc i)) (suc (suc j)) d (omega arith) (omega arith)

tail_rising : (x : Node) (xs : List Node) → Rising (x ∷ xs) → Rising xs
tail_rising x xs rising = λ i j d lt within. rising (suc i) (suc j) d (omega arith) (omega arith)

-- a member is the node of its number, where numbers rise
pub member-node_at : (n : Node) (xs : List Node) → Rising xs → IsMember n xs
    → node_at n.number xs ≡ Some n
unfolding IsMember
member-node_at n [] rising there = absurd there
member-node_at n (x ∷ xs) rising (inl same) = grind (arith, nat_tests)
member-node_at n (x ∷ xs) rising (inr later) =
    let lt = above x n xs rising later in
    let there = member-node_at n xs (tail_rising x xs rising) later in
    grind (arith, nat_tests)

-- what is left after a node is dropped was there
pub member-dropped_at : (n : Node) (k : ℕ) (xs : List Node) → IsMember n (dropped_at k xs)
    → IsMember n xs
unfolding IsMember
member-dropped_at n k [] there = absurd there
member-dropped_at n k (x ∷ xs) there = go (has_number k x) refl (member-dropped_at n k xs)
  where
    or_there : (IsMember n (dropped_at k xs) → IsMember n xs)
        → (n ≡ x) ⊎ IsMember n (dropped_at k xs) → IsMember n (x ∷ xs)
    or_there later (inl same) = inl same
    or_there later (inr rest) = inr (later rest)

    go : (b : Bool) → has_number k x ≡ b → (IsMember n (dropped_at k xs) → IsMember n xs)
        → IsMember n (x ∷ xs)
    go true t later = inr (rw t at there)
    go false t later = or_there later (rw t at there)

-- what is there after a change of one node was there, or is that node, changed
pub member-changed_at : (n : Node) (k : ℕ) (f : Node → Node) (xs : List Node)
    → IsMember n (changed_at k f xs)
    → (m : Node) × IsMember m xs × ((n ≡ m) ⊎ ((n ≡ f m) × (node_at k xs ≡ Some m)))
unfolding IsMember
member-changed_at n k f [] there = absurd there
member-changed_at n k f (x ∷ xs) there = go (has_number k x) refl (member-changed_at n k f xs)
  where
    Was : List Node → Type 0
    Was ys = (m : Node) × IsMember m ys × ((n ≡ m) ⊎ ((n ≡ f m) × (node_at k ys ≡ Some m)))

    here : has_number k x ≡ true → (n ≡ f x) ⊎ IsMember n xs → Was (x ∷ xs)
    here t (inl same) = (x, inl refl, inr (same, rw t refl))
    here t (inr rest) = (n, inr rest, inl refl)

    further : has_number k x ≡ false → (IsMember n (changed_at k f xs) → Was xs)
        → (n ≡ x) ⊎ IsMember n (changed_at k f xs) → Was (x ∷ xs)
    further t later (inl same) = (x, inl refl, inl same)
    further t later (inr rest) = let was = later rest in (was.0, inr was.1, rw t was.2)

    go : (b : Bool) → has_number k x ≡ b → (IsMember n (changed_at k f xs) → Was xs) → Was (x ∷ xs)
    go true t later = here t (rw t at there)
    go false t later = further t later (rw t at there)

-- what is there after a node joined was there, or is that node
pub member-joined : (n y : Node) (xs : List Node) → IsMember n (xs ++ y ∷ [])
    → IsMember n xs ⊎ (n ≡ y)
unfolding IsMember
member-joined n y [] (inl same) = inr same
member-joined n y [] (inr none) = absurd none
member-joined n y (x ∷ xs) (inl same) = inl (inl same)
member-joined n y (x ∷ xs) (inr rest) =
    elim (member-joined n y xs rest) [ inl there ↦ inl (inr there) | inr new ↦ inr new ]
