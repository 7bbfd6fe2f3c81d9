-- The entries of a union, member by member, and their order.
use Rattle.p9_space.specs.Rights.{Who}
use Rattle.std.proofs.Common.{◌≡◌, ℕ, suc, ◌+◌, ◌<◌, ◌≤◌, Bool, true, false, cond, ◌&&◌, List}
use Rattle.std.proofs.Common.{[], ◌∷◌, ◌++◌, map, drop, Option}
use Rattle.std.proofs.Common.{Some, None, refl, sym, ap, ◌∙◌, subst, arith, All}
use Rattle.std.proofs.Common.{AllPairs}
use Rattle.std.specs.Prelude.{⊤, zero, slice_get, filter, find, unwrap_or}
use Rattle.std.specs.Option.{option_map}
use Rattle.std.proofs.lemmas.Bool.Decides.{nat_tests}
use Rattle.std.proofs.lemmas.List.Elements.{All-nil, All-head, All-tail, All-append, All-map}
use Rattle.std.proofs.lemmas.List.Elements.{All-filter, All-weaker, filter-append}
use Rattle.p9_base.specs.declared.node_ref.NodeRef.{NodeRef}
use Rattle.p9_tree.specs.Node.{Node, is_in, is_above}
use Rattle.p9_tree.specs.Server.{Server}
use Rattle.p9_tree.specs.Forest.{IsForest, child_in_after, no_server, server_at}
use Rattle.p9_table.specs.declared.row.Member.{Member}
use Rattle.p9_fids.specs.declared.opened.Cursor.{Cursor}
use Rattle.p9_tree.specs.Forest.{children_of}
use Rattle.p9_step.specs.Listing.{UnionEntry, cursor_of, entries_from, entries_of}
use Rattle.p9_step.specs.Listing.{entry_at, is_behind, is_listed, left_of}
use Rattle.p9_walks.specs.Listing.{IsFloor, IsReached}

-- Lists.

-- the first that passes, of what is made of those that pass
first_mapped : {X Y : Type 0} (p : Y → Bool) (f : X → Y) (q : X → Bool) (xs : List X)
    → slice_get (filter p (map f (filter q xs))) 0 ≡ option_map f (find (λ x. q x && p (f x)) xs)
first_mapped p f q [] = refl
first_mapped p f q (x ∷ xs) =
    elim (q x) as
    (λ b. slice_get (filter p (map f (cond b (x ∷ filter q xs) (filter q xs)))) 0
    ≡ option_map f (cond (b && p (f x)) (Some x) (find (λ y. q y && p (f y)) xs))) [
      | true ↦ elim (p (f x)) as
          (λ b. slice_get
          (cond b (f x ∷ filter p (map f (filter q xs))) (filter p (map f (filter q xs)))) 0
          ≡ option_map f (cond b (Some x) (find (λ y. q y && p (f y)) xs))) [
            | true ↦ refl
            | false ↦ first_mapped p f q xs
          ]
      | false ↦ first_mapped p f q xs
    ]

find_agree : {X : Type 0} (p q : X → Bool) (xs : List X) → ((x : X) → p x ≡ q x)
    → find p xs ≡ find q xs
find_agree p q [] same = refl
find_agree p q (x ∷ xs) same =
    ap (λ b. cond b (Some x) (find p xs)) (same x)
    ∙ ap (λ o. cond (q x) (Some x) o) (find_agree p q xs same)

none_kept : {X : Type 0} (p : X → Bool) (xs : List X) → All (λ x. p x ≡ false) xs → filter p xs ≡ []
none_kept p [] none = refl
none_kept p (x ∷ xs) none =
    ap (λ b. cond b (x ∷ filter p xs) (filter p xs)) (All-head (λ y. p y ≡ false) x xs none)
    ∙ none_kept p xs (All-tail (λ y. p y ≡ false) x xs none)

pub all_kept : {X : Type 0} (p : X → Bool) (xs : List X) → All (λ x. p x ≡ true) xs → filter p xs ≡ xs
all_kept p [] all = refl
all_kept p (x ∷ xs) all =
    ap (λ b. cond b (x ∷ filter p xs) (filter p xs)) (All-head (λ y. p y ≡ true) x xs all)
    ∙ ap (λ ys. x ∷ ys) (all_kept p xs (All-tail (λ y. p y ≡ true) x xs all))

-- One member.

-- the entries of a directory, as of the member at the position
abbrev pub entries_in : List Server → ℕ → NodeRef → List UnionEntry
entries_in forest position dir = map (entry_at position dir) (children_of dir forest)

pub first_in : (cursor : Option Cursor) (floor : Option ℕ) (forest : List Server) (position : ℕ)
    (dir : NodeRef) → IsFloor cursor position floor
    → slice_get (filter (is_behind cursor) (entries_in forest position dir)) 0
    ≡ option_map (entry_at position dir) (child_in_after dir floor forest)
first_in cursor floor forest position dir fits =
    first_mapped (is_behind cursor) (entry_at position dir) (is_in dir.number)
    (server_at dir.server forest).nodes
    ∙ ap (option_map (entry_at position dir))
    (find_agree (λ n. is_in dir.number n && is_behind cursor (entry_at position dir n))
    (λ n. is_in dir.number n && is_above floor n) (server_at dir.server forest).nodes
    (λ n. ap (λ b. is_in dir.number n && b) (fits dir n)))

-- each entry of a member has its position
pub at_position : (forest : List Server) (who : Who) (position : ℕ) (m : Member)
    → All (λ e. e.position ≡ position) (entries_of forest who position m)
at_position forest who position m =
    elim (is_listed forest who position m) as
    (λ b. All (λ e. e.position ≡ position)
    (cond b (map (entry_at position m.node) (children_of m.node forest)) [])) [
      | true ↦ All-map (λ e. e.position ≡ position) (entry_at position m.node)
          (children_of m.node forest) (λ k d within. refl)
      | false ↦ All-nil (λ e. e.position ≡ position)
    ]

-- Members.

-- a member before the cursor's has none left
before_cursor : (c : Cursor) (forest : List Server) (who : Who) (position : ℕ)
    (m : Member) → position < c.member
    → filter (is_behind (Some c)) (entries_of forest who position m) ≡ []
before_cursor c forest who position m lt =
    none_kept (is_behind (Some c)) (entries_of forest who position m)
    (All-weaker (λ e. e.position ≡ position) (λ e. is_behind (Some c) e ≡ false)
    (λ e at. grind (arith, nat_tests)) (entries_of forest who position m)
    (at_position forest who position m))

skipped : (c : Cursor) (forest : List Server) (who : Who) (k p q : ℕ) (ms : List Member)
    → p + k ≡ q → q ≤ c.member
    → filter (is_behind (Some c)) (entries_from forest who p ms)
    ≡ filter (is_behind (Some c)) (entries_from forest who q (drop k ms))
skipped c forest who zero p q ms same le =
    let here : p ≡ q = omega arith in
    ap (λ n. filter (is_behind (Some c)) (entries_from forest who n ms)) here
skipped c forest who (suc k) p q [] same le = refl
skipped c forest who (suc k) p q (m ∷ ms) same le =
    filter-append (is_behind (Some c)) (entries_of forest who p m)
    (entries_from forest who (suc p) ms)
    ∙ ap (λ es. es ++ filter (is_behind (Some c)) (entries_from forest who (suc p) ms))
    (before_cursor c forest who p m (omega arith))
    ∙ skipped c forest who k (suc p) q ms (omega arith) le

-- what is left begins in the cursor's member
pub left_reached : (cursor : Option Cursor) (forest : List Server) (who : Who) (ms : List Member)
    (position : ℕ) → IsReached cursor position
    → left_of forest who cursor ms
    ≡ filter (is_behind cursor) (entries_from forest who position (drop position ms))
left_reached None forest who ms position at =
    ap (λ p. filter (is_behind None) (entries_from forest who p (drop p ms))) (sym at)
left_reached (Some c) forest who ms position at =
    skipped c forest who position 0 position ms (omega arith) (omega arith)

-- Order.

-- each entry is behind those before it
abbrev Rising : List UnionEntry → Type 0
Rising [] = ⊤
Rising (e ∷ es) = All (λ x. is_behind (Some (cursor_of e)) x ≡ true) es × Rising es

pub Rising-map : (position : ℕ) (member : NodeRef) (ns : List Node)
    → AllPairs (λ m n. m.number < n.number) ns → Rising (map (entry_at position member) ns)
Rising-map position member [] rising = tt
Rising-map position member (n ∷ ns) rising = (
  All-map (λ e. is_behind (Some (cursor_of (entry_at position member n))) e ≡ true)
      (entry_at position member) ns
      (λ k d within. let lt = rising 0 (suc k) d (omega arith) (omega arith) in
      grind (arith, nat_tests)),
  Rising-map position member ns
      (λ i j d lt within. rising (suc i) (suc j) d (omega arith) (omega arith)),
)

-- the numbers of a server rise, also of one that isn't there
pub server_rising : (forest : List Server) → IsForest forest → (server : ℕ)
    → AllPairs (λ m n. m.number < n.number) (server_at server forest).nodes
server_rising forest sound server = go (slice_get forest server) refl
  where
    go : (o : Option Server) → slice_get forest server ≡ o
        → AllPairs (λ m n. m.number < n.number) (unwrap_or o no_server).nodes
    go None e = λ i j d lt within. absurd (omega arith)
    go (Some s) e = (sound.servers server s e).rising

pub from_position : (forest : List Server) (who : Who) (position : ℕ) (ms : List Member)
    → All (λ e. position ≤ e.position) (entries_from forest who position ms)
from_position forest who position [] = All-nil (λ e. position ≤ e.position)
from_position forest who position (m ∷ ms) =
    All-append (λ e. position ≤ e.position) (entries_of forest who position m)
    (entries_from forest who (suc position) ms)
    (All-weaker (λ e. e.position ≡ position) (λ e. position ≤ e.position) (λ e at. omega arith)
    (entries_of forest who position m) (at_position forest who position m))
    (All-weaker (λ e. suc position ≤ e.position) (λ e. position ≤ e.position) (λ e le. omega arith)
    (entries_from forest who (suc position) ms) (from_position forest who (suc position) ms))

behind_both : (c : Option Cursor) (x y : UnionEntry) → is_behind c x ≡ true
    → is_behind (Some (cursor_of x)) y ≡ true → is_behind c y ≡ true
behind_both None x y e f = refl
behind_both (Some c) x y e f = grind (arith, nat_tests)

not_both : (x y : UnionEntry) → is_behind (Some (cursor_of x)) y ≡ true
    → is_behind (Some (cursor_of y)) x ≡ false
not_both x y e = grind (arith, nat_tests)

not_itself : (x : UnionEntry) → is_behind (Some (cursor_of x)) x ≡ false
not_itself x = grind (arith, nat_tests)

-- behind the first that is left are the others
pub others_left : (c : Option Cursor) (xs : List UnionEntry) (e : UnionEntry) (es : List UnionEntry) → Rising xs
    → filter (is_behind c) xs ≡ e ∷ es → filter (is_behind (Some (cursor_of e))) xs ≡ es
others_left c [] e es rising left = absurd (cc)
others_left c (x ∷ xs) e es rising left = go (is_behind c x) refl (others_left c xs e es rising.1)
  where
    go : (b : Bool) → is_behind c x ≡ b
        → (filter (is_behind c) xs ≡ e ∷ es → filter (is_behind (Some (cursor_of e))) xs ≡ es)
        → filter (is_behind (Some (cursor_of e))) (x ∷ xs) ≡ es
    go true behind further =
        let here : x ∷ filter (is_behind c) xs ≡ e ∷ es =
        ap (λ b. cond b (x ∷ filter (is_behind c) xs) (filter (is_behind c) xs)) (sym behind)
        ∙ left in
        let same : x ≡ e = cc in
        let others : filter (is_behind c) xs ≡ es = cc in
        let all : filter (is_behind c) xs ≡ xs =
        all_kept (is_behind c) xs
        (All-weaker (λ y. is_behind (Some (cursor_of x)) y ≡ true) (λ y. is_behind c y ≡ true)
        (λ y later. behind_both c x y behind later) xs rising.0) in
        ap (λ z. filter (is_behind (Some (cursor_of z))) (x ∷ xs)) (sym same)
        ∙ ap (λ b. cond b (x ∷ filter (is_behind (Some (cursor_of x))) xs)
        (filter (is_behind (Some (cursor_of x))) xs)) (not_itself x)
        ∙ all_kept (is_behind (Some (cursor_of x))) xs rising.0 ∙ sym all ∙ others
    go false behind further =
        let later : filter (is_behind c) xs ≡ e ∷ es =
        ap (λ b. cond b (x ∷ filter (is_behind c) xs) (filter (is_behind c) xs)) (sym behind)
        ∙ left in
        let after : is_behind (Some (cursor_of x)) e ≡ true =
        All-head (λ y. is_behind (Some (cursor_of x)) y ≡ true) e es
        (subst (All (λ y. is_behind (Some (cursor_of x)) y ≡ true)) later
        (All-filter (is_behind c) (λ y. is_behind (Some (cursor_of x)) y ≡ true) xs
        rising.0)) in
        ap (λ b. cond b (x ∷ filter (is_behind (Some (cursor_of e))) xs)
        (filter (is_behind (Some (cursor_of e))) xs)) (not_both x e after)
        ∙ further later
