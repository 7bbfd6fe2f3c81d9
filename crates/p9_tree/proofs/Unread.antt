-- A change does the same to servers that differ in no more than their times of last access.
use Rattle.std.proofs.Common.{◌≡◌, ℕ, ◌+◌, List, [], ◌∷◌, ◌++◌, Option, Some, None, refl, sym, ap}
use Rattle.std.proofs.Common.{◌∙◌, map, Bool, true, false, cond}
use Rattle.std.proofs.lemmas.List.{map-append}
use Rattle.p9_tree.specs.declared.change.Change.{Change}
use Rattle.p9_tree.specs.Bytes.{cut_to, overwritten}
use Rattle.p9_tree.specs.Change.{changed}
use Rattle.p9_tree.specs.Node.{Node, has_number, marked, touched, with_bytes, with_owner}
use Rattle.p9_tree.specs.Server.{Server, changed_at, dropped_at, with_changed, with_dropped}
use Rattle.p9_tree.specs.Server.{added, with_nodes}
use Rattle.p9_tree.specs.Saved.{skipped_to, with_fields}
use Rattle.std.specs.Option.{option_map_or}
use Rattle.p9_tree.specs.Edit.{Edit, NewFields, SetRoot, Create, Remove, Wstat, Mark, Write, Truncate}
use Rattle.p9_tree.specs.Edit.{PutBack, Skip, created_node, edited}
use Rattle.p9_tree.specs.Unread.{unread}

-- nodes without their times of last access
abbrev unread_nodes : List Node → List Node
unread_nodes xs = map (touched 0) xs

unread_nodes-twice : (xs : List Node) → unread_nodes (unread_nodes xs) ≡ unread_nodes xs
unread_nodes-twice [] = refl
unread_nodes-twice (x ∷ xs) = ap (λ ns. touched 0 x ∷ ns) (unread_nodes-twice xs)

-- what is done to a node doesn't depend on when it was last read
pub record IsBlind (f : Node → Node) : Type 0 where
  pub blind : (n : Node) → touched 0 (f (touched 0 n)) ≡ touched 0 (f n)

module _ (k : ℕ) (f : Node → Node) (b : IsBlind f) where
  nodes-changed_at : (xs : List Node)
      → unread_nodes (changed_at k f (unread_nodes xs)) ≡ unread_nodes (changed_at k f xs)
  nodes-changed_at [] = refl
  nodes-changed_at (x ∷ xs) = go (has_number k x) (nodes-changed_at xs)
    where
      go : (t : Bool)
          → unread_nodes (changed_at k f (unread_nodes xs)) ≡ unread_nodes (changed_at k f xs)
          → unread_nodes (cond t (f (touched 0 x) ∷ unread_nodes xs)
          (touched 0 x ∷ changed_at k f (unread_nodes xs)))
          ≡ unread_nodes (cond t (f x ∷ xs) (x ∷ changed_at k f xs))
      go true rest = ap (λ n. n ∷ unread_nodes (unread_nodes xs)) (b.blind x)
          ∙ ap (λ ns. touched 0 (f x) ∷ ns) (unread_nodes-twice xs)
      go false rest = ap (λ ns. touched 0 x ∷ ns) rest

  unread-with_changed : (s : Server)
      → unread (with_changed k f (unread s)) ≡ unread (with_changed k f s)
  unfolding unread
  unread-with_changed s = ap (λ ns. with_nodes s ns) (nodes-changed_at s.nodes)

-- the nodes are the same where one is touched
nodes-touched : (k clock : ℕ) (xs : List Node)
    → unread_nodes (changed_at k (touched clock) xs) ≡ unread_nodes xs
nodes-touched k clock [] = refl
nodes-touched k clock (x ∷ xs) = go (has_number k x) (nodes-touched k clock xs)
  where
    go : (t : Bool) → unread_nodes (changed_at k (touched clock) xs) ≡ unread_nodes xs
        → unread_nodes (cond t (touched clock x ∷ xs) (x ∷ changed_at k (touched clock) xs))
        ≡ unread_nodes (x ∷ xs)
    go true rest = refl
    go false rest = ap (λ ns. touched 0 x ∷ ns) rest

-- reading a file changes nothing else
pub unread-touched : (k clock : ℕ) (s : Server)
    → unread (with_changed k (touched clock) s) ≡ unread s
unfolding unread
unread-touched k clock s = ap (λ ns. with_nodes s ns) (nodes-touched k clock s.nodes)

nodes-dropped_at : (k : ℕ) (xs : List Node)
    → unread_nodes (dropped_at k (unread_nodes xs)) ≡ unread_nodes (dropped_at k xs)
nodes-dropped_at k [] = refl
nodes-dropped_at k (x ∷ xs) = go (has_number k x) (nodes-dropped_at k xs)
  where
    go : (t : Bool)
        → unread_nodes (dropped_at k (unread_nodes xs)) ≡ unread_nodes (dropped_at k xs)
        → unread_nodes (cond t (unread_nodes xs) (touched 0 x ∷ dropped_at k (unread_nodes xs)))
        ≡ unread_nodes (cond t xs (x ∷ dropped_at k xs))
    go true rest = unread_nodes-twice xs
    go false rest = ap (λ ns. touched 0 x ∷ ns) rest

unread-with_dropped : (k : ℕ) (s : Server)
    → unread (with_dropped k (unread s)) ≡ unread (with_dropped k s)
unfolding unread
unread-with_dropped k s = ap (λ ns. with_nodes s ns) (nodes-dropped_at k s.nodes)

nodes-joined : (xs ys : List Node)
    → unread_nodes (unread_nodes xs ++ ys) ≡ unread_nodes (xs ++ ys)
nodes-joined xs ys =
    map-append (touched 0) (unread_nodes xs) ys
    ∙ ap (λ ns. ns ++ unread_nodes ys) (unread_nodes-twice xs) ∙ sym (map-append (touched 0) xs ys)

unread-joined : (dir : ℕ) (new : NewFields) (s : Server)
    → unread (edited (Create dir new) (unread s)) ≡ unread (edited (Create dir new) s)
unfolding unread
unread-joined dir new s =
    ap (λ ns. with_nodes (record { nodes = ns; next = s.next + 1 }) ns)
    (nodes-joined s.nodes (created_node s.next dir new ∷ []))

unread-skipped : (next : ℕ) (s : Server)
    → unread (skipped_to next (unread s)) ≡ unread (skipped_to next s)
unfolding unread
unread-skipped next s =
    ap (λ ns. with_nodes (record { nodes = ns; next = next }) ns) (unread_nodes-twice s.nodes)

-- a node that is put back, by where it is
unread-put_back : (n : Node) (parent : Option ℕ) (s : Server)
    → unread (option_map_or (λ dir. added (skipped_to n.number (unread s)) n) parent
    (with_changed 0 (with_fields n) (unread s)))
    ≡ unread (option_map_or (λ dir. added (skipped_to n.number s) n) parent
    (with_changed 0 (with_fields n) s))
unfolding unread
unread-put_back n None s =
    unread-with_changed 0 (with_fields n) (record { blind = λ n. refl }) s
unread-put_back n (Some dir) s =
    ap (λ ns. with_nodes (record { nodes = ns; next = n.number + 1 }) ns)
    (nodes-joined s.nodes (n ∷ []))

changed-blind : (change : Change) (size : Option ℕ) (n : Node)
    → touched 0 (changed (record change { length = size }) (touched 0 n))
    ≡ touched 0 (changed (record change { length = size }) n)
changed-blind change None n = refl
changed-blind change (Some size) n = refl

blind-changed : (change : Change) → IsBlind (changed change)
blind-changed change = record { blind = λ n. changed-blind change change.length n }

-- what a change makes of a server doesn't depend on when its files were last read
unread-first : (edit : Edit) (s : Server)
    → unread (edited edit (unread s)) ≡ unread (edited edit s)
unread-first (SetRoot permissions uid gid) s =
    unread-with_changed 0 (with_owner permissions uid gid) (record { blind = λ n. refl }) s
unread-first (Create dir new) s = unread-joined dir new s
unread-first (Remove number) s = unread-with_dropped number s
unread-first (Wstat number change) s =
    unread-with_changed number (changed change) (blind-changed change) s
unread-first (Mark number user clock) s =
    unread-with_changed number (marked user clock) (record { blind = λ n. refl }) s
unread-first (Write number offset bytes) s =
    unread-with_changed number (with_bytes (overwritten offset bytes)) (record { blind = λ n. refl }) s
unread-first (Truncate number size) s =
    unread-with_changed number (with_bytes (cut_to size)) (record { blind = λ n. refl }) s
unread-first (PutBack node) s = unread-put_back node node.parent s
unread-first (Skip next) s = unread-skipped next s

-- and so it does the same to servers that differ in that alone
pub unread-edited : (edit : Edit) (s t : Server) → unread s ≡ unread t
    → unread (edited edit s) ≡ unread (edited edit t)
unread-edited edit s t e =
    sym (unread-first edit s) ∙ ap (λ u. unread (edited edit u)) e ∙ unread-first edit t
