-- The entries of a directory in two forests that are the same apart from times of last access: they
-- take as many bytes.
use Rattle.std.proofs.Common.{◌≡◌, ◌∙◌, ℕ, suc, ◌+◌, ◌-◌, Bool, true, false, ◌&&◌, ◌||◌, ◌++◌, List, []}
use Rattle.std.proofs.Common.{◌∷◌, Option, Some, refl, sym, ap, map, length}
use Rattle.std.specs.Prelude.{◌==◌, filter, nat_le, if◌then◌else◌}
use Rattle.std.specs.List.{flat_map}
use Rattle.std.proofs.lemmas.List.{length-append, map-append}
use Rattle.std.proofs.lemmas.List.Concat.{flat_map-cons}
use Rattle.p9_base.specs.NodeRef.{beside}
use Rattle.p9_base.specs.declared.node_ref.NodeRef.{NodeRef}
use Rattle.p9_tree.specs.Forest.{children_of, server_at}
use Rattle.p9_tree.specs.Node.{Node, is_dir, is_in, touched}
use Rattle.p9_tree.specs.Server.{Server}
use Rattle.p9_tree.specs.Unread.{all_unread}
use Rattle.p9_space.specs.Rights.{Who, may, to_read}
use Rattle.p9_space.specs.Table.{MountRow, members_of}
use Rattle.p9_table.specs.declared.row.Member.{Member}
use Rattle.p9_wire.proofs.Lengths.{length-stat_bytes}
use Rattle.p9_fids.specs.declared.opened.Cursor.{Cursor}
use Rattle.p9_step.specs.Listing.{UnionEntry, cursor_of, entries_from, entries_of, entry_at}
use Rattle.p9_step.specs.Listing.{is_behind, is_listed, listing, listing_behind}
use Rattle.p9_step.specs.Qid.{stat_of}
use Rattle.p9_step.specs.Read.{cursor_after, entry_bytes, fitting}
use Rattle.p9_fixed_laws.proofs.Blind.{tested}
use Rattle.p9_fixed_laws.proofs.Unread.{nodes-unread}

-- an entry without the time of last access of its node
abbrev pub bare : UnionEntry → UnionEntry
bare e = record e { node = touched 0 e.node }

-- it takes as many bytes
long-bare : (e : UnionEntry) → length (entry_bytes (bare e)) ≡ length (entry_bytes e)
unfolding entry_bytes
long-bare e =
    length-stat_bytes (stat_of (beside e.member e.node.number) (touched 0 e.node))
    ∙ sym (length-stat_bytes (stat_of (beside e.member e.node.number) e.node))

-- so do all of them
pub all_long-bare : (es : List UnionEntry)
    → length (flat_map entry_bytes (map bare es)) ≡ length (flat_map entry_bytes es)
all_long-bare [] = refl
all_long-bare (e ∷ es) =
    ap length (flat_map-cons entry_bytes (bare e) (map bare es))
    ∙ length-append (entry_bytes (bare e)) (flat_map entry_bytes (map bare es))
    ∙ ap (λ k. k + length (flat_map entry_bytes (map bare es))) (long-bare e)
    ∙ ap (λ k. length (entry_bytes e) + k) (all_long-bare es)
    ∙ sym (length-append (entry_bytes e) (flat_map entry_bytes es))
    ∙ sym (ap length (flat_map-cons entry_bytes e es))

-- the same ones have room
pub fitting-bare : (room : ℕ) (es : List UnionEntry)
    → fitting room (map bare es) ≡ map bare (fitting room es)
fitting-bare room [] = refl
fitting-bare room (e ∷ es) =
    ap (λ size. if nat_le size room then bare e ∷ fitting (room - size) (map bare es) else [])
    (long-bare e)
    ∙ go (nat_le (length (entry_bytes e)) room)
    (fitting-bare (room - length (entry_bytes e)) es)
  where
    go : (b : Bool)
        → fitting (room - length (entry_bytes e)) (map bare es)
        ≡ map bare (fitting (room - length (entry_bytes e)) es)
        → (if b then bare e ∷ fitting (room - length (entry_bytes e)) (map bare es) else [])
        ≡ map bare (if b then e ∷ fitting (room - length (entry_bytes e)) es else [])
    go true later = ap (λ rest. bare e ∷ rest) later
    go false later = refl

-- and the same one is the last
pub cursor-bare : (cursor : Option Cursor) (es : List UnionEntry)
    → cursor_after cursor (map bare es) ≡ cursor_after cursor es
cursor-bare cursor [] = refl
cursor-bare cursor (e ∷ es) = cursor-bare (Some (cursor_of e)) es

behind-bare : (cursor : Option Cursor) (es : List UnionEntry)
    → map bare (filter (is_behind cursor) es) ≡ filter (is_behind cursor) (map bare es)
behind-bare cursor [] = refl
behind-bare cursor (e ∷ es) = go (is_behind cursor e) (behind-bare cursor es)
  where
    go : (b : Bool)
        → map bare (filter (is_behind cursor) es) ≡ filter (is_behind cursor) (map bare es)
        → map bare (if b then e ∷ filter (is_behind cursor) es else filter (is_behind cursor) es)
        ≡ (if b then bare e ∷ filter (is_behind cursor) (map bare es)
        else filter (is_behind cursor) (map bare es))
    go true later = ap (λ rest. bare e ∷ rest) later
    go false later = later

entries-bare : (position : ℕ) (at : NodeRef) (ns : List Node)
    → map bare (map (entry_at position at) ns) ≡ map (entry_at position at) (map (touched 0) ns)
entries-bare position at [] = refl
entries-bare position at (n ∷ ns) =
    ap (λ rest. entry_at position at (touched 0 n) ∷ rest) (entries-bare position at ns)

-- Nodes of a directory.

within-unread : (dir : ℕ) (ns : List Node)
    → filter (is_in dir) (map (touched 0) ns) ≡ map (touched 0) (filter (is_in dir) ns)
within-unread dir [] = refl
within-unread dir (n ∷ ns) = go (is_in dir n) (within-unread dir ns)
  where
    go : (b : Bool)
        → filter (is_in dir) (map (touched 0) ns) ≡ map (touched 0) (filter (is_in dir) ns)
        → (if b then touched 0 n ∷ filter (is_in dir) (map (touched 0) ns)
        else filter (is_in dir) (map (touched 0) ns))
        ≡ map (touched 0) (if b then n ∷ filter (is_in dir) ns else filter (is_in dir) ns)
    go true later = ap (λ rest. touched 0 n ∷ rest) later
    go false later = later

children-unread : (forest : List Server) (dir : NodeRef)
    → children_of dir (all_unread forest) ≡ map (touched 0) (children_of dir forest)
children-unread forest dir =
    ap (filter (is_in dir.number)) (nodes-unread dir.server forest)
    ∙ within-unread dir.number (server_at dir.server forest).nodes

module _ (f g : List Server) (same : all_unread f ≡ all_unread g) where
  children-same : (dir : NodeRef)
      → map (touched 0) (children_of dir f) ≡ map (touched 0) (children_of dir g)
  children-same dir =
      sym (children-unread f dir) ∙ ap (λ forest. children_of dir forest) same
      ∙ children-unread g dir

  module _ (who : Who) where
    listed-same : (position : ℕ) (m : Member)
        → is_listed f who position m ≡ is_listed g who position m
    listed-same position m =
        tested f g same (λ n. is_dir n && (position == 0 || may who n to_read)) (λ n. refl) m.node

    entries_of-same : (position : ℕ) (m : Member)
        → map bare (entries_of f who position m) ≡ map bare (entries_of g who position m)
    entries_of-same position m =
        ap (λ b. map bare (if b then map (entry_at position m.node) (children_of m.node f) else []))
        (listed-same position m)
        ∙ go (is_listed g who position m)
      where
        go : (b : Bool)
            → map bare (if b then map (entry_at position m.node) (children_of m.node f) else [])
            ≡ map bare (if b then map (entry_at position m.node) (children_of m.node g) else [])
        go true =
            entries-bare position m.node (children_of m.node f)
            ∙ ap (map (entry_at position m.node)) (children-same m.node)
            ∙ sym (entries-bare position m.node (children_of m.node g))
        go false = refl

    entries_from-same : (position : ℕ) (ms : List Member)
        → map bare (entries_from f who position ms) ≡ map bare (entries_from g who position ms)
    entries_from-same position [] = refl
    entries_from-same position (m ∷ ms) =
        map-append bare (entries_of f who position m) (entries_from f who (suc position) ms)
        ∙ ap (λ es. es ++ map bare (entries_from f who (suc position) ms))
        (entries_of-same position m)
        ∙ ap (λ es. map bare (entries_of g who position m) ++ es)
        (entries_from-same (suc position) ms)
        ∙ sym (map-append bare (entries_of g who position m)
        (entries_from g who (suc position) ms))

    -- what is left of a listing
    pub left-same : (cursor : Option Cursor) (table : List MountRow) (place : NodeRef)
        → map bare (listing_behind cursor table f who place)
        ≡ map bare (listing_behind cursor table g who place)
    left-same cursor table place =
        behind-bare cursor (listing table f who place)
        ∙ ap (filter (is_behind cursor)) (entries_from-same 0 (members_of place table))
        ∙ sym (behind-bare cursor (listing table g who place))
