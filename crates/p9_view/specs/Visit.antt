-- What a tour has while entries are waiting, the next first.
use Rattle.std.specs.Prelude.{◌≡◌, ℕ, ◌+◌, ◌<◌, ◌≤◌, List, [], ◌++◌, Option, Some, None, length}
use Rattle.std.specs.Prelude.{map, slice_get}
use Rattle.p9_base.specs.declared.node_ref.NodeRef.{NodeRef}
use Rattle.p9_tree.specs.Server.{Server}
use Rattle.p9_space.specs.Rights.{Who}
use Rattle.p9_space.specs.Table.{MountRow}
use Rattle.p9_view.specs.declared.met.Met.{Met}
use Rattle.p9_view.specs.declared.tour.Entry.{Entry}
use Rattle.p9_view.specs.declared.tour.Origin.{Origin}
use Rattle.p9_view.specs.declared.way.Access.{Access}
use Rattle.p9_view.specs.declared.way.Way.{Way}
use Rattle.p9_view.specs.Met.{met_at}
use Rattle.p9_view.specs.Tour.{AreInOrder, AreSame, IsEntered, entry_below, onward, parents_of, root_entry, way_below, ways_below}

-- the entries of ways that lead on from the entry of an index
abbrev pub entries_below : ℕ → Access → List Way → List Entry
entries_below at above ways = map (λ way. entry_below at (way_below above way)) ways

module _ (forest : List Server) (table : List MountRow) (who : Option Who) where
  module _ {Z : Type 0} where
    -- what is below each entry is there or waits, in this order; each list of nodes that was met has
    -- its entry
    pub record IsUnderway (entries waiting : List Entry) (met : Met Z) : Type 0 where
      pub root : slice_get (entries ++ waiting) 0 ≡ Some root_entry
      pub below : (i : ℕ) (e : Entry) → slice_get entries i ≡ Some e
          → ways_below i (entries ++ waiting) ≡ onward forest table who e
      pub ahead : (i : ℕ) → length entries ≤ i → ways_below i (entries ++ waiting) ≡ []
      pub order : AreInOrder (parents_of (entries ++ waiting))
      pub first : (k : ℕ) (e : Entry) → slice_get waiting k ≡ Some e → e.origin ≡ None
          → length entries + k ≡ 0
      pub earlier : (k : ℕ) (e : Entry) (origin : Origin) → slice_get waiting k ≡ Some e
          → e.origin ≡ Some origin → origin.parent < length entries
      pub new : (k : ℕ) (e : Entry) → slice_get waiting k ≡ Some e → e.same ≡ None
      pub found : (nodes : List NodeRef) (i : ℕ) → met_at met nodes ≡ Some i
          → IsEntered forest table who entries i nodes
      pub known : (nodes : List NodeRef) (i : ℕ) → IsEntered forest table who entries i nodes
          → met_at met nodes ≡ Some i
      pub same : AreSame forest table who entries
