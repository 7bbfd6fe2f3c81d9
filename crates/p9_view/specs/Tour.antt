-- Tours of the name space: the places that a user may come to.
--
-- A tour is a list of entries. The first is the root place; each other is below an earlier entry,
-- under a name. So the names from the first entry on lead to each.
use Rattle.std.specs.Prelude.{◌≡◌, ℕ, ◌<◌, ◌≤◌, ◌==◌, List, [], ◌∷◌, ◌++◌, Option}
use Rattle.std.specs.Prelude.{Some, None, Ok, is_some, length, map, slice_get, if◌then◌else◌}
use Rattle.std.specs.List.{filter_map}
use Rattle.std.specs.Option.{option_and_then, option_map}
use Rattle.p9_base.specs.declared.node_ref.NodeRef.{NodeRef}
use Rattle.p9_tree.specs.Server.{Server}
use Rattle.p9_space.specs.Place.{root_place}
use Rattle.p9_space.specs.Rights.{Who}
use Rattle.p9_space.specs.Table.{MountRow}
use Rattle.p9_space.specs.Trail.{here}
use Rattle.p9_space.specs.Walk.{walk}
use Rattle.p9_prepared.specs.Path.{rooted_path}
use Rattle.p9_view.specs.declared.tour.Entry.{Entry}
use Rattle.p9_view.specs.declared.tour.Origin.{Origin}
use Rattle.p9_view.specs.declared.way.Access.{Access}
use Rattle.p9_view.specs.declared.way.Access.TheVariants.{AfterMode, Behind, Now}
use Rattle.p9_view.specs.declared.way.Way.{Way}
use Rattle.p9_view.specs.Met.{nodes_at}
use Rattle.p9_view.specs.Way.{ways_from}

-- Entries.

-- the first entry of a tour
abbrev pub root_entry : Entry
root_entry = record { origin = None; place = root_place; access = Now; same = None }

-- a walk along two ways goes elsewhere where it does so on one of them, and else it needs a change of
-- mode where it does so on one of them
abbrev pub access_below : (above own : Access) → Access
access_below Now own = own
access_below AfterMode Now = AfterMode
access_below AfterMode AfterMode = AfterMode
access_below AfterMode Behind = Behind
access_below Behind own = Behind

-- a way that leads on from an entry of this access
abbrev pub way_below : Access → Way → Way
way_below above way = record way { access = access_below above way.access }

-- the entry of a way that leads on from the entry of an index
abbrev pub entry_below : ℕ → Way → Entry
entry_below parent way = record {
  origin = Some (record { parent = parent; name = way.name });
  place = way.place;
  access = way.access;
  same = None;
}

-- the entry without an origin is the first, and each other is below an earlier one; one that is the
-- same as another comes after that
pub record IsTour (entries : List Entry) : Type 0 where
  pub first : (i : ℕ) (e : Entry) → slice_get entries i ≡ Some e → e.origin ≡ None → i ≡ 0
  pub earlier : (i : ℕ) (e : Entry) (origin : Origin) → slice_get entries i ≡ Some e
      → e.origin ≡ Some origin → origin.parent < i
  pub same : (i : ℕ) (e : Entry) (j : ℕ) → slice_get entries i ≡ Some e → e.same ≡ Some j → j < i

-- an entry may be added to so many
pub record CanFollow (count : ℕ) (e : Entry) : Type 0 where
  pub first : e.origin ≡ None → count ≡ 0
  pub earlier : (origin : Origin) → e.origin ≡ Some origin → origin.parent < count
  pub same : (j : ℕ) → e.same ≡ Some j → j < count

-- the names from the first entry to the entry of an index
pub data IsPathTo (entries : List Entry) : ℕ → List (List ℕ) → Type 0 where
  Root : IsPathTo entries 0 []
  Below : (i : ℕ) (e : Entry) (origin : Origin) (names : List (List ℕ))
      → slice_get entries i ≡ Some e → e.origin ≡ Some origin
      → IsPathTo entries origin.parent names → IsPathTo entries i (names ++ origin.name ∷ [])

-- the path to the entry of an index, as a text
pub record IsTextTo (entries : List Entry) (i : ℕ) (text : List ℕ) : Type 0 where
  pub names : List (List ℕ)
  pub path : IsPathTo entries i names
  pub is : text ≡ rooted_path names

-- the path to the entry that another is the same as, if it is
abbrev pub IsTextOfSame : List Entry → Option ℕ → Option (List ℕ) → Type 0
IsTextOfSame entries None text = text ≡ None
IsTextOfSame entries (Some j) None = ⊥
IsTextOfSame entries (Some j) (Some text) = IsTextTo entries j text

-- below which entry the entry of an index is, and under which name
abbrev pub origin_pair : Origin → ℕ × List ℕ
origin_pair origin = (origin.parent, origin.name)

abbrev pub origin_at : List Entry → ℕ → Option (ℕ × List ℕ)
origin_at entries i =
    option_map origin_pair (option_and_then (λ e. e.origin) (slice_get entries i))

-- the way to an entry from the entry of this index, where it is below that
abbrev pub way_from : ℕ → Option Origin → NodeRef → Access → Option Way
way_from parent None place access = None
way_from parent (Some origin) place access =
    if origin.parent == parent
    then Some (record { name = origin.name; place = place; access = access }) else None

-- the ways to all entries below the entry of an index
abbrev pub ways_below : ℕ → List Entry → List Way
ways_below parent entries = filter_map (λ e. way_from parent e.origin e.place e.access) entries

-- below which entry each entry is
abbrev pub parents_of : List Entry → List (Option ℕ)
parents_of entries = map (λ e. option_map (λ o. o.parent) e.origin) entries

-- what stands between an entry and the one that it is below is not below an earlier one: so all that
-- is below an entry stands after it, before what is below the earlier ones only
abbrev pub AreInOrder : List (Option ℕ) → Type 0
AreInOrder parents = (i j p q : ℕ) → slice_get parents i ≡ Some (Some p)
    → slice_get parents j ≡ Some (Some q) → p < j → j < i → p ≤ q

-- the most names of a walk
abbrev pub names_max : ℕ
names_max = 63

-- Whole tours.

module _ (forest : List Server) (table : List MountRow) (who : Option Who) where
  -- what is below an entry: nothing where the same members were met before, and else all ways that
  -- lead on from its place, in their order
  abbrev pub onward : Entry → List Way
  onward e =
      if is_some e.same then [] else map (way_below e.access) (ways_from forest table who e.place)

  -- the entry of an index is the one that the tour goes on from with these nodes
  pub record IsEntered (entries : List Entry) (i : ℕ) (nodes : List NodeRef) : Type 0 where
    pub e : Entry
    pub at : slice_get entries i ≡ Some e
    pub new : e.same ≡ None
    pub nodes_of : nodes_at e.place table ≡ nodes

  -- the walk by these names comes to the place
  pub record IsWalkTo (names : List (List ℕ)) (place : NodeRef) : Type 0 where
    pub trail : List NodeRef
    pub walked : walk forest table who (root_place ∷ []) names ≡ Ok trail
    pub arrived : here trail ≡ place

  -- an entry whose members were met before says where
  abbrev pub AreSame : List Entry → Type 0
  AreSame entries = (i j : ℕ) (e : Entry) → slice_get entries i ≡ Some e → e.same ≡ Some j
      → (j < i) × IsEntered entries j (nodes_at e.place table)

  -- no two entries that the tour goes on from have the same nodes
  abbrev pub AreOnce : List Entry → Type 0
  AreOnce entries = (i j : ℕ) (nodes : List NodeRef) → IsEntered entries i nodes
      → IsEntered entries j nodes → i ≡ j

  -- the walk by an entry's path comes to its place, where its access is that of now
  abbrev pub AreWalks : List Entry → Type 0
  AreWalks entries = (i : ℕ) (e : Entry) (names : List (List ℕ)) → slice_get entries i ≡ Some e
      → e.access ≡ Now → IsPathTo entries i names → length names ≤ names_max
      → IsWalkTo names e.place

  -- the first entry is the root place; what is below each is there, right after it, and no list of
  -- nodes is gone into twice
  pub record IsTourOf (entries : List Entry) : Type 0 where
    pub root : slice_get entries 0 ≡ Some root_entry
    pub below : (i : ℕ) (e : Entry) → slice_get entries i ≡ Some e
        → ways_below i entries ≡ onward e
    pub order : AreInOrder (parents_of entries)
    pub same : AreSame entries
    pub once : AreOnce entries
    pub walks : AreWalks entries
