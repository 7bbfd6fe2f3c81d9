-- The entries of directories: which children are listed, and which number an entry has.
use Rattle.std.specs.Prelude.{◌≡◌, ℕ, ◌≤◌, Bool, true, false, Option, Some, None, nat_lt}
use Rattle.std.specs.Prelude.{if◌then◌else◌, [], length, nat_le}
use Rattle.std.specs.Option.{option_map_or}
use Rattle.std.specs.BTreeMap.{get, is_at}
use Rattle.std.specs.BTreeSet.{contains}
use Rattle.std.specs.declared.cmp.Ordering.{Ordering}
use Rattle.std.specs.declared.ops.Bound.{Bound}
use Rattle.std.specs.declared.ops.Bound.TheVariants.{Included, Excluded}
use Rattle.std.specs.Ordering.{nat_cmp, ordering_then}
use Rattle.std.specs.Cmp.Lexicographic.{slice_cmp}
use Rattle.p9_index.specs.declared.entries.Child.{Child}
use Rattle.p9_index.specs.declared.entries.Entries.{Entries}
use Rattle.p9_index.specs.declared.names.Numbers.{Numbers}
use Rattle.p9_index.specs.declared.names.ShortEntry.{ShortEntry}
use Rattle.p9_tree.specs.declared.node.Entry.{Entry}

-- children by their directories, then by their numbers
abbrev pub child_cmp : Child → Child → Ordering
child_cmp a b = ordering_then (nat_cmp a.dir b.dir) (nat_cmp a.number b.number)

-- entries by their directories, then by their names
abbrev pub entry_cmp : Entry → Entry → Ordering
entry_cmp a b = ordering_then (nat_cmp a.parent b.parent) (slice_cmp nat_cmp a.name b.name)

-- the same of entries of short names
abbrev pub short_cmp : ShortEntry → ShortEntry → Ordering
short_cmp a b =
    ordering_then (nat_cmp a.parent b.parent) (slice_cmp nat_cmp a.name.bytes b.name.bytes)

-- the most bytes of a short name
abbrev pub short_max : ℕ
short_max = 24

-- whether the entry's name is short
abbrev pub is_short : Entry → Bool
is_short e = nat_le (length e.name) short_max

-- this is the entry, which has a short name
abbrev pub StandsFor : ShortEntry → Entry → Type 0
StandsFor short e = (short.parent ≡ e.parent) × (short.name.bytes ≡ e.name)

-- the same entry, in the room of a short name
abbrev pub shortened : Entry → ShortEntry
shortened e = record { parent = e.parent; name = record { bytes = e.name; spare = [] } }

-- the child of the directory, by its number
abbrev pub child_at : (dir number : ℕ) → Child
child_at dir number = record { dir = dir; number = number }

-- where the children of the directory above the floor begin among all
abbrev pub children_from : ℕ → Option ℕ → Bound Child
children_from dir None = Included (child_at dir 0)
children_from dir (Some floor) = Excluded (child_at dir floor)

-- the number is above the floor, if there is one
abbrev pub exceeds : Option ℕ → ℕ → Bool
exceeds floor number = option_map_or (λ k. nat_lt k number) floor true

-- The numbers of nodes by their entries.

module _ {Z : Type 0} where
  -- the number of the entry, which is among those of short names if its own is short
  abbrev pub number_of : Numbers Z → Entry → Option ℕ
  number_of s e =
      if is_short e then get short_cmp s.short (shortened e) else get entry_cmp s.long e

  -- the entry now has this number, or none; all others are as before
  abbrev pub Renumbers : Option ℕ → Entry → Numbers Z → Numbers Z → Type 0
  Renumbers number e s t = (q : Entry)
      → number_of t q ≡ (if is_at (entry_cmp e) q then number else number_of s q)

  -- the same entries have the same numbers
  abbrev pub HasSameNumbers : Numbers Z → Numbers Z → Type 0
  HasSameNumbers s t = (e : Entry) → number_of t e ≡ number_of s e

-- The entries of directories.

module _ {Z : Type 0} where
  -- whether the child is listed
  abbrev pub is_listed : Entries Z → Child → Bool
  is_listed s c = contains child_cmp s.children c

  -- the number of the node of the entry
  abbrev pub number_at : Entries Z → Entry → Option ℕ
  number_at s e = number_of s.numbers e

  -- nothing is listed and nothing named
  abbrev pub HasNone : Entries Z → Type 0
  HasNone s = ((c : Child) → is_listed s c ≡ false) × ((e : Entry) → number_at s e ≡ None)

  -- this is the least number in the directory above the floor
  pub record IsLeast (dir : ℕ) (floor : Option ℕ) (number : ℕ) (s : Entries Z) : Type 0 where
    pub listed : is_listed s (child_at dir number) ≡ true
    pub above : exceeds floor number ≡ true
    pub least : (k : ℕ) → is_listed s (child_at dir k) ≡ true → exceeds floor k ≡ true → number ≤ k

  -- no number in the directory is above the floor
  abbrev pub IsNoneAbove : ℕ → Option ℕ → Entries Z → Type 0
  IsNoneAbove dir floor s = (k : ℕ) → exceeds floor k ≡ true → is_listed s (child_at dir k) ≡ false

  -- the child is now listed, or now isn't; all others are as before
  abbrev pub Lists : Bool → Child → Entries Z → Entries Z → Type 0
  Lists listed c s t = (q : Child)
      → is_listed t q ≡ (if is_at (child_cmp c) q then listed else is_listed s q)

  -- the entry now has this number, or none; all others are as before
  abbrev pub Names : Option ℕ → Entry → Entries Z → Entries Z → Type 0
  Names number e s t = Renumbers number e s.numbers t.numbers

  -- the same children are listed
  abbrev pub ListsSame : Entries Z → Entries Z → Type 0
  ListsSame s t = (c : Child) → is_listed t c ≡ is_listed s c

  -- and the same entries have the same numbers
  abbrev pub HasSame : Entries Z → Entries Z → Type 0
  HasSame s t = ListsSame s t × HasSameNumbers s.numbers t.numbers
