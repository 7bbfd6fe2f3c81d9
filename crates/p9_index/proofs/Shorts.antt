-- Entries of short names, and others, each in a map of its own.
use Rattle.std.proofs.Common.{◌≡◌, ℕ, Bool, true, false, Option, refl, sym, ap, ◌∙◌}
use Rattle.std.specs.Prelude.{if◌then◌else◌, not}
use Rattle.std.specs.BTreeMap.{UpdatesBy, get, is_at}
use Rattle.std.specs.declared.cmp.Ordering.{Ordering}
use Rattle.std.specs.Cmp.Lexicographic.{slice_cmp}
use Rattle.std.specs.Ordering.{nat_cmp, ordering_then}
use Rattle.p9_index.specs.declared.names.Numbers.{Numbers}
use Rattle.p9_index.specs.declared.names.ShortEntry.{ShortEntry}
use Rattle.p9_index.specs.Entries.{Renumbers, StandsFor, entry_cmp, is_short, short_cmp}
use Rattle.p9_index.specs.Entries.{shortened}
use Rattle.p9_index.proofs.Orders.{equal_by_test, exact_entries}
use Rattle.p9_tree.specs.declared.node.Entry.{Entry}

-- what is compared with a short entry is compared with the entry that it is
compares_as : (k : ShortEntry) (e : Entry) → StandsFor k e → short_cmp k ≡ short_cmp (shortened e)
compares_as k e same =
    ap (λ (dir : ℕ). λ (q : ShortEntry). ordering_then (nat_cmp dir q.parent)
    (slice_cmp nat_cmp k.name.bytes q.name.bytes)) same.0
    ∙ ap (λ name. λ (q : ShortEntry). ordering_then (nat_cmp e.parent q.parent)
    (slice_cmp nat_cmp name q.name.bytes)) same.1

-- a short name isn't a long one
apart_by_length : (e q : Entry) (b : Bool) → is_short e ≡ b → is_short q ≡ not b
    → is_at (entry_cmp e) q ≡ false
apart_by_length e q b one other =
    elim (is_at (entry_cmp e) q) as (λ is. is_at (entry_cmp e) q ≡ is → is ≡ false) [
      | false ↦ λ is. refl
      | true ↦ λ is.
          let same : b ≡ not b =
          sym one ∙ ap is_short (equal_by_test entry_cmp exact_entries e q is) ∙ other in
          absurd (differ b same)
    ] refl
  where
    differ : (b : Bool) → b ≡ not b → ⊥
    differ true e = cc
    differ false e = cc

module _ {Z : Type 0} (s t : Numbers Z) (e : Entry) (number : Option ℕ) where
  -- the map of short names has changed at the entry
  pub renumbers-short : (k : ShortEntry) → StandsFor k e → is_short e ≡ true
      → UpdatesBy short_cmp (short_cmp k) s.short t.short number → t.long ≡ s.long
      → Renumbers number e s t
  renumbers-short k same short changed kept q =
      elim (is_short q) as
      (λ b. is_short q ≡ b
      → (if b then get short_cmp t.short (shortened q) else get entry_cmp t.long q)
      ≡ (if is_at (entry_cmp e) q
      then number
      else (if b then get short_cmp s.short (shortened q) else get entry_cmp s.long q))) [
        | true ↦ λ is.
            changed.0 (shortened q)
            ∙ ap (λ (c : ShortEntry → Ordering). if is_at c (shortened q)
            then number
            else get short_cmp s.short (shortened q)) (compares_as k e same)
        | false ↦ λ is.
            rw (apart_by_length e q true short is) (ap (λ m. get entry_cmp m q) kept)
      ] refl

  -- and the map of the others
  pub renumbers-long : is_short e ≡ false
      → UpdatesBy entry_cmp (entry_cmp e) s.long t.long number → t.short ≡ s.short
      → Renumbers number e s t
  renumbers-long long changed kept q =
      elim (is_short q) as
      (λ b. is_short q ≡ b
      → (if b then get short_cmp t.short (shortened q) else get entry_cmp t.long q)
      ≡ (if is_at (entry_cmp e) q
      then number
      else (if b then get short_cmp s.short (shortened q) else get entry_cmp s.long q))) [
        | true ↦ λ is.
            rw (apart_by_length e q false long is) (ap (λ m. get short_cmp m (shortened q)) kept)
        | false ↦ λ is. changed.0 q
      ] refl
