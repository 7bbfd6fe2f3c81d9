-- Fids with their rows, after the first is taken out, if there is one.
use Rattle.std.proofs.Common.{◌≡◌, ◌<◌, ◌↔◌, ℕ, true, false, List, [], ◌∷◌, Option, Some, None}
use Rattle.std.proofs.Common.{Equal, IfSome, IfNone, IsSome, ap, arith, drop, get_or, length, refl}
use Rattle.std.proofs.Common.{sym}
use Rattle.std.specs.Cmp.{nat_cmp_is}
use Rattle.std.specs.Map.{values_of}
use Rattle.std.specs.Ordering.{nat_cmp}
use Rattle.std.specs.BTreeMap.{is_at}
use Rattle.p9_space.specs.Table.{MountRow}
use Rattle.p9_fids.specs.Fid.{FidRow}
use Rattle.p9_fids.specs.Fids.{IsFids}
use Rattle.p9_fids.specs.Held.{AllFit, Held, HeldFits, fid_of, held_fids, map_values}
use Rattle.p9_fids.proofs.Fids.{fids-without}

at-itself : (k : ℕ) → is_at (nat_cmp k) k ≡ true
at-itself k = rw (sym (nat_cmp_is k k Equal refl)) refl

-- without the first
fids-rest : (row : FidRow) (rows : List FidRow) → IsFids (row ∷ rows) → IsFids rows
fids-rest row rows kept = rw (at-itself row.0) at (fids-without row.0 (row ∷ rows) kept)

pub fids-popped : (first : Option (ℕ × Held)) (old new : List (ℕ × Held))
    → IfSome first (λ entry. old ≡ entry ∷ new) → IfNone first (new ≡ old)
    → IsFids (map_values fid_of old) → IsFids (map_values fid_of new)
fids-popped None old new is same kept = rw same kept
fids-popped (Some entry) old new is same kept =
    fids-rest (entry.0, entry.1.fid) (map_values fid_of new) (rw is at kept)

pub popped-some : (first : Option (ℕ × Held)) (old new : List (ℕ × Held))
    → IfSome first (λ entry. old ≡ entry ∷ new)
    → IfSome first (λ entry. map_values fid_of old ≡ (entry.0, entry.1.fid) ∷ map_values fid_of new)
popped-some None old new is = tt
popped-some (Some entry) old new is = ap (map_values fid_of) is

pub popped-none : (first : Option (ℕ × Held)) (old new : List (ℕ × Held))
    → IsSome first ↔ (0 < length old) → IfNone first (new ≡ old)
    → IfNone first ((map_values fid_of old ≡ []) × (held_fids new ≡ held_fids old))
popped-none None [] new there same = (refl, ap held_fids same)
popped-none None (entry ∷ old) new there same =
    let no : false ≡ true = there.1 (omega arith) in absurd (cc)
popped-none (Some entry) old new there same = tt

module _ (table : List MountRow) where
  pub fits-popped : (first : Option (ℕ × Held)) (old new : List (ℕ × Held))
      → IfSome first (λ entry. old ≡ entry ∷ new) → AllFit table (held_fids old)
      → IfSome first (λ entry. HeldFits table entry.1)
  fits-popped None old new is fit = tt
  fits-popped (Some entry) old new is fit =
      let all : AllFit table (held_fids (entry ∷ new)) = rw is at fit in
      ap (λ rows. get_or (values_of rows) 0 entry.1.rows) all

  pub fit-popped : (first : Option (ℕ × Held)) (old new : List (ℕ × Held))
      → IfSome first (λ entry. old ≡ entry ∷ new) → IfNone first (new ≡ old)
      → AllFit table (held_fids old) → AllFit table (held_fids new)
  fit-popped None old new is same fit = rw same fit
  fit-popped (Some entry) old new is same fit =
      let all : AllFit table (held_fids (entry ∷ new)) = rw is at fit in ap (drop 1) all
