-- Fids with their rows, after each change of them.
use Rattle.std.proofs.Common.{◌≡◌, ◌≤◌, ℕ, Bool, true, false, List, Option, Some, None, IfSome, IsSome, MutBor, refl, ap, sym, ◌∙◌}
use Rattle.std.proofs.Common.{arith, length}
use Rattle.std.proofs.lemmas.List.{length-map}
use Rattle.std.specs.Option.{option_copied_mut, option_map}
use Rattle.std.specs.Ordering.{nat_cmp}
use Rattle.std.specs.List.{All}
use Rattle.std.specs.Map.{lookup, remove_entry, set_value, values_of}
use Rattle.std.specs.BTreeMap.{insert_entry, is_at}
use Rattle.p9_space.specs.Channel.{Channels, Fits, row_position, rows_of}
use Rattle.p9_space.specs.Table.{MountRow}
use Rattle.p9_fids.specs.Fid.{Fid, changed_fid, fid_at}
use Rattle.p9_fids.specs.Held.{AllFit, Held, HeldFits, fid_of, held_fids, map_values, rows_in}
use Rattle.p9_fids.proofs.Values.{Alike, alike-all, alike-insert, alike-lookup, alike-remove, alike-set}
use Rattle.p9_fids.proofs.Values.{lookup-mapped, mapped-twice, set-mapped}

-- a fid that is there is found among those with their rows
pub held-there : (fid : ℕ) (entries : List (ℕ × Held)) (found : Option (MutBor Held))
    → option_copied_mut found ≡ lookup (is_at (nat_cmp fid)) entries
    → IsSome (fid_at fid (map_values fid_of entries)) → IsSome found
held-there fid entries None value there =
    let none : fid_at fid (map_values fid_of entries) ≡ None =
    lookup-mapped fid_of (is_at (nat_cmp fid)) entries ∙ ap (option_map fid_of) (sym value) in
    let no : false ≡ true = rw none at there in
    absurd (cc)
held-there fid entries (Some held) value there = refl

-- one fid is changed
pub changed-held : (fid : ℕ) (f : Fid → Fid) (entries : List (ℕ × Held)) (old new : Held)
    → lookup (is_at (nat_cmp fid)) entries ≡ Some old → new.fid ≡ f old.fid
    → map_values fid_of (set_value (is_at (nat_cmp fid)) entries new)
    ≡ changed_fid fid f (map_values fid_of entries)
changed-held fid f entries old new found is =
    let test = is_at (nat_cmp fid) in
    let there : fid_at fid (map_values fid_of entries) ≡ Some old.fid =
    lookup-mapped fid_of test entries ∙ ap (option_map fid_of) found in
    rw there
    (set-mapped fid_of test entries new ∙ ap (set_value test (map_values fid_of entries)) is)

module _ (table : List MountRow) where
  by_table : Held → List (Option ℕ)
  by_table held = rows_of table held.fid.trail

  to_alike : (entries : List (ℕ × Held)) → AllFit table (held_fids entries)
      → Alike rows_in by_table entries
  unfolding by_table
  to_alike entries fit = fit ∙ mapped-twice (λ (fid : Fid). rows_of table fid.trail) fid_of entries

  from_alike : (entries : List (ℕ × Held)) → Alike rows_in by_table entries
      → AllFit table (held_fids entries)
  unfolding by_table
  from_alike entries alike =
      alike ∙ sym (mapped-twice (λ (fid : Fid). rows_of table fid.trail) fid_of entries)

  pub fit-insert : (entries : List (ℕ × Held)) (fid : ℕ) (held : Held)
      → AllFit table (held_fids entries) → HeldFits table held
      → AllFit table (held_fids (insert_entry nat_cmp entries fid held))
  unfolding by_table
  fit-insert entries fid held fit fits =
      from_alike (insert_entry nat_cmp entries fid held)
      (alike-insert rows_in by_table nat_cmp entries fid held (to_alike entries fit) fits)

  pub fit-set : (test : ℕ → Bool) (entries : List (ℕ × Held)) (held : Held)
      → AllFit table (held_fids entries) → HeldFits table held
      → AllFit table (held_fids (set_value test entries held))
  unfolding by_table
  fit-set test entries held fit fits =
      from_alike (set_value test entries held)
      (alike-set rows_in by_table test entries held (to_alike entries fit) fits)

  pub fit-remove : (test : ℕ → Bool) (entries : List (ℕ × Held))
      → AllFit table (held_fids entries) → AllFit table (held_fids (remove_entry test entries))
  fit-remove test entries fit =
      from_alike (remove_entry test entries)
      (alike-remove rows_in by_table test entries (to_alike entries fit))

  pub fit-lookup : (test : ℕ → Bool) (entries : List (ℕ × Held)) (held : Held)
      → AllFit table (held_fids entries) → lookup test entries ≡ Some held → HeldFits table held
  unfolding by_table
  fit-lookup test entries held fit found =
      alike-lookup rows_in by_table test entries held (to_alike entries fit) found

  -- the same where none may be found
  pub fit-found : (test : ℕ → Bool) (entries : List (ℕ × Held)) → AllFit table (held_fids entries)
      → IfSome (lookup test entries) (HeldFits table)
  fit-found test entries fit = go (lookup test entries) refl
    where
      go : (o : Option Held) → lookup test entries ≡ o → IfSome o (HeldFits table)
      go None e = tt
      go (Some held) e = fit-lookup test entries held fit e

  -- each of them fits
  pub fit-all : (entries : List (ℕ × Held)) → AllFit table (held_fids entries)
      → All (HeldFits table) (values_of entries)
  unfolding by_table
  fit-all entries fit = alike-all rows_in by_table entries (to_alike entries fit)

-- a way has room in the fid of the number
pub room-trail : (fid : ℕ) (entries : List (ℕ × Held)) (held : Held) (way : Channels)
    → lookup (is_at (nat_cmp fid)) entries ≡ Some held
    → IfSome (fid_at fid (map_values fid_of entries)) (λ v. length way.trail ≤ length v.trail)
    → length way.trail ≤ length held.fid.trail
room-trail fid entries held way found room =
    let there : fid_at fid (map_values fid_of entries) ≡ Some held.fid =
    lookup-mapped fid_of (is_at (nat_cmp fid)) entries ∙ ap (option_map fid_of) found in
    rw there at room

-- and so have its rows
pub room-rows : (table : List MountRow) (fid : ℕ) (entries : List (ℕ × Held)) (held : Held)
    (way : Channels) → lookup (is_at (nat_cmp fid)) entries ≡ Some held
    → IfSome (fid_at fid (map_values fid_of entries)) (λ v. length way.trail ≤ length v.trail)
    → AllFit table (held_fids entries) → Fits table way → length way.rows ≤ length held.rows
room-rows table fid entries held way found room fit fits =
    let enough = room-trail fid entries held way found room in
    let its = fit-lookup table (is_at (nat_cmp fid)) entries held fit found in
    let old : length held.rows ≡ length held.fid.trail =
    ap length its ∙ length-map held.fid.trail (λ key. row_position key table) in
    let new : length way.rows ≡ length way.trail =
    ap length fits ∙ length-map way.trail (λ key. row_position key table) in
    omega (arith, enough, old, new)
