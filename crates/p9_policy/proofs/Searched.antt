-- Rows that rise: one more, and the binary search for one.
use Rattle.std.proofs.Common.{◌≡◌, ◌≢◌, ℕ, ◌-◌, ◌<◌, ◌≤◌, Bool, true, false, List, []}
use Rattle.std.proofs.Common.{◌∷◌, ◌++◌, inl, inr, refl, sym, ap, ◌∙◌, subst}
use Rattle.std.proofs.Common.{arith}
use Rattle.std.proofs.Common.{length, get_or, AllPairs}
use Rattle.std.specs.Prelude.{IsTrue}
use Rattle.std.specs.List.Sorted.{IsPartitionPoint, IsPartitionedBy}
use Rattle.std.specs.Option.{option_map_or}
use Rattle.std.proofs.lemmas.Bool.{cases_lt}
use Rattle.std.proofs.lemmas.Bool.Decides.{nat_tests}
use Rattle.std.proofs.lemmas.List.{get_or_default}
use Rattle.std.proofs.lemmas.Option.{slice_get_read}
use Rattle.std.proofs.lemmas.List.Folds.{list_any_at, list_any_none}
use Rattle.std.proofs.lemmas.List.Elements.{All-push}
use Rattle.std.proofs.lemmas.List.Quantifiers.{all_pairs_push}
use Rattle.p9_base.specs.declared.node_ref.NodeRef.{NodeRef}
use Rattle.p9_base.specs.NodeRef.{same_node}
use Rattle.p9_policy.specs.Rows.{IsCertificate, IsRow, is_below, is_row, may_follow}

-- a node that comes before another comes before those after that
pub below-below : (a b c : NodeRef) → is_below a b ≡ true → is_below b c ≡ true
    → is_below a c ≡ true
below-below a b c p q = grind (arith, nat_tests)

-- and is another
below-other : (a b : NodeRef) → is_below a b ≡ true → same_node a b ≡ false
below-other a b p = grind (arith, nat_tests)

-- what comes after a node that does not come before another is another too
behind-other : (a b c : NodeRef) → is_below a c ≡ false → is_below a b ≡ true
    → same_node b c ≡ false
behind-other a b c p q = grind (arith, nat_tests)

abbrev pub Rising : List NodeRef → Type 0
Rising rows = AllPairs (λ a b. IsTrue (is_below a b)) rows

-- the rows before a node come first
pub partitioned : (rows : List NodeRef) (at : NodeRef) → Rising rows
    → IsPartitionedBy (λ row. is_below row at) rows
partitioned rows at rising i j d le l below =
    elim (cases_lt i j) [
      | inl lt ↦ below-below (get_or rows i d) (get_or rows j d) at (rising i j d lt l) below
      | inr ge ↦ (let same : j ≡ i = omega arith in
          subst (λ k. is_below (get_or rows k d) at ≡ true) same below)
    ]

module _ (rows : List NodeRef) (at : NodeRef) (rising : Rising rows) (i : ℕ)
    (point : IsPartitionPoint (λ row. is_below row at ≡ true) (λ row. is_below row at ≡ false)
    rows i) where
  -- no row but that at the place may be the node
  others : (k : ℕ) (d : NodeRef) → k < length rows → k ≢ i → same_node (get_or rows k d) at ≡ false
  others k d l ne = elim (cases_lt k i) [
    | inl lt ↦ below-other (get_or rows k d) at (point.0 k d (omega arith) lt)
    | inr ge ↦ behind-other (get_or rows i d) (get_or rows k d) at
        (point.1 i d (omega arith) (omega arith)) (rising i k d (omega arith) l)
  ]

  -- there is none at the place
  pub searched-past : length rows ≤ i → false ≡ is_row rows at
  searched-past l =
      sym (list_any_none (λ row. same_node row at) rows
      (λ k d within. others k d within (omega arith)))

  -- there is one
  pub searched-at : (row d : NodeRef) → i < length rows → row ≡ get_or rows i d
      → same_node row at ≡ is_row rows at
  searched-at row d l e = go (same_node row at) refl
    where
      same_at : (b : Bool) → same_node row at ≡ b → same_node (get_or rows i d) at ≡ b
      same_at b s = subst (λ r. same_node r at ≡ b) e s

      any_default : (k : ℕ) (d' : NodeRef) → k < length rows → k ≡ i
          → get_or rows k d' ≡ get_or rows i d
      any_default k d' within is =
          ap (λ j. get_or rows j d') is
          ∙ get_or_default rows i d' d l

      each : same_node row at ≡ false → (k : ℕ) (d' : NodeRef) → k < length rows
          → same_node (get_or rows k d') at ≡ false
      each s k d' within = elim (cases_lt k i) [
        | inl lt ↦ others k d' within (omega arith)
        | inr ge ↦ elim (cases_lt i k) [
          | inl gt ↦ others k d' within (omega arith)
          | inr le ↦ subst (λ r. same_node r at ≡ false)
              (sym (any_default k d' within (omega arith))) (same_at false s)
        ]
      ]

      go : (b : Bool) → same_node row at ≡ b → same_node row at ≡ is_row rows at
      go true s = s ∙ sym (list_any_at (λ r. same_node r at) rows i d l (same_at true s))
      go false s = s ∙ sym (list_any_none (λ r. same_node r at) rows (each s))

-- One row more.

-- it comes after all
follows : (rows : List NodeRef) (row : NodeRef) → Rising rows → may_follow rows row ≡ true
    → (k : ℕ) (d : NodeRef) → k < length rows → is_below (get_or rows k d) row ≡ true
follows rows row rising follow k d l =
    elim (cases_lt k (length rows - 1)) [
      | inl lt ↦ below-below (get_or rows k d) (get_or rows (length rows - 1) d) row
          (rising k (length rows - 1) d lt (omega arith)) last
      | inr ge ↦ (let same : length rows - 1 ≡ k = omega arith in
          subst (λ j. is_below (get_or rows j d) row ≡ true) same last)
    ]
  where
    last : is_below (get_or rows (length rows - 1) d) row ≡ true
    last =
        sym (ap (λ o. option_map_or (λ l. is_below l row) o true)
        (slice_get_read rows (length rows) (length rows - 1) (get_or rows (length rows - 1) d) refl
        (omega arith)
        (get_or_default rows (length rows - 1) d (get_or rows (length rows - 1) d) (omega arith))))
        ∙ follow

pub certificate-push : (rows : List NodeRef) (row : NodeRef) → IsCertificate rows
    → may_follow rows row ≡ true → IsRow row → IsCertificate (rows ++ row ∷ [])
certificate-push rows row certificate follow sound = record {
  rising =
      all_pairs_push (λ a b. IsTrue (is_below a b)) rows row certificate.rising
      (follows rows row certificate.rising follow);
  sound = All-push IsRow rows row certificate.sound sound;
}
