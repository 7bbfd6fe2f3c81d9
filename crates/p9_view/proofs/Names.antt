-- The names on the way from an entry of a tour up to the first.
use Rattle.std.proofs.Common.{◌≡◌, ℕ, ◌<◌, List, [], ◌∷◌, ◌++◌, Option, Some, None, length}
use Rattle.std.proofs.Common.{reverse, refl, sym, ap, ◌∙◌, subst, append_assoc, append-nil, arith}
use Rattle.std.specs.Prelude.{slice_get}
use Rattle.std.specs.Option.{option_and_then, option_map}
use Rattle.std.proofs.lemmas.List.{reverse-append}
use Rattle.std.proofs.lemmas.Option.{slice_get_cases}
use Rattle.p9_policy.proofs.Basics.{not_some, some_same}
use Rattle.p9_view.specs.declared.tour.Entry.{Entry}
use Rattle.p9_view.specs.declared.tour.Origin.{Origin}
use Rattle.p9_view.specs.Tour.{IsPathTo, IsTour, origin_at, origin_pair}
use Rattle.p9_view.specs.Tour.IsPathTo.{Root, Below}

-- a path to the one entry leads on, by the names turned round, to the other
pub record IsAbove (entries : List Entry) (here at : ℕ) (names : List (List ℕ)) : Type 0 where
  pub within : here < length entries
  pub onward : (path : List (List ℕ)) → IsPathTo entries here path
      → IsPathTo entries at (path ++ reverse names)

-- no name
pub above-none : (entries : List Entry) (at : ℕ) → at < length entries → IsAbove entries at at []
above-none entries at within = record {
  within = within;
  onward = λ path p. subst (IsPathTo entries at) (sym (append-nil path)) p;
}

module _ (entries : List Entry) (tour : IsTour entries) (here at : ℕ) (names : List (List ℕ))
    (above : IsAbove entries here at names) where
  -- one entry up
  pub above-more : (parent : ℕ) (name : List ℕ) (more : List (List ℕ))
      → origin_at entries here ≡ Some (parent, name) → more ≡ names ++ name ∷ []
      → (parent < here) × IsAbove entries parent at more
  above-more parent name more is grown = go (slice_get entries here) refl is
    where
      by : (e : Entry) → slice_get entries here ≡ Some e → (o : Option Origin) → e.origin ≡ o
          → option_map origin_pair o ≡ Some (parent, name)
          → (parent < here) × IsAbove entries parent at more
      by e there None none f = not_some (parent, name) f
      by e there (Some o) some f =
          let same = some_same (o.parent, o.name) (parent, name) f in
          let up : o.parent ≡ parent = ap (λ p. p.0) same in
          let by_name : o.name ≡ name = ap (λ p. p.1) same in
          let less = tour.earlier here e o there some in
          let in_range = above.within in (
            omega arith,
            record {
              within = omega arith;
              onward = λ path p.
                  subst (IsPathTo entries at)
                  (append_assoc path (o.name ∷ []) (reverse names)
                  ∙ ap (λ n. path ++ (n ∷ reverse names)) by_name
                  ∙ ap (λ ns. path ++ ns) (sym (ap reverse grown ∙ reverse-append names (name ∷ []))))
                  (above.onward (path ++ o.name ∷ [])
                  (Below here e o path there some
                  (subst (λ i. IsPathTo entries i path) (sym up) p)));
            },
          )

      go : (e : Option Entry) → slice_get entries here ≡ e
          → option_map origin_pair (option_and_then (λ e. e.origin) e)
          ≡ Some (parent, name)
          → (parent < here) × IsAbove entries parent at more
      go None there f = not_some (parent, name) f
      go (Some e) there f = by e there e.origin refl f

  -- the first entry
  pub above-end : origin_at entries here ≡ None → IsPathTo entries at (reverse names)
  above-end is = go (slice_get entries here) refl is
    where
      past : slice_get entries here ≡ None → here < length entries → ⊥
      past none low =
          grind (arith, slice_get_cases)

      first : here ≡ 0 → IsPathTo entries at (reverse names)
      first zero = above.onward [] (subst (λ i. IsPathTo entries i []) (sym zero) Root)

      by : (e : Entry) → slice_get entries here ≡ Some e → (o : Option Origin) → e.origin ≡ o
          → option_map origin_pair o ≡ None
          → IsPathTo entries at (reverse names)
      by e there None none f = first (tour.first here e there none)
      by e there (Some o) some f = not_some (o.parent, o.name) (sym f)

      go : (e : Option Entry) → slice_get entries here ≡ e
          → option_map origin_pair (option_and_then (λ e. e.origin) e)
          ≡ None → IsPathTo entries at (reverse names)
      go None there f = absurd (past there above.within)
      go (Some e) there f = by e there e.origin refl f
