-- The ranks of nodes, from the last on.
use Rattle.std.proofs.Common.{◌≡◌, ℕ, ◌+◌, ◌-◌, ◌<◌, ◌≤◌, ◌&&◌, ◌||◌, Bool, true, false, List, [], ◌∷◌}
use Rattle.std.proofs.Common.{◌++◌, Some, None, length, map, drop, reverse, get_or, Option, nat_lt}
use Rattle.std.proofs.Common.{if◌then◌else◌, refl, sym, ap, ◌∙◌, subst, arith, MatchBool, inl, inr}
use Rattle.std.proofs.Common.{cond, count_by}
use Rattle.std.specs.Prelude.{IsTrue}
use Rattle.std.specs.List.{All, list_any}
use Rattle.std.proofs.lemmas.Bool.{cases_Bool, false≢true, lt-leb, or_left, or_right}
use Rattle.std.proofs.lemmas.List.Elements.{All-cons, All-nil}
use Rattle.p9_policy.proofs.Basics.{same_self}
use Rattle.p9_map.specs.Line.{is_at}
use Rattle.std.proofs.lemmas.List.{drop_all, drop_more, reverse-append}
use Rattle.std.proofs.lemmas.List.Sums.{sum_by-cons}
use Rattle.p9_base.specs.declared.node_ref.NodeRef.{NodeRef}
use Rattle.p9_tree.specs.Forest.{is_dir_of}
use Rattle.p9_tree.specs.Server.{Server}
use Rattle.p9_cert.specs.Rows.{is_row}
use Rattle.p9_map.specs.Order.{AreAll, deeper}
use Rattle.p9_map.specs.Plan.{AreFirst, IsPlan, boxes_max, chosen_at, is_noted, is_within, kept_count}
use Rattle.p9_map.specs.Plan.{noted_depth, rank_of, ranked}
use Rattle.p9_map.specs.declared.order.Spot.{Spot}
use Rattle.p9_map.specs.declared.plan.Ranked.{Ranked}

-- the depth of the noted node that comes next, and whether one before it is noted
module _ (these : List NodeRef) (s : Spot) (rest : List Spot) (depth : ℕ) (noted : Bool) where
  noted-same : depth ≡ noted_depth these rest
      → noted ≡ (nat_lt s.depth depth || is_row these s.node) → noted ≡ is_noted these s rest
  noted-same deep is = is ∙ ap (λ k. nat_lt s.depth k || is_row these s.node) deep

  noted-next : (after : ℕ) → depth ≡ noted_depth these rest → noted ≡ is_noted these s rest
      → after ≡ (if noted then s.depth else depth) → after ≡ noted_depth these (s ∷ rest)
  noted-next after deep same is =
      is ∙ ap (λ k. if noted then s.depth else k) deep
      ∙ ap (λ b. if b then s.depth else noted_depth these rest) same

count-step : (p : Spot → Bool) (s : Spot) (ss : List Spot)
    → count_by p (s ∷ ss) ≡ (if p s then 1 else 0) + count_by p ss
count-step p s ss = sum_by-cons (λ x. cond (p x) 1 0) s ss

-- Those that are chosen.

module _ (depth left : ℕ) (r : Ranked) (rs : List Ranked) where
  pub chosen-kept : r.kept ≡ true → chosen_at depth left (r ∷ rs) ≡ r.spot ∷ chosen_at depth left rs
  chosen-kept kept =
      ap (λ b. if b then r.spot ∷ chosen_at depth left rs
      else if nat_lt 0 left && is_within depth r then r.spot ∷ chosen_at depth (left - 1) rs
      else chosen_at depth left rs) kept

  chosen-other : r.kept ≡ false → chosen_at depth left (r ∷ rs)
      ≡ (if nat_lt 0 left && is_within depth r then r.spot ∷ chosen_at depth (left - 1) rs
      else chosen_at depth left rs)
  chosen-other other =
      ap (λ b. if b then r.spot ∷ chosen_at depth left rs
      else if nat_lt 0 left && is_within depth r then r.spot ∷ chosen_at depth (left - 1) rs
      else chosen_at depth left rs) other

  pub chosen-more : r.kept ≡ false → (nat_lt 0 left && is_within depth r) ≡ true
      → chosen_at depth left (r ∷ rs) ≡ r.spot ∷ chosen_at depth (left - 1) rs
  chosen-more other more =
      chosen-other other
      ∙ ap (λ b. if b then r.spot ∷ chosen_at depth (left - 1) rs else chosen_at depth left rs) more

  pub chosen-not : r.kept ≡ false → (nat_lt 0 left && is_within depth r) ≡ false
      → chosen_at depth left (r ∷ rs) ≡ chosen_at depth left rs
  chosen-not other not =
      chosen-other other
      ∙ ap (λ b. if b then r.spot ∷ chosen_at depth (left - 1) rs else chosen_at depth left rs) not

-- what counts the spots of a list counts no more of the chosen than of all
module _ (f : List Spot → ℕ) (g : Spot → ℕ) (step : (s : Spot) (ss : List Spot) → f (s ∷ ss) ≡ g s + f ss) where
  pub counts-chosen : (depth left : ℕ) (rs : List Ranked)
      → f (chosen_at depth left rs) ≤ f (map (λ r. r.spot) rs)
  counts-chosen depth left [] = omega arith
  counts-chosen depth left (r ∷ rs) =
      let all = step r.spot (map (λ r. r.spot) rs) in
      elim (cases_Bool r.kept) [
        | inl kept ↦ omega (
          arith,
          ap f (chosen-kept depth left r rs kept),
          step r.spot (chosen_at depth left rs),
          all,
          counts-chosen depth left rs,
        )
        | inr other ↦ elim (cases_Bool (nat_lt 0 left && is_within depth r)) [
          | inl more ↦ omega (
            arith,
            ap f (chosen-more depth left r rs other more),
            step r.spot (chosen_at depth (left - 1) rs),
            all,
            counts-chosen depth (left - 1) rs,
          )
          | inr not ↦ omega (
            arith,
            ap f (chosen-not depth left r rs other not),
            all,
            counts-chosen depth left rs,
          )
        ]
      ]

-- the chosen so far, and those that are chosen of the rest
module _ (depth : ℕ) (all : List Ranked) (i left : ℕ) (r d : Ranked) (so_far whole : List Spot) where
  here : i < length all → r ≡ get_or all i d → drop i all ≡ r ∷ drop (i + 1) all
  here l at = drop_more all i d l ∙ ap (λ x. x ∷ drop (i + 1) all) (sym at)

module _ (forest : List Server) (hidden marked : List NodeRef) where
  -- the nodes from the i-th on are ranked, and this deep are the noted and the kept one that come next
  pub record AreRanked (spots : List Spot) (i : ℕ) (found : List Ranked) (depth kept : ℕ) : Type 0 where
    pub nodes : reverse found ≡ ranked forest hidden marked (drop i spots)
    pub next : depth ≡ noted_depth marked (drop i spots)
    pub next_kept : kept ≡ noted_depth hidden (drop i spots)

  pub ranked-none : (spots : List Spot) (i : ℕ) → length spots ≤ i → AreRanked spots i [] 0 0
  ranked-none spots i l =
      let none : drop i spots ≡ [] = drop_all i spots l in
      record {
        nodes = ap (ranked forest hidden marked) (sym none);
        next = ap (noted_depth marked) (sym none);
        next_kept = ap (noted_depth hidden) (sym none);
      }

  module _ (spots : List Spot) (i j : ℕ) (found pushed : List Ranked) (depth kept after after_kept : ℕ) where
    pub ranked-more : (s d : Spot) (noted kept_one : Bool) (rank : Option ℕ) → i < length spots
        → j ≡ i + 1
        → s ≡ get_or spots i d
        → noted ≡ (nat_lt s.depth depth || is_row marked s.node)
        → kept_one ≡ (nat_lt s.depth kept || is_row hidden s.node)
        → rank ≡ (if noted then Some 0
        else if is_dir_of s.node forest then Some (deeper s.depth) else None)
        → after ≡ (if noted then s.depth else depth)
        → after_kept ≡ (if kept_one then s.depth else kept)
        → pushed ≡ found ++ record { spot = s; rank = rank; kept = kept_one } ∷ []
        → AreRanked spots j found depth kept
        → AreRanked spots i pushed after after_kept
    ranked-more s d noted kept_one rank l next at is_noted_ is_kept is_rank is_after is_after_kept is_pushed so_far =
        let pack : Option ℕ → Bool → Ranked = λ k b. record { spot = s; rank = k; kept = b } in
        let r : Ranked = pack rank kept_one in
        let rest = drop (i + 1) spots in
        let here : drop i spots ≡ s ∷ rest = drop_more spots i d l ∙ ap (λ x. x ∷ rest) (sym at) in
        let nodes : reverse found ≡ ranked forest hidden marked rest =
        so_far.nodes ∙ ap (λ k. ranked forest hidden marked (drop k spots)) next in
        let deep : depth ≡ noted_depth marked rest =
        so_far.next ∙ ap (λ k. noted_depth marked (drop k spots)) next in
        let deep_kept : kept ≡ noted_depth hidden rest =
        so_far.next_kept ∙ ap (λ k. noted_depth hidden (drop k spots)) next in
        let same : noted ≡ is_noted marked s rest = noted-same marked s rest depth noted deep is_noted_ in
        let same_kept : kept_one ≡ is_noted hidden s rest =
        noted-same hidden s rest kept kept_one deep_kept is_kept in
        let row : r ≡ pack (rank_of forest hidden marked s rest) (is_noted hidden s rest) =
        ap (λ k. pack k kept_one) (is_rank
        ∙ ap (λ (b : Bool). if b then Some 0
        else if is_dir_of s.node forest then Some (deeper s.depth) else None) same)
        ∙ ap (pack (rank_of forest hidden marked s rest)) same_kept in
        record {
          nodes =
              ap reverse is_pushed ∙ reverse-append found (r ∷ [])
              ∙ ap (λ xs. r ∷ xs) nodes ∙ ap (λ x. x ∷ ranked forest hidden marked rest) row
              ∙ ap (ranked forest hidden marked) (sym here);
          next =
              noted-next marked s rest depth noted after deep same is_after
              ∙ ap (noted_depth marked) (sym here);
          next_kept =
              noted-next hidden s rest kept kept_one after_kept deep_kept same_kept is_after_kept
              ∙ ap (noted_depth hidden) (sym here);
        }

  pub ranked-all : (spots : List Spot) (i : ℕ) (found : List Ranked) (depth kept : ℕ) → i ≡ 0
      → AreRanked spots i found depth kept → reverse found ≡ ranked forest hidden marked spots
  ranked-all spots i found depth kept first so_far =
      so_far.nodes ∙ ap (λ k. ranked forest hidden marked (drop k spots)) first

  -- the ranked nodes are the nodes
  spots-ranked : (spots : List Spot) → map (λ r. r.spot) (ranked forest hidden marked spots) ≡ spots
  spots-ranked [] = refl
  spots-ranked (s ∷ ss) = ap (λ xs. s ∷ xs) (spots-ranked ss)

  -- each hidden directory among the nodes is among the chosen

  HasBox : List Spot → Spot → Type 0
  HasBox spots s = IsTrue (is_row hidden s.node) → IsTrue (list_any (is_at s.node) spots)

  box-more : (s : Spot) (spots ss : List Spot) → All (HasBox spots) ss → All (HasBox (s ∷ spots)) ss
  unfolding HasBox
  box-more s spots ss boxes k d l row =
      let t = get_or ss k d in
      or_right (is_at t.node s) (list_any (is_at t.node) spots) (boxes k d l row)

  kept-in : (depth left : ℕ) (ss : List Spot)
      → All (HasBox (chosen_at depth left (ranked forest hidden marked ss))) ss
  unfolding HasBox
  kept-in depth left [] = All-nil (HasBox [])
  kept-in depth left (s ∷ ss) =
      let rs = ranked forest hidden marked ss in
      let r : Ranked = record {
        spot = s;
        rank = rank_of forest hidden marked s ss;
        kept = is_noted hidden s ss;
      } in
      elim (cases_Bool r.kept) [
        | inl kept ↦
            subst (λ spots. All (HasBox spots) (s ∷ ss)) (sym (chosen-kept depth left r rs kept))
            (All-cons (HasBox (s ∷ chosen_at depth left rs)) s ss
            (λ row. or_left (is_at s.node s) (list_any (is_at s.node) (chosen_at depth left rs))
            (same_self s.node))
            (box-more s (chosen_at depth left rs) ss (kept-in depth left ss)))
        | inr other ↦
            let none : IsTrue (is_row hidden s.node) → ⊥ = λ row. false≢true (sym other
            ∙ or_right (nat_lt s.depth (noted_depth hidden ss)) (is_row hidden s.node) row) in
            elim (cases_Bool (nat_lt 0 left && is_within depth r)) [
              | inl more ↦
                  subst (λ spots. All (HasBox spots) (s ∷ ss))
                  (sym (chosen-more depth left r rs other more))
                  (All-cons (HasBox (s ∷ chosen_at depth (left - 1) rs)) s ss
                  (λ row. absurd (none row))
                  (box-more s (chosen_at depth (left - 1) rs) ss (kept-in depth (left - 1) ss)))
              | inr not ↦
                  subst (λ spots. All (HasBox spots) (s ∷ ss))
                  (sym (chosen-not depth left r rs other not))
                  (All-cons (HasBox (chosen_at depth left rs)) s ss (λ row. absurd (none row))
                  (kept-in depth left ss))
            ]
      ]

  kept-first : (all spots : List Spot) → AreFirst forest hidden marked all spots
      → All (HasBox spots) all
  kept-first all spots first =
      subst (λ spots. All (HasBox spots) all) (sym first.chosen)
      (kept-in first.depth (boxes_max - kept_count (ranked forest hidden marked all)) all)

  -- the first have boxes
  pub first-plan : (all spots : List Spot) (left_out marked_left_out : ℕ) → AreAll forest all
      → boxes_max < length all → AreFirst forest hidden marked all spots
      → left_out + length spots ≡ length all
      → marked_left_out + count_by (λ s. is_row marked s.node) spots
      ≡ count_by (λ s. is_row marked s.node) all
      → IsPlan forest hidden marked spots left_out marked_left_out
  unfolding HasBox
  first-plan all spots left_out marked_left_out ordered many first others marked_others = record {
    all = all;
    ordered = ordered;
    chosen =
        subst (λ b. MatchBool b (spots ≡ all) (AreFirst forest hidden marked all spots))
        (sym (lt-leb (length all) boxes_max many)) first;
    others = others;
    marked_others = marked_others;
    kept = kept-first all spots first;
  }

  -- no more are chosen than there are
  pub first-few : (all spots : List Spot) → AreFirst forest hidden marked all spots
      → length spots ≤ length all
  first-few all spots first =
      omega (
        arith,
        ap length first.chosen,
        counts-chosen length (λ s. 1) (λ s ss. omega arith) first.depth
            (boxes_max - kept_count (ranked forest hidden marked all))
            (ranked forest hidden marked all),
        ap length (spots-ranked all),
      )

  pub first-counts : (p : Spot → Bool) (all spots : List Spot) → AreFirst forest hidden marked all spots
      → count_by p spots ≤ count_by p all
  first-counts p all spots first =
      omega (
        arith,
        ap (count_by p) first.chosen,
        counts-chosen (count_by p) (λ s. if p s then 1 else 0) (count-step p) first.depth
            (boxes_max - kept_count (ranked forest hidden marked all))
            (ranked forest hidden marked all),
        ap (count_by p) (spots-ranked all),
      )
