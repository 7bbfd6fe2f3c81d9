-- Which nodes have boxes.
use Rattle.std.specs.Prelude.{◌≡◌, ℕ, ◌+◌, ◌-◌, ◌≤◌, ◌<◌, ◌&&◌, ◌||◌, ◌⊎◌, Bool, false, List, [], ◌∷◌}
use Rattle.std.specs.Prelude.{Option, Some, None, count_by, length, nat_le, nat_lt, if◌then◌else◌}
use Rattle.std.specs.Prelude.{All, IsTrue, MatchBool}
use Rattle.std.specs.List.{list_any}
use Rattle.std.specs.Option.{option_map_or}
use Rattle.p9_base.specs.declared.node_ref.NodeRef.{NodeRef}
use Rattle.p9_tree.specs.Forest.{is_dir_of}
use Rattle.p9_tree.specs.Server.{Server}
use Rattle.p9_cert.specs.Rows.{is_row}
use Rattle.p9_map.specs.Line.{is_at}
use Rattle.p9_map.specs.Order.{AreAll, deeper}
use Rattle.p9_map.specs.declared.order.Spot.{Spot}
use Rattle.p9_map.specs.declared.plan.Ranked.{Ranked}

-- the most boxes, if no more are hidden directories or above one
abbrev pub boxes_max : ℕ
boxes_max = 200

-- a node gets a box at this depth
abbrev pub is_within : ℕ → Ranked → Bool
is_within depth r = option_map_or (λ rank. nat_le rank depth) r.rank false

-- the greatest depth at which no more nodes get boxes than may; at least 1
pub record IsDepth (all : List Ranked) (depth : ℕ) : Type 0 where
  pub fits : (depth ≡ 1) ⊎ (count_by (is_within depth) all ≤ boxes_max)
  pub full : (depth ≡ boxes_max) ⊎ (boxes_max < count_by (is_within (depth + 1)) all)

-- in how many directories the first node of the list is that is noted, and 0 where none is. A node
-- is noted where it is one of these, or is above the noted node that comes next: that one is deeper
abbrev pub noted_depth : (these : List NodeRef) → List Spot → ℕ
noted_depth these [] = 0
noted_depth these (s ∷ ss) =
    if nat_lt s.depth (noted_depth these ss) || is_row these s.node then s.depth
    else noted_depth these ss

-- a node is noted that comes before these
abbrev pub is_noted : (these : List NodeRef) → Spot → List Spot → Bool
is_noted these s ss = nat_lt s.depth (noted_depth these ss) || is_row these s.node

-- how many are kept
abbrev pub kept_count : List Ranked → ℕ
kept_count all = count_by (λ r. r.kept) all

-- those that get boxes at a depth, where beside those that are kept so many may: all that are kept,
-- and the first of the others
abbrev pub chosen_at : (depth left : ℕ) → List Ranked → List Spot
chosen_at depth left [] = []
chosen_at depth left (r ∷ rs) =
    if r.kept then r.spot ∷ chosen_at depth left rs
    else if nat_lt 0 left && is_within depth r then r.spot ∷ chosen_at depth (left - 1) rs
    else chosen_at depth left rs

module _ (forest : List Server) (hidden marked : List NodeRef) where
  -- at which depth a node gets a box, before these: at 0 where it is marked or above one that is, at
  -- one more than its own where it is another directory, and at none where it is another file
  abbrev pub rank_of : Spot → List Spot → Option ℕ
  rank_of s ss =
      if is_noted marked s ss then Some 0
      else if is_dir_of s.node forest then Some (deeper s.depth) else None

  -- a node is kept where it is hidden or above a hidden directory
  abbrev pub ranked : List Spot → List Ranked
  ranked [] = []
  ranked (s ∷ ss) = record {
    spot = s;
    rank = rank_of s ss;
    kept = is_noted hidden s ss;
  } ∷ ranked ss

  -- those that are kept, and the first others that get boxes at the greatest depth
  pub record AreFirst (all spots : List Spot) : Type 0 where
    pub depth : ℕ
    pub greatest : IsDepth (ranked all) depth
    pub chosen : spots ≡ chosen_at depth (boxes_max - kept_count (ranked all)) (ranked all)

  -- of all nodes, in order, all have boxes where they may, and else the first; of those that have none
  -- so many are marked. Each hidden directory has one
  pub record IsPlan (spots : List Spot) (left_out marked_left_out : ℕ) : Type 0 where
    pub all : List Spot
    pub ordered : AreAll forest all
    pub chosen : MatchBool (nat_le (length all) boxes_max) (spots ≡ all) (AreFirst all spots)
    pub others : left_out + length spots ≡ length all
    pub marked_others : marked_left_out + count_by (λ s. is_row marked s.node) spots
        ≡ count_by (λ s. is_row marked s.node) all
    pub kept : All (λ s. IsTrue (is_row hidden s.node) → IsTrue (list_any (is_at s.node) spots)) all
