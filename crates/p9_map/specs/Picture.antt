-- What a picture of an input says.
use Rattle.std.specs.Prelude.{◌≡◌, ◌⊎◌, ℕ, List, [], ◌∷◌, ◌++◌, Option, Some, None, Result, Ok, Err}
use Rattle.std.specs.Prelude.{AllPairs, codes, map}
use Rattle.std.specs.List.{AllByRecursion}
use Rattle.p9_base.specs.declared.node_ref.NodeRef.{NodeRef}
use Rattle.p9_cert.specs.Policy.{policy_of}
use Rattle.p9_cert.specs.Rows.{is_row}
use Rattle.p9_cert.specs.declared.gap.Gap.{Gap}
use Rattle.p9_judge.specs.Breach.{IsBreach, IsByFirst}
use Rattle.p9_judge.specs.Verdict.{IsLeast}
use Rattle.p9_space.specs.Place.{root_place}
use Rattle.p9_space.specs.Table.{MountRow}
use Rattle.p9_world.specs.World.{World}
use Rattle.p9_prepared.specs.NameSpace.{NameSpace, gap_over}
use Rattle.p9_prepared.specs.Prepared.{Prepared, Rejected, gap_in, rejected_text}
use Rattle.p9_prepared.specs.Report.{reports_text}
use Rattle.p9_map.specs.Box.{box_text}
use Rattle.p9_map.specs.Claim.{claim_text, shown_path}
use Rattle.p9_map.specs.Label.{AreLabels, cut_text}
use Rattle.p9_map.specs.Legend.{left_out_line}
use Rattle.p9_map.specs.Mark.{mark_of}
use Rattle.p9_map.specs.Plan.{IsPlan}
use Rattle.p9_map.specs.Rect.{AreApart}
use Rattle.p9_map.specs.Scene.{AreThose, is_marked}
use Rattle.p9_map.specs.Standing.{drawn_rows, standing_of, standing_status, standing_text}
use Rattle.p9_map.specs.Svg.{text_element}
use Rattle.p9_map.specs.Walk.{Walk, hops_from}
use Rattle.p9_map.specs.declared.item.Placed.{Placed}
use Rattle.p9_map.specs.declared.order.Spot.{Spot}
use Rattle.p9_map.specs.declared.walk.Hop.{Hop}

-- The parts of a picture.

-- what stands below the verdict: the claim, and how the certificate stands
abbrev pub title_text : World → (standing : List ℕ) → List ℕ
title_text world standing =
    codes "</text>\n" ++ text_element (codes "name") 24 52 (cut_text 100 (claim_text world))
    ++ text_element (codes "name") 24 74 standing

-- boxes with their labels, and the paths of their nodes as titles
abbrev pub boxes_text : World → (rows : List NodeRef) → Option Walk → List Placed
    → List (List ℕ × List ℕ) → List ℕ
boxes_text world rows walk [] labels = []
boxes_text world rows walk (b ∷ bs) [] = []
boxes_text world rows walk (b ∷ bs) (l ∷ ls) =
    box_text b.rect (mark_of world rows walk b.node) (shown_path world b.node) l.0 l.1
    ++ boxes_text world rows walk bs ls

-- the end: what is left out
abbrev pub last_text : (y left_out marked_left_out : ℕ) → List ℕ
last_text y left_out marked_left_out = left_out_line y left_out marked_left_out ++ codes "</svg>\n"

-- the boxes of these nodes, no two of which overlap, with their labels; and the picture that has them,
-- between lines and the legend
pub record IsDrawing (world : World) (rows : List NodeRef) (walk : Option Walk) (spots : List Spot)
    (left_out marked_left_out : ℕ) (verdict standing svg : List ℕ) : Type 0 where
  pub boxes : List Placed
  pub nodes : map (λ b. b.node) boxes ≡ map (λ s. s.node) spots
  pub apart : AllPairs (λ a b. AreApart a.rect b.rect) boxes
  pub labels : List (List ℕ × List ℕ)
  pub labelled : AreLabels world walk (map (λ s. s.node) spots) labels
  pub head : List ℕ
  pub lines : List ℕ
  pub legend : List ℕ
  pub left_out_at : ℕ
  pub is : svg ≡ head ++ verdict ++ title_text world standing ++ lines
      ++ boxes_text world rows walk boxes labels ++ legend
      ++ last_text left_out_at left_out marked_left_out

-- the picture of a world with its mount table, in which these rows are drawn, and this walk: the boxes
-- are those of a plan
pub record IsPage (world : World) (table : List MountRow) (rows : List NodeRef) (walk : Option Walk)
    (hops : List Hop) (verdict standing svg : List ℕ) : Type 0 where
  pub hidden : List NodeRef
  pub hides : AreThose hidden (is_row world.hidden)
  pub marked : List NodeRef
  pub marks : AreThose marked (is_marked world.hidden hops table)
  pub spots : List Spot
  pub left_out : ℕ
  pub marked_left_out : ℕ
  pub plan : IsPlan world.forest hidden marked spots left_out marked_left_out
  pub drawing : IsDrawing world rows walk spots left_out marked_left_out verdict standing svg

-- What is drawn, by the verdict.

-- yes: the rows of the input's certificate are drawn where that has no gap, and else those of the judge
pub record ShowsYes (space : NameSpace) (given : Option (List NodeRef)) (gap : Option Gap)
    (status : ℕ) (svg : List ℕ) : Type 0 where
  pub least : List NodeRef
  pub closed : gap_over space least ≡ None
  pub is_least : IsLeast (policy_of space.world) space.world.forest space.table least
  pub page : IsPage space.world space.table (drawn_rows given gap least) None [] (codes "verdict: yes")
      (standing_text (standing_of given gap)) svg
  pub ends : status ≡ standing_status (standing_of given gap)

-- no: the walk of a breach is drawn, in which each step's user is the first listed one who may pass, and
-- no directory as one that clients can reach
pub record ShowsNo (space : NameSpace) (given : Option (List NodeRef)) (gap : Option Gap)
    (status : ℕ) (svg : List ℕ) : Type 0 where
  pub walk : Walk
  pub breach : IsBreach (policy_of space.world) space.world.forest space.table walk.steps walk.member
      walk.kind
  pub by_first : AllByRecursion (IsByFirst (policy_of space.world) space.world.forest) walk.steps
  pub page : IsPage space.world space.table [] (Some walk)
      (hops_from space.world.forest root_place walk.steps walk.member) (codes "verdict: no")
      (standing_text (standing_of given gap)) svg
  pub ends : status ≡ 1

-- a picture of either is added
pub record IsPicture (space : NameSpace) (given : Option (List NodeRef)) (gap : Option Gap)
    (status : ℕ) (before after : List ℕ) : Type 0 where
  pub svg : List ℕ
  pub shown : ShowsYes space given gap status svg ⊎ ShowsNo space given gap status svg
  pub added : after ≡ before ++ svg

-- What is printed: `out`, `err`, and the exit status.

-- the picture of a name space, after what failed in its making
pub record IsDrawn (space : NameSpace) (given : Option (List NodeRef)) (gap : Option Gap)
    (status : ℕ) (out_before out_after err_before err_after : List ℕ) : Type 0 where
  pub picture : IsPicture space given gap status out_before out_after
  pub reported : err_after ≡ err_before ++ reports_text space.reports

-- of an input; where it has a fault, only that and what failed before it is reported
abbrev pub IsMapped : Result Prepared Rejected → (status : ℕ)
    → (out_before out_after err_before err_after : List ℕ) → Type 0
IsMapped (Ok prepared) status out_before out_after err_before err_after =
    IsDrawn prepared.space prepared.rows (gap_in prepared) status out_before out_after err_before
    err_after
IsMapped (Err rejected) status out_before out_after err_before err_after =
    (status ≡ 1) × (out_after ≡ out_before) × (err_after ≡ err_before ++ rejected_text rejected)
