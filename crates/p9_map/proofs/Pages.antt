-- What a picture says.
use Rattle.std.proofs.Common.{◌≡◌, ℕ, IsTrue, List, [], ◌++◌, Option, Some, None, inl, inr, subst, ap, ◌∙◌}
use Rattle.std.specs.Prelude.{codes}
use Rattle.std.specs.List.{AllByRecursion}
use Rattle.p9_base.specs.declared.node_ref.NodeRef.{NodeRef}
use Rattle.p9_cert.specs.Policy.{policy_of}
use Rattle.p9_cert.specs.declared.gap.Gap.{Gap}
use Rattle.p9_judge.specs.Breach.{IsBreach, IsByFirst}
use Rattle.p9_judge.specs.Verdict.{IsLeast, IsVerdict}
use Rattle.p9_judge.specs.declared.verdict.Verdict.{Verdict}
use Rattle.p9_judge.specs.declared.verdict.Verdict.TheVariants.{Yes, No}
use Rattle.p9_judge.specs.declared.breach.Breach.{Breach}
use Rattle.p9_space.specs.Given.{is_table_given}
use Rattle.p9_space.specs.Place.{root_place}
use Rattle.p9_space.specs.Table.{MountRow}
use Rattle.p9_world.specs.World.{World}
use Rattle.p9_prepared.specs.NameSpace.{NameSpace}
use Rattle.p9_map.specs.Picture.{IsPage, IsPicture}
use Rattle.p9_map.specs.Standing.{drawn_rows, standing_of, standing_status, standing_text}
use Rattle.p9_map.specs.Walk.{Walk, hops_from, walk_of}
use Rattle.p9_map.specs.declared.standing.Standing.{Standing}
use Rattle.p9_map.specs.declared.walk.Hop.{Hop}

-- the page of another scene that is the same
page-same : (w world : World) (t table : List MountRow) (r rows : List NodeRef) (k walk : Option Walk)
    (h hops : List Hop) (s standing : Standing) (verdict svg : List ℕ) → w ≡ world → t ≡ table
    → r ≡ rows → k ≡ walk → h ≡ hops → s ≡ standing
    → IsPage w t r k h verdict (standing_text s) svg
    → IsPage world table rows walk hops verdict (standing_text standing) svg
page-same w world t table r rows k walk h hops s standing verdict svg is_w is_t is_r is_k is_h is_s page =
    subst (λ w. IsPage w table rows walk hops verdict (standing_text standing) svg) is_w
    (subst (λ t. IsPage w t rows walk hops verdict (standing_text standing) svg) is_t
    (subst (λ r. IsPage w t r walk hops verdict (standing_text standing) svg) is_r
    (subst (λ k. IsPage w t r k hops verdict (standing_text standing) svg) is_k
    (subst (λ h. IsPage w t r k h verdict (standing_text standing) svg) is_h
    (subst (λ s. IsPage w t r k h verdict (standing_text s) svg) is_s page)))))

module _ {A : Type 0} (space : NameSpace) (given : Option (List NodeRef)) (gap : Option Gap)
    (status : ℕ) (before after svg : List ℕ) (verdict : Verdict A) (w : World) (t : List MountRow)
    (r : List NodeRef) (k : Option Walk) (h : List Hop) (s : Standing) where
  pub yes-shown : (least : List NodeRef) → verdict ≡ Yes least
      → IsTrue (is_table_given space.world.forest space.table)
      → IsVerdict (policy_of space.world) space.world.forest space.table verdict
      → w ≡ space.world → t ≡ space.table → r ≡ drawn_rows given gap least → k ≡ None → h ≡ []
      → s ≡ standing_of given gap → status ≡ standing_status s
      → IsPage w t r k h (codes "verdict: yes") (standing_text s) svg
      → after ≡ before ++ svg → IsPicture space given gap status before after
  yes-shown least is_yes made judged is_w is_t is_r is_k is_h is_s ends page added =
      let is : IsLeast (policy_of space.world) space.world.forest space.table least =
      subst (λ (v : Verdict A). IsVerdict (policy_of space.world) space.world.forest space.table v)
      is_yes judged in
      record {
        svg = svg;
        shown = inl (record {
          least = least;
          closed = is.closed made;
          is_least = is;
          page =
              page-same w space.world t space.table r (drawn_rows given gap least) k None h [] s
              (standing_of given gap) (codes "verdict: yes") svg is_w is_t is_r is_k is_h is_s page;
          ends = ends ∙ ap standing_status is_s;
        });
        added = added;
      }

  pub no-shown : (breach : Breach A) → verdict ≡ No breach
      → IsVerdict (policy_of space.world) space.world.forest space.table verdict
      → w ≡ space.world → t ≡ space.table → r ≡ [] → k ≡ Some (walk_of breach)
      → h ≡ hops_from space.world.forest root_place breach.steps.items breach.member
      → s ≡ standing_of given gap → status ≡ 1
      → IsPage w t r k h (codes "verdict: no") (standing_text s) svg
      → after ≡ before ++ svg → IsPicture space given gap status before after
  no-shown breach is_no judged is_w is_t is_r is_k is_h is_s ends page added =
      let is : IsBreach (policy_of space.world) space.world.forest space.table breach.steps.items
      breach.member breach.kind
      × AllByRecursion (IsByFirst (policy_of space.world) space.world.forest) breach.steps.items =
      subst (λ (v : Verdict A). IsVerdict (policy_of space.world) space.world.forest space.table v)
      is_no judged in
      record {
        svg = svg;
        shown = inr (record {
          walk = walk_of breach;
          breach = is.0;
          by_first = is.1;
          page =
              page-same w space.world t space.table r [] k (Some (walk_of breach)) h
              (hops_from space.world.forest root_place breach.steps.items breach.member) s
              (standing_of given gap) (codes "verdict: no") svg is_w is_t is_r is_k is_h is_s page;
          ends = ends;
        });
        added = added;
      }
