-- Lawful changes one after another.
use Rattle.std.proofs.Common.{◌≡◌, List, [], ◌∷◌, ◌++◌, refl, ap, ◌∙◌}
use Rattle.p9_base.specs.declared.node_ref.NodeRef.{NodeRef}
use Rattle.p9_tree.specs.Server.{Server}
use Rattle.p9_tree.specs.Inside.{inner, is_inside, outer}
use Rattle.p9_inside.proofs.Looks.{Ordered}
use Rattle.p9_fids.specs.Fid.{FidRow}
use Rattle.p9_step.specs.ForestChange.{ForestChange, all_applied, applied}
use Rattle.p9_guard_laws.specs.Guarded.{Premises}
use Rattle.p9_guard_laws.specs.Grown.{Start}
use Rattle.p9_guard_laws.proofs.Held.{HeldFids, IsKept}
use Rattle.p9_guard_laws.proofs.Moves.{Lawful, LawfulChange, evolves, ordered-applied, spares}
use Rattle.p9_guard_laws.proofs.Stays.{fids_stay, kept_stays}

-- what holds of a guard's forest
pub record Good (premises : Premises) (start : Start) (f : List Server) : Type 0 where
  pub ordered : Ordered f
  pub kept : IsKept premises start f

module _ (premises : Premises) (start : Start) where
  pub good-applied : (f : List Server) → Good premises start f → (c : ForestChange) → LawfulChange premises f c
      → Good premises start (applied c f)
  good-applied f good c l =
      let o = ordered-applied premises f good.ordered c l in
      record {
        ordered = o;
        kept =
            kept_stays premises start f (applied c f) good.ordered good.kept
            (evolves premises f good.ordered c l) o;
      }

  pub good-all : (f : List Server) → Good premises start f → (cs : List ForestChange) → Lawful premises f cs
      → Good premises start (all_applied cs f)
  good-all f good [] l = good
  good-all f good (c ∷ cs) l = good-all (applied c f) (good-applied f good c l.0) cs l.1

  pub fids-all : (f : List Server) → Good premises start f → (cs : List ForestChange) → Lawful premises f cs
      → (fids : List FidRow) → HeldFids premises start f fids
      → HeldFids premises start (all_applied cs f) fids
  fids-all f good [] l fids h = h
  fids-all f good (c ∷ cs) l fids h =
      fids-all (applied c f) (good-applied f good c l.0) cs l.1 fids
      (fids_stay premises start f (applied c f) good.ordered good.kept
      (evolves premises f good.ordered c l.0) fids h)

  pub outer-all : (f : List Server) → Good premises start f → (cs : List ForestChange) → Lawful premises f cs
      → outer premises.policy.hidden (all_applied cs f) ≡ all_applied cs (outer premises.policy.hidden f)
  outer-all f good [] l = refl
  outer-all f good (c ∷ cs) l =
      outer-all (applied c f) (good-applied f good c l.0) cs l.1
      ∙ ap (all_applied cs) (spares premises f good.ordered c l.0).commutes

  pub inner-all : (f : List Server) → Good premises start f → (cs : List ForestChange) → Lawful premises f cs
      → inner premises.policy.hidden (all_applied cs f) ≡ inner premises.policy.hidden f
  inner-all f good [] l = refl
  inner-all f good (c ∷ cs) l =
      inner-all (applied c f) (good-applied f good c l.0) cs l.1
      ∙ (spares premises f good.ordered c l.0).insides

  -- no number comes inside or out
  pub inside-all : (f : List Server) → Good premises start f → (cs : List ForestChange) → Lawful premises f cs
      → (r : NodeRef)
      → is_inside r premises.policy.hidden (all_applied cs f) ≡ is_inside r premises.policy.hidden f
  inside-all f good [] l r = refl
  inside-all f good (c ∷ cs) l r =
      inside-all (applied c f) (good-applied f good c l.0) cs l.1 r
      ∙ (spares premises f good.ordered c l.0).inside r

  pub lawful-append : (f : List Server) (xs ys : List ForestChange) → Lawful premises f xs
      → Lawful premises (all_applied xs f) ys → Lawful premises f (xs ++ ys)
  lawful-append f [] ys a b = b
  lawful-append f (x ∷ xs) ys a b = (a.0, lawful-append (applied x f) xs ys a.1 b)
