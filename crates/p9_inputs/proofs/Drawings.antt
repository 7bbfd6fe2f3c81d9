-- What is drawn of an input, added to what is there.
use Rattle.std.proofs.Common.{◌∙◌, ◌++◌, ℕ, List, [], Option, Result, Ok, Err, ap, append-nil}
use Rattle.p9_base.specs.declared.node_ref.NodeRef.{NodeRef}
use Rattle.p9_cert.specs.declared.gap.Gap.{Gap}
use Rattle.p9_prepared.specs.NameSpace.{NameSpace}
use Rattle.p9_prepared.specs.Prepared.{Prepared, Rejected, gap_in}
use Rattle.p9_map.specs.Picture.{IsDrawn, IsMapped, IsPicture}
use Rattle.p9_inputs.specs.Added.{Adds}

module _ (status : ℕ) (printed reported out_before out_after err_before err_after : List ℕ)
    (adds : Adds printed reported out_before out_after err_before err_after) where
  picture_after : (space : NameSpace) (given : Option (List NodeRef)) (gap : Option Gap)
      → IsPicture space given gap status [] printed
      → IsPicture space given gap status out_before out_after
  picture_after space given gap picture = record {
    svg = picture.svg;
    shown = picture.shown;
    added = adds.0 ∙ ap (λ text. out_before ++ text) picture.added;
  }

  drawn_after : (space : NameSpace) (given : Option (List NodeRef)) (gap : Option Gap)
      → IsDrawn space given gap status [] printed [] reported
      → IsDrawn space given gap status out_before out_after err_before err_after
  drawn_after space given gap drawn = record {
    picture = picture_after space given gap drawn.picture;
    reported = adds.1 ∙ ap (λ text. err_before ++ text) drawn.reported;
  }

  -- what is drawn over nothing is drawn over what is there
  pub mapped_after : (asked : Result Prepared Rejected)
      → IsMapped asked status [] printed [] reported
      → IsMapped asked status out_before out_after err_before err_after
  mapped_after (Ok prepared) drawn = drawn_after prepared.space prepared.rows (gap_in prepared) drawn
  mapped_after (Err rejected) refused = (
    refused.0,
    adds.0 ∙ ap (λ text. out_before ++ text) refused.1 ∙ append-nil out_before,
    adds.1 ∙ ap (λ text. err_before ++ text) refused.2,
  )
