-- What an input comes to, by its parts.
use Rattle.std.proofs.Common.{◌≡◌, ◌∙◌, ℕ, List, Option, Result, Ok, Err, ap, refl, subst}
use Rattle.std.proofs.Common.{sym, true}
use Rattle.std.specs.Str.{is_utf8}
use Rattle.p9_base.specs.declared.stop.Stop.{Stop}
use Rattle.p9_base.specs.declared.stop.Stop.TheVariants.{Refused, NoMemory}
use Rattle.p9_base.specs.Results.{and_then, need}
use Rattle.p9_nsline.specs.Space.{Report}
use Rattle.p9_prepared.specs.Bundle.{Texts, bundle_of}
use Rattle.p9_prepared.specs.NameSpace.{NameSpace, space_in}
use Rattle.p9_prepared.specs.Prepared.{Rejected, opened, space_of, space_with, with_reports}
use Rattle.p9_prepared.specs.Refusal.{IsStop}
use Rattle.p9_prepared.specs.Statements.{SameStatements}
use Rattle.p9_prepared.specs.declared.refusal.Refusal.{Refusal}
use Rattle.p9_prepared.proofs.Statements.{space_in-same}

-- a part that is found is followed by the rest
pub part-found : {X Y : Type 0} (reports : List Report) (found : Result X Refusal)
    (rest : X → Result Y Rejected) (value : X) → found ≡ Ok value
    → and_then (with_reports reports found) rest ≡ rest value
part-found reports found rest value is = rw is refl

-- an input that is opened has its name space, where its script is good
pub opened-found : (input : List ℕ) (found : Texts × NameSpace) → opened input ≡ Ok found
    → space_of input ≡ space_with found.0 found.1
opened-found input found is = rw is refl

-- an input is opened by what its sections say
module _ (input text : List ℕ) (seen texts : Texts) (whole : text ≡ input)
    (utf8 : is_utf8 input ≡ true) (is : bundle_of text ≡ Ok texts)
    (same : SameStatements seen texts) (world ns : Option (List ℕ)) (w : world ≡ seen.world)
    (n : ns ≡ seen.ns) where
  opened-by : (found : Result NameSpace Refusal) → space_in world ns ≡ found →
      opened input
      ≡ and_then found
      (λ space. let both : Result (Texts × NameSpace) Refusal = Ok (texts, space) in both)
  unfolding need
  opened-by found space =
      let read : bundle_of input ≡ Ok texts = subst (λ t. bundle_of t ≡ Ok texts) whole is in
      let made : space_in texts.world texts.ns ≡ found =
      space_in-same texts.world seen.world texts.ns seen.ns (sym same.world) (sym same.ns)
      ∙ ap (λ o. space_in o seen.ns) (sym w) ∙ ap (space_in world) (sym n) ∙ space in
      rw (utf8, read)
      (ap (λ made. and_then made
      (λ space. let both : Result (Texts × NameSpace) Refusal = Ok (texts, space) in both)) made)

  pub opened-ok : (space : NameSpace) → space_in world ns ≡ Ok space
      → opened input ≡ Ok (texts, space)
  opened-ok space found = opened-by (Ok space) found

  pub opened-stop : (stop : Stop Refusal) → IsStop (space_in world ns) stop
      → IsStop (opened input) stop
  opened-stop NoMemory stopped = tt
  opened-stop (Refused refusal) stopped = opened-by (Err refusal) stopped
