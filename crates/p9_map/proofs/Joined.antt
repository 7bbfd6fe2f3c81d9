-- Lines that are made one after another.
use Rattle.std.proofs.Common.{◌≡◌, ℕ, ◌+◌, ◌<◌, List, [], ◌∷◌, ◌++◌, length, map, take, get_or, sym}
use Rattle.std.proofs.Common.{ap, ◌∙◌, subst}
use Rattle.std.specs.List.{All}
use Rattle.std.proofs.lemmas.List.{map_push, take_more}
use Rattle.std.proofs.lemmas.List.Elements.{All-append, All-cons, All-nil}
use Rattle.p9_map.specs.Line.{IsJoined}
use Rattle.p9_map.specs.declared.item.Link.{Link}
use Rattle.p9_map.specs.declared.item.Placed.{Placed}
use Rattle.p9_map.specs.declared.line.Line.{Line}

-- the lines are those of the links, and join their boxes
pub record AreJoined (boxes : List Placed) (links : List Link) (lines : List Line) : Type 0 where
  pub same : map (λ l. l.link) lines ≡ links
  pub joined : All (IsJoined boxes) lines

module _ (boxes : List Placed) (links : List Link) (i : ℕ) (lines after : List Line) where
  pub joined-more : (link d : Link) (line : Line) → i < length links → link ≡ get_or links i d
      → line.link ≡ link → IsJoined boxes line → after ≡ lines ++ line ∷ []
      → AreJoined boxes (take i links) lines
      → AreJoined boxes (take (i + 1) links) after
  joined-more link d line l at kept joined is made =
      let grown : AreJoined boxes (take (i + 1) links) (lines ++ line ∷ []) = record {
        same =
            map_push (λ l. l.link) lines line
            ∙ ap (λ ls. ls ++ line.link ∷ []) made.same
            ∙ ap (λ x. take i links ++ x ∷ []) (kept ∙ at)
            ∙ sym (take_more links i d l);
        joined =
            All-append (IsJoined boxes) lines (line ∷ []) made.joined
            (All-cons (IsJoined boxes) line [] joined (All-nil (IsJoined boxes)));
      } in
      subst (AreJoined boxes (take (i + 1) links)) (sym is) grown
