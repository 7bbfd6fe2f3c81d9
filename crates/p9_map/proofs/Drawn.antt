-- Boxes that are drawn one after another.
use Rattle.std.proofs.Common.{◌≡◌, ℕ, ◌+◌, ◌<◌, List, [], ◌∷◌, ◌++◌, Option, length, map, drop, get_or, sym, ap, ◌∙◌}
use Rattle.std.proofs.Common.{append_assoc, refl}
use Rattle.std.proofs.lemmas.List.{drop_more}
use Rattle.p9_base.specs.declared.node_ref.NodeRef.{NodeRef}
use Rattle.p9_world.specs.World.{World}
use Rattle.p9_map.specs.Box.{box_text}
use Rattle.p9_map.specs.Claim.{shown_path}
use Rattle.p9_map.specs.Label.{label_texts}
use Rattle.p9_map.specs.Mark.{mark_of}
use Rattle.p9_map.specs.Picture.{boxes_text}
use Rattle.p9_map.specs.Walk.{Walk}
use Rattle.p9_map.specs.declared.item.Placed.{Placed}
use Rattle.p9_map.specs.declared.label.Label.{Label}

-- Parts of a picture that are printed one after another.

pub two : (o a b o1 o2 : List ℕ) → o1 ≡ o ++ a → o2 ≡ o1 ++ b → o2 ≡ o ++ (a ++ b)
two o a b o1 o2 e1 e2 = e2 ∙ ap (λ x. x ++ b) e1 ∙ append_assoc o a b

pub three : (o a b c o1 o2 o3 : List ℕ) → o1 ≡ o ++ a → o2 ≡ o1 ++ b → o3 ≡ o2 ++ c
    → o3 ≡ o ++ (a ++ b ++ c)
three o a b c o1 o2 o3 e1 e2 e3 = two o (a ++ b) c o2 o3 (two o a b o1 o2 e1 e2) e3

joined-five : (o a b c d e : List ℕ)
    → o ++ a ++ b ++ c ++ d ++ e ≡ o ++ (a ++ b ++ c ++ d ++ e)
joined-five [] a b c d e = refl
joined-five (x ∷ o) a b c d e = ap (λ xs. x ∷ xs) (joined-five o a b c d e)

-- the parts of a box
pub boxed : (o a b c d e o1 o2 o3 o4 o5 : List ℕ) → o1 ≡ o ++ a → o2 ≡ o1 ++ b → o3 ≡ o2 ++ c
    → o4 ≡ o3 ++ d → o5 ≡ o4 ++ e → o5 ≡ o ++ (a ++ b ++ c ++ d ++ e)
boxed o a b c d e o1 o2 o3 o4 o5 e1 e2 e3 e4 e5 =
    let f2 : o2 ≡ o ++ a ++ b = e2 ∙ ap (λ x. x ++ b) e1 in
    let f3 : o3 ≡ o ++ a ++ b ++ c = e3 ∙ ap (λ x. x ++ c) f2 in
    let f4 : o4 ≡ o ++ a ++ b ++ c ++ d = e4 ∙ ap (λ x. x ++ d) f3 in
    e5 ∙ ap (λ x. x ++ e) f4 ∙ joined-five o a b c d e

-- the top, the middle and the end of a picture
pub printed : (o h v t l b k z o1 o2 o3 : List ℕ) → o1 ≡ o ++ (h ++ v ++ t) → o2 ≡ o1 ++ (l ++ b)
    → o3 ≡ o2 ++ (k ++ z) → o3 ≡ o ++ (h ++ v ++ t ++ l ++ b ++ k ++ z)
printed o h v t l b k z o1 o2 o3 e1 e2 e3 =
    let top = h ++ v ++ t in
    let both : o2 ≡ o ++ (top ++ l ++ b) =
    two o top (l ++ b) o1 o2 e1 e2 ∙ ap (λ x. o ++ x) (sym (append_assoc top l b)) in
    two o (top ++ l ++ b) (k ++ z) o2 o3 both e3
    ∙ ap (λ x. o ++ x) (sym (append_assoc (top ++ l ++ b) k z))

module _ {B : Type 0} (world : World) (rows : List NodeRef) (walk : Option Walk) (boxes : List Placed)
    (labels : List (Label B)) (i : ℕ) (text after whole : List ℕ) where
  pub drawn-more : (box d : Placed) (label e : Label B) → i < length boxes → i < length labels
      → box ≡ get_or boxes i d → label ≡ get_or labels i e
      → after ≡ text ++ box_text box.rect (mark_of world rows walk box.node) (shown_path world box.node)
      (label_texts label).0 (label_texts label).1
      → text ++ boxes_text world rows walk (drop i boxes) (map label_texts (drop i labels)) ≡ whole
      → after ++ boxes_text world rows walk (drop (i + 1) boxes)
      (map label_texts (drop (i + 1) labels)) ≡ whole
  drawn-more box d label e l m at is grown so_far =
      let bs = drop (i + 1) boxes in
      let ls = drop (i + 1) labels in
      let one = box_text box.rect (mark_of world rows walk box.node) (shown_path world box.node)
      (label_texts label).0 (label_texts label).1 in
      let tail = boxes_text world rows walk bs (map label_texts ls) in
      let here : drop i boxes ≡ box ∷ bs = drop_more boxes i d l ∙ ap (λ x. x ∷ bs) (sym at) in
      let there : drop i labels ≡ label ∷ ls = drop_more labels i e m ∙ ap (λ x. x ∷ ls) (sym is) in
      ap (λ t. t ++ tail) grown ∙ append_assoc text one tail
      ∙ ap (λ xs. text ++ boxes_text world rows walk xs (map label_texts (label ∷ ls))) (sym here)
      ∙ ap (λ ys. text ++ boxes_text world rows walk (drop i boxes) (map label_texts ys)) (sym there)
      ∙ so_far
