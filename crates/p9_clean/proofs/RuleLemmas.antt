-- The rules of cleaning lead to one list without a rule to apply.
use Rattle.std.proofs.Common.{◌≡◌, ◌≢◌, ℕ, ◌<◌, ◌≤◌, Bool, true, false, List, [], ◌∷◌, ◌++◌, length}
use Rattle.std.proofs.Common.{refl, sym, ap, subst, ◌∙◌, arith}
use Rattle.std.specs.Prelude.{IsTrue, filter, codes}
use Rattle.std.proofs.lemmas.Bool.{false≢true, false_from_ne_true, lt-ltb}
use Rattle.std.proofs.lemmas.List.{length-append}
use Rattle.std.proofs.lemmas.List.Elements.{filter-append}
use Rattle.std.proofs.lemmas.Slice.Eq.{bytes_eq-Decides}
use Rattle.std.specs.Str.{bytes_eq}
use Rattle.p9_clean.specs.Path.{is_dot, is_dot_dot, is_element, in_front, reduced, below_root}
use Rattle.p9_clean.specs.Path.{shortened}
use Rattle.p9_clean.specs.Rules.{Shortens, Leads, IsClean, CleansTo}
use Rattle.p9_clean.specs.Rules.Shortens.{empty_goes, dot_goes, name_goes, root_goes}
use Rattle.p9_clean.specs.Rules.Leads.{here, step}
use Rattle.p9_clean.proofs.Reduction.{in_front-dot_dot, in_front-name, in_front-gone}

-- the list that cleaning leaves of components
abbrev pub left_of : Bool → List (List ℕ) → List (List ℕ)
left_of rooted cs = shortened rooted (filter is_element cs)

-- a rule shortens a list
pub length-Shortens : {rooted : Bool} {cs next : List (List ℕ)} → Shortens rooted cs next
    → length next < length cs
length-Shortens (empty_goes before after) =
    omega (arith, length-append before after, length-append before ([] ∷ after))
length-Shortens (dot_goes before after) =
    omega (arith, length-append before after, length-append before (codes "." ∷ after))
length-Shortens (name_goes before after name p q r) =
    omega (arith, length-append before after, length-append before (name ∷ codes ".." ∷ after))
length-Shortens (root_goes after root) = omega arith

-- rules never lengthen a list
pub length-Leads : {rooted : Bool} {cs last : List (List ℕ)} → Leads rooted cs last
    → length last ≤ length cs
length-Leads (here {components = cs}) = omega arith
length-Leads (step rule rules) =
    let shorter = length-Shortens rule in let others = length-Leads rules in omega arith

-- lists that leave the same leave the same behind others
reduced-behind : (before xs ys : List (List ℕ)) → reduced xs ≡ reduced ys
    → reduced (before ++ xs) ≡ reduced (before ++ ys)
reduced-behind [] xs ys e = e
reduced-behind (w ∷ ws) xs ys e = ap (in_front w) (reduced-behind ws xs ys e)

-- the same of a rooted path, and of one that is not
shortened-behind : (rooted : Bool) (before xs ys : List (List ℕ)) → reduced xs ≡ reduced ys
    → shortened rooted (before ++ xs) ≡ shortened rooted (before ++ ys)
shortened-behind true before xs ys e = ap below_root (reduced-behind before xs ys e)
shortened-behind false before xs ys e = reduced-behind before xs ys e

-- components that leave the same behind others leave the same
left_of-behind : (rooted : Bool) (before xs ys : List (List ℕ))
    → reduced (filter is_element xs) ≡ reduced (filter is_element ys)
    → left_of rooted (before ++ xs) ≡ left_of rooted (before ++ ys)
left_of-behind rooted before xs ys e =
    ap (shortened rooted) (filter-append is_element before xs)
    ∙ shortened-behind rooted (filter is_element before) (filter is_element xs)
    (filter is_element ys) e
    ∙ sym (ap (shortened rooted) (filter-append is_element before ys))

-- a test of bytes that are others fails
is_other : (c text : List ℕ) → c ≢ text → bytes_eq c text ≡ false
is_other c text other =
    false_from_ne_true _ (λ same. other ((bytes_eq-Decides c text).0 same))

-- a component that has a byte and is not '.' is an element
is_element-from_false : (b : ℕ) (bs : List ℕ) → is_dot (b ∷ bs) ≡ false → is_element (b ∷ bs) ≡ true
is_element-from_false b bs other = rw (other, lt-ltb 0 (length (b ∷ bs)) (omega arith)) refl

-- a component that is neither empty nor '.' is an element
is_element-other : (c : List ℕ) → c ≢ [] → c ≢ codes "." → is_element c ≡ true
is_element-other [] some other = absurd (some refl)
is_element-other (b ∷ bs) some other =
    is_element-from_false b bs (is_other (b ∷ bs) (codes ".") other)

-- a name and the '..' behind it leave nothing
reduced-name_goes : (after : List (List ℕ)) (name : List ℕ) → is_element name ≡ true
    → is_dot_dot name ≡ false
    → reduced (filter is_element (name ∷ codes ".." ∷ after)) ≡ reduced (filter is_element after)
reduced-name_goes after name element other =
    let es = reduced (filter is_element after) in
    rw element (ap (in_front name) (in_front-dot_dot (codes "..") es refl)
    ∙ in_front-gone name (codes "..") es other refl)

-- '..' at the start of a rooted path leaves nothing
left_of-root_goes : (rooted : Bool) (after : List (List ℕ)) → IsTrue rooted
    → left_of rooted (codes ".." ∷ after) ≡ left_of rooted after
left_of-root_goes true after root =
    ap below_root (in_front-dot_dot (codes "..") (reduced (filter is_element after)) refl)
left_of-root_goes false after root = absurd (false≢true root)

-- what cleaning leaves of components is what it leaves of them after a rule
pub left_of-Shortens : {rooted : Bool} {cs next : List (List ℕ)} → Shortens rooted cs next
    → left_of rooted cs ≡ left_of rooted next
left_of-Shortens {rooted} (empty_goes before after) =
    left_of-behind rooted before ([] ∷ after) after refl
left_of-Shortens {rooted} (dot_goes before after) =
    left_of-behind rooted before (codes "." ∷ after) after refl
left_of-Shortens {rooted} (name_goes before after name some no_dot no_dots) =
    left_of-behind rooted before (name ∷ codes ".." ∷ after) after
    (reduced-name_goes after name (is_element-other name some no_dot)
    (is_other name (codes "..") no_dots))
left_of-Shortens {rooted} (root_goes after root) = left_of-root_goes rooted after root

-- and after any rules
pub left_of-Leads : {rooted : Bool} {cs last : List (List ℕ)} → Leads rooted cs last
    → left_of rooted cs ≡ left_of rooted last
left_of-Leads here = refl
left_of-Leads (step rule rules) = left_of-Shortens rule ∙ left_of-Leads rules

-- a rule that needs no root applies behind any component
Shortens-cons : {cs next : List (List ℕ)} (rooted : Bool) (c : List ℕ)
    → Shortens false cs next → Shortens rooted (c ∷ cs) (c ∷ next)
Shortens-cons rooted c (empty_goes before after) = empty_goes (c ∷ before) after
Shortens-cons rooted c (dot_goes before after) = dot_goes (c ∷ before) after
Shortens-cons rooted c (name_goes before after name p q r) =
    name_goes (c ∷ before) after name p q r
Shortens-cons rooted c (root_goes after root) = absurd (false≢true root)

-- rules that need no root apply behind any component
Leads-cons : {cs last : List (List ℕ)} (rooted : Bool) (c : List ℕ) → Leads false cs last
    → Leads rooted (c ∷ cs) (c ∷ last)
Leads-cons rooted c here = here
Leads-cons rooted c (step rule rules) =
    step (Shortens-cons rooted c rule) (Leads-cons rooted c rules)

-- a rule that needs no root applies in a rooted path too
Shortens-rooted : {cs next : List (List ℕ)} (rooted : Bool) → Shortens false cs next
    → Shortens rooted cs next
Shortens-rooted rooted (empty_goes before after) = empty_goes before after
Shortens-rooted rooted (dot_goes before after) = dot_goes before after
Shortens-rooted rooted (name_goes before after name p q r) = name_goes before after name p q r
Shortens-rooted rooted (root_goes after root) = absurd (false≢true root)

-- rules that need no root apply in a rooted path too
Leads-rooted : {cs last : List (List ℕ)} (rooted : Bool) → Leads false cs last
    → Leads rooted cs last
Leads-rooted rooted here = here
Leads-rooted rooted (step rule rules) =
    step (Shortens-rooted rooted rule) (Leads-rooted rooted rules)

-- rules may follow rules
Leads-both : {rooted : Bool} {cs next last : List (List ℕ)} → Leads rooted cs next
    → Leads rooted next last → Leads rooted cs last
Leads-both here others = others
Leads-both (step rule rules) others = step rule (Leads-both rules others)

-- an element is not empty
element_not_empty : (c : List ℕ) → is_element c ≡ true → c ≢ []
element_not_empty [] element = λ _. false≢true element
element_not_empty (b ∷ bs) element = λ e. cc

-- an element is not '.'
element_not_dot : (c : List ℕ) → is_element c ≡ true → c ≢ codes "."
element_not_dot c element = λ e. false≢true (ap is_element (sym e) ∙ element)

-- a component that is no element is empty or '.': a rule takes it away
no_element_goes : (c : List ℕ) (after : List (List ℕ)) → is_element c ≡ false
    → Shortens false (c ∷ after) after
no_element_goes [] after no_element = empty_goes [] after
no_element_goes (b ∷ bs) after no_element = go (bytes_eq (b ∷ bs) (codes ".")) refl where
  go : (t : Bool) → bytes_eq (b ∷ bs) (codes ".") ≡ t → Shortens false ((b ∷ bs) ∷ after) after
  go true dot =
      subst (λ c. Shortens false (c ∷ after) after)
      (sym ((bytes_eq-Decides (b ∷ bs) (codes ".")).0 dot)) (dot_goes [] after)
  go false other = absurd (false≢true (sym no_element ∙ is_element-from_false b bs other))

-- an element in front goes with the '..' behind it
Leads-in_front : (c : List ℕ) (es : List (List ℕ)) → is_element c ≡ true
    → Leads false (c ∷ es) (in_front c es)
Leads-in_front c [] element = here
Leads-in_front c (next ∷ es) element = go (is_dot_dot c) (is_dot_dot next) refl refl where
  go : (s t : Bool) → is_dot_dot c ≡ s → is_dot_dot next ≡ t
      → Leads false (c ∷ next ∷ es) (in_front c (next ∷ es))
  go true t up n = rw (in_front-dot_dot c (next ∷ es) up) here
  go false false name n = rw (in_front-name c next es n) here
  go false true name up =
      let dots : next ≡ codes ".." = (bytes_eq-Decides next (codes "..")).0 up in
      let gone : Shortens false (c ∷ codes ".." ∷ es) es =
      name_goes [] es c (element_not_empty c element) (element_not_dot c element)
      (λ e. false≢true (sym name ∙ ap is_dot_dot e)) in
      rw (in_front-gone c next es name up)
      (subst (λ n. Leads false (c ∷ n ∷ es) es) (sym dots) (step gone here))

-- the rules lead to the elements without names taken back
Leads-reduced : (cs : List (List ℕ)) → Leads false cs (reduced (filter is_element cs))
Leads-reduced [] = here
Leads-reduced (c ∷ cs) = go (is_element c) refl (Leads-reduced cs) where
  go : (t : Bool) → is_element c ≡ t → Leads false cs (reduced (filter is_element cs))
      → Leads false (c ∷ cs) (reduced (filter is_element (c ∷ cs)))
  go true element rules =
      rw element
      (Leads-both (Leads-cons false c rules)
      (Leads-in_front c (reduced (filter is_element cs)) element))
  go false no_element rules = rw no_element (step (no_element_goes c cs no_element) rules)

-- in a rooted path the rules take away the '..' at the start
Leads-below_root : (es : List (List ℕ)) → Leads true es (below_root es)
Leads-below_root [] = here
Leads-below_root (e ∷ es) = go (is_dot_dot e) refl (Leads-below_root es) where
  go : (t : Bool) → is_dot_dot e ≡ t → Leads true es (below_root es)
      → Leads true (e ∷ es) (below_root (e ∷ es))
  go true up rules =
      let dots : e ≡ codes ".." = (bytes_eq-Decides e (codes "..")).0 up in
      rw up (subst (λ n. Leads true (n ∷ es) (below_root es)) (sym dots)
      (step (root_goes es refl) rules))
  go false name rules = rw name here

-- the rules lead from components to what cleaning leaves of them
Leads-left_of : (rooted : Bool) (cs : List (List ℕ)) → Leads rooted cs (left_of rooted cs)
Leads-left_of true cs =
    Leads-both (Leads-rooted true (Leads-reduced cs))
    (Leads-below_root (reduced (filter is_element cs)))
Leads-left_of false cs = Leads-reduced cs

-- cleaning leaves what it left
pub left_of-left_of : (rooted : Bool) (cs : List (List ℕ))
    → left_of rooted (left_of rooted cs) ≡ left_of rooted cs
left_of-left_of rooted cs = sym (left_of-Leads (Leads-left_of rooted cs))

-- no rule applies to it: what cleaning leaves of the shorter list would be as long
IsClean-left_of : (rooted : Bool) (cs : List (List ℕ)) → IsClean rooted (left_of rooted cs)
IsClean-left_of rooted cs next rule =
    let shorter = length-Shortens rule in
    let least = length-Leads (Leads-left_of rooted next) in
    let same : length (left_of rooted next) ≡ length (left_of rooted cs) =
    ap length (sym (left_of-Shortens rule) ∙ left_of-left_of rooted cs) in
    omega arith

-- the rules lead from a list to which none applies to itself alone
stays : {rooted : Bool} {cs last : List (List ℕ)} → IsClean rooted cs
    → Leads rooted cs last → last ≡ cs
stays clean here = refl
stays clean (step {next = next} rule rules) = absurd (clean next rule)

-- a list to which no rule applies, and to which they lead, is what cleaning leaves
only_left_of : (rooted : Bool) (cs last : List (List ℕ)) → Leads rooted cs last
    → IsClean rooted last → last ≡ left_of rooted cs
only_left_of rooted cs last rules clean =
    sym (left_of-Leads rules ∙ stays clean (Leads-left_of rooted last))

-- what cleaning leaves of components is what the rules make of them
pub CleansTo-left_of : (rooted : Bool) (cs : List (List ℕ))
    → CleansTo rooted cs (left_of rooted cs)
CleansTo-left_of rooted cs = record {
  reached = Leads-left_of rooted cs;
  clean = IsClean-left_of rooted cs;
  only = only_left_of rooted cs;
}
