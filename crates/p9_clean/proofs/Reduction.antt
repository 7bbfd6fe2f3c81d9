-- What one more element at the end makes of the elements that cleaning leaves.
use Rattle.std.proofs.Common.{◌≡◌, ℕ, Bool, true, false, not, cond, List, [], ◌∷◌, ◌++◌, refl, sym}
use Rattle.std.proofs.Common.{ap, ◌∙◌, append_assoc, append-nil}
use Rattle.std.specs.Prelude.{◌&&◌}
use Rattle.p9_clean.specs.Path.{is_dot_dot, in_front, reduced, below_root, shortened}

-- '..' takes nothing back that is behind it
pub in_front-dot_dot : (e : List ℕ) (es : List (List ℕ)) → is_dot_dot e ≡ true
    → in_front e es ≡ e ∷ es
in_front-dot_dot e [] up = refl
in_front-dot_dot e (n ∷ es) up = rw up refl

-- a name stays in front of a name
pub in_front-name : (e n : List ℕ) (es : List (List ℕ)) → is_dot_dot n ≡ false
    → in_front e (n ∷ es) ≡ e ∷ n ∷ es
in_front-name e n es name =
    rw name
    (elim (not (is_dot_dot e)) as
    (λ t. cond (t && false) es (e ∷ n ∷ es) ≡ e ∷ n ∷ es) [ true ↦ refl | false ↦ refl ])

-- a name goes with the '..' behind it
pub in_front-gone : (e n : List ℕ) (es : List (List ℕ)) → is_dot_dot e ≡ false → is_dot_dot n ≡ true
    → in_front e (n ∷ es) ≡ es
in_front-gone e n es name up = rw (name, up) refl

-- elements with one more at their end
pub pushed : List (List ℕ) → List ℕ → List (List ℕ)
pushed [] w = w ∷ []
pushed (e ∷ []) w = in_front e (w ∷ [])
pushed (e ∷ next ∷ es) w = e ∷ pushed (next ∷ es) w

-- two elements in front of a third are the first two with the third at their end
in_front-in_front : (x y w : List ℕ)
    → in_front x (in_front y (w ∷ [])) ≡ pushed (in_front x (y ∷ [])) w
unfolding pushed
in_front-in_front x y w = go (is_dot_dot x) (is_dot_dot y) (is_dot_dot w) refl refl refl where
  go : (a b c : Bool) → is_dot_dot x ≡ a → is_dot_dot y ≡ b → is_dot_dot w ≡ c
      → in_front x (in_front y (w ∷ [])) ≡ pushed (in_front x (y ∷ [])) w
  go true b c p q r =
      rw (in_front-dot_dot x (in_front y (w ∷ [])) p, in_front-dot_dot x (y ∷ []) p) refl
  go false true c p q r =
      rw (in_front-dot_dot y (w ∷ []) q, in_front-gone x y (w ∷ []) p q, in_front-gone x y [] p q)
      refl
  go false false true p q r =
      rw (in_front-gone y w [] q r, in_front-name x y [] q, in_front-gone y w [] q r) refl
  go false false false p q r =
      rw (
        in_front-name y w [] r,
        in_front-name x y (w ∷ []) q,
        in_front-name x y [] q,
        in_front-name y w [] r,
      ) refl

-- an element in front and one at the end may come in either order
in_front-pushed : (x : List ℕ) (ys : List (List ℕ)) (w : List ℕ)
    → in_front x (pushed ys w) ≡ pushed (in_front x ys) w
unfolding pushed
in_front-pushed x [] w = refl
in_front-pushed x (y ∷ []) w = in_front-in_front x y w
in_front-pushed x (y ∷ z ∷ zs) w =
    elim (not (is_dot_dot x) && is_dot_dot y)
    as (λ t. cond t (pushed (z ∷ zs) w) (x ∷ y ∷ pushed (z ∷ zs) w)
    ≡ pushed (cond t (z ∷ zs) (x ∷ y ∷ z ∷ zs)) w)
    [ true ↦ refl | false ↦ refl ]

-- one more element at the end of a list is one more at the end of what it leaves
pub reduced-append : (xs : List (List ℕ)) (w : List ℕ)
    → reduced (xs ++ w ∷ []) ≡ pushed (reduced xs) w
unfolding pushed
reduced-append [] w = refl
reduced-append (x ∷ xs) w = ap (in_front x) (reduced-append xs w) ∙ in_front-pushed x (reduced xs) w

-- one more element behind what is left of a rooted path, and of one that is not
pub left_with : Bool → List (List ℕ) → List ℕ → List (List ℕ)
left_with true [] w = below_root (w ∷ [])
left_with false [] w = w ∷ []
left_with rooted (e ∷ es) w = pushed (e ∷ es) w

-- a name at the start stays below the root
below_root-name : (e : List ℕ) (es : List (List ℕ)) → is_dot_dot e ≡ false
    → below_root (e ∷ es) ≡ e ∷ es
below_root-name e es name = rw name refl

-- '..' at the start goes below the root
below_root-dot_dot : (e : List ℕ) (es : List (List ℕ)) → is_dot_dot e ≡ true
    → below_root (e ∷ es) ≡ below_root es
below_root-dot_dot e es up = rw up refl

-- a name at the start, and what it leaves of the element behind it, stay below the root
below_root-in_front : (e w : List ℕ) → is_dot_dot e ≡ false
    → below_root (in_front e (w ∷ [])) ≡ in_front e (w ∷ [])
below_root-in_front e w name = go (is_dot_dot w) refl where
  go : (b : Bool) → is_dot_dot w ≡ b → below_root (in_front e (w ∷ [])) ≡ in_front e (w ∷ [])
  go true up = rw (in_front-gone e w [] name up) refl
  go false other = rw (in_front-name e w [] other) (below_root-name e (w ∷ []) name)

-- one more element at the end may come after the start is cleared
below_root-pushed : (es : List (List ℕ)) (w : List ℕ)
    → below_root (pushed es w) ≡ left_with true (below_root es) w
unfolding pushed left_with
below_root-pushed [] w = refl
below_root-pushed (e ∷ []) w = go (is_dot_dot e) refl where
  go : (b : Bool) → is_dot_dot e ≡ b
      → below_root (in_front e (w ∷ [])) ≡ left_with true (below_root (e ∷ [])) w
  go true up =
      rw (
        in_front-dot_dot e (w ∷ []) up,
        below_root-dot_dot e (w ∷ []) up,
        below_root-dot_dot e []
            up,
      ) refl
  go false name = rw (below_root-name e [] name) (below_root-in_front e w name)
below_root-pushed (e ∷ n ∷ es) w =
    elim (is_dot_dot e)
    as (λ t. cond t (below_root (pushed (n ∷ es) w)) (e ∷ pushed (n ∷ es) w)
    ≡ left_with true (cond t (below_root (n ∷ es)) (e ∷ n ∷ es)) w)
    [ true ↦ below_root-pushed (n ∷ es) w | false ↦ refl ]

-- in a path that is not rooted, an element behind what is left is one at its end
pushed-left_with : (es : List (List ℕ)) (w : List ℕ) → pushed es w ≡ left_with false es w
unfolding pushed left_with
pushed-left_with [] w = refl
pushed-left_with (e ∷ es) w = refl

-- one more element at the end of a path is one more behind what is left of it
pub shortened-append : (rooted : Bool) (es : List (List ℕ)) (w : List ℕ)
    → shortened rooted (es ++ w ∷ []) ≡ left_with rooted (shortened rooted es) w
shortened-append true es w = ap below_root (reduced-append es w) ∙ below_root-pushed (reduced es) w
shortened-append false es w = reduced-append es w ∙ pushed-left_with (reduced es) w

-- a name stays at the end
pushed-name : (es : List (List ℕ)) (w : List ℕ) → is_dot_dot w ≡ false → pushed es w ≡ es ++ w ∷ []
unfolding pushed
pushed-name [] w name = refl
pushed-name (e ∷ []) w name = in_front-name e w [] name
pushed-name (e ∷ n ∷ es) w name = ap (λ (t : List (List ℕ)). e ∷ t) (pushed-name (n ∷ es) w name)

-- a name is kept
pub left_with-name : (rooted : Bool) (es : List (List ℕ)) (w : List ℕ) → is_dot_dot w ≡ false
    → left_with rooted es w ≡ es ++ w ∷ []
unfolding left_with
left_with-name true [] w name = below_root-name w [] name
left_with-name false [] w name = refl
left_with-name true (e ∷ es) w name = pushed-name (e ∷ es) w name
left_with-name false (e ∷ es) w name = pushed-name (e ∷ es) w name

-- an element at the end meets the last one alone
pushed-append : (es : List (List ℕ)) (e w : List ℕ)
    → pushed (es ++ e ∷ []) w ≡ es ++ in_front e (w ∷ [])
unfolding pushed
pushed-append [] e w = refl
pushed-append (x ∷ []) e w = refl
pushed-append (x ∷ y ∷ es) e w = ap (λ (t : List (List ℕ)). x ∷ t) (pushed-append (y ∷ es) e w)

-- an element behind what is left meets the last one alone
left_with-append : (rooted : Bool) (es : List (List ℕ)) (e w : List ℕ)
    → left_with rooted (es ++ e ∷ []) w ≡ es ++ in_front e (w ∷ [])
unfolding left_with
left_with-append true [] e w = pushed-append [] e w
left_with-append false [] e w = pushed-append [] e w
left_with-append true (x ∷ es) e w = pushed-append (x ∷ es) e w
left_with-append false (x ∷ es) e w = pushed-append (x ∷ es) e w

-- '..' takes back the name before it
pub left_with-taken_back : (rooted : Bool) (es : List (List ℕ)) (e w : List ℕ)
    → is_dot_dot e ≡ false → is_dot_dot w ≡ true → left_with rooted (es ++ e ∷ []) w ≡ es
left_with-taken_back rooted es e w name up =
    left_with-append rooted es e w ∙ ap (λ t. es ++ t) (in_front-gone e w [] name up)
    ∙ append-nil es

-- '..' is kept behind '..'
pub left_with-behind : (rooted : Bool) (es : List (List ℕ)) (e w : List ℕ) → is_dot_dot e ≡ true
    → left_with rooted (es ++ e ∷ []) w ≡ (es ++ e ∷ []) ++ w ∷ []
left_with-behind rooted es e w up =
    left_with-append rooted es e w ∙ ap (λ t. es ++ t) (in_front-dot_dot e (w ∷ []) up)
    ∙ sym (append_assoc es (e ∷ []) (w ∷ []))

-- '..' goes at the root
pub left_with-at_root : (w : List ℕ) → is_dot_dot w ≡ true → left_with true [] w ≡ []
unfolding left_with
left_with-at_root w up = below_root-dot_dot w [] up

-- every element is kept at the start of a path that is not rooted
pub left_with-at_start : (w : List ℕ) → left_with false [] w ≡ w ∷ []
unfolding left_with
left_with-at_start w = refl
