-- The steps of the loops over the elements of a path.
use Rattle.std.proofs.Common.{◌≡◌, ℕ, ◌+◌, ◌-◌, ◌<◌, Bool, true, false, not, List, [], ◌∷◌, ◌++◌}
use Rattle.std.proofs.Common.{length, take, get_or, map, Some, None, zero, suc, refl, sym, ap, ◌∙◌}
use Rattle.std.proofs.Common.{arith, Bor, add-one, append_assoc}
use Rattle.std.specs.List.{slice_get, join_with_byte}
use Rattle.std.proofs.lemmas.List.{take_more, map-append}
use Rattle.std.proofs.lemmas.Bool.{not-true, not-false}
use Rattle.std.proofs.lemmas.Option.{slice_get-get_or}
use Rattle.p9_base.specs.Name.{slash}
use Rattle.p9_clean.specs.Path.{is_dot_dot, shortened}
use Rattle.p9_clean.proofs.Joined.{join_with_byte-append}
use Rattle.p9_clean.proofs.Reduction.{left_with, shortened-append, left_with-name}
use Rattle.p9_clean.proofs.Reduction.{left_with-taken_back, left_with-behind, left_with-at_root}
use Rattle.p9_clean.proofs.Reduction.{left_with-at_start}

-- the bytes of some texts
abbrev pub texts : List (Bor (List ℕ)) → List (List ℕ)
texts xs = map (λ e. e.now) xs

-- the elements so far, and the next
pub texts-take : (xs : List (Bor (List ℕ))) (i : ℕ) (d : Bor (List ℕ)) → i < length xs
    → texts (take (i + 1) xs) ≡ texts (take i xs) ++ (get_or xs i d).now ∷ []
texts-take xs i d within =
    ap texts (take_more xs i d within) ∙ map-append (λ e. e.now) (take i xs) (get_or xs i d ∷ [])

-- a list whose element at n is its last ends in it
split_last : {X : Type 0} (xs : List X) (x : X) (n : ℕ) → length xs ≡ suc n
    → slice_get xs n ≡ Some x → xs ≡ take n xs ++ x ∷ []
split_last [] x n long there = absurd (omega arith)
split_last (y ∷ []) x zero long there = cc
split_last (y ∷ []) x (suc n) long there = absurd (omega arith)
split_last (y ∷ z ∷ xs) x zero long there = absurd (omega arith)
split_last (y ∷ z ∷ xs) x (suc n) long there =
    ap (λ t. y ∷ t) (split_last (z ∷ xs) x n (omega arith) there)

-- a list that has a last element ends in it
pub append_last : {X : Type 0} (xs : List X) (x : X) → slice_get xs (length xs - 1) ≡ Some x
    → xs ≡ take (length xs - 1) xs ++ x ∷ []
append_last [] x there = cc
append_last (y ∷ ys) x there = split_last (y ∷ ys) x (length (y ∷ ys) - 1) (omega arith) there

-- a list without a last element is empty
pub empty_without_last : {X : Type 0} (xs : List X) → slice_get xs (length xs - 1) ≡ None → xs ≡ []
empty_without_last [] none = refl
empty_without_last (y ∷ ys) none =
    let some : slice_get (y ∷ ys) (length (y ∷ ys) - 1)
    ≡ Some (get_or (y ∷ ys) (length (y ∷ ys) - 1) y) = slice_get-get_or (y ∷ ys)
    (length (y ∷ ys) - 1) y (omega arith) in
    cc

-- the elements read so far and what is kept of them, and then one more element
module _ (rooted : Bool) (elements kept : List (Bor (List ℕ))) (i : ℕ) (d : Bor (List ℕ))
    (within : i < length elements) {named : Bool}
    (tested : named ≡ not (is_dot_dot (get_or elements i d).now))
    (so_far : texts kept ≡ shortened rooted (texts (take i elements))) where
  -- the element that is read
  next : Bor (List ℕ)
  next = get_or elements i d

  -- what is kept then is what one more element leaves
  left : (after : List (List ℕ)) → left_with rooted (texts kept) next.now ≡ after
      → after ≡ shortened rooted (texts (take (i + 1) elements))
  unfolding next
  left after e =
      sym e ∙ ap (λ t. left_with rooted t next.now) so_far
      ∙ sym (shortened-append rooted (texts (take i elements)) next.now)
      ∙ ap (shortened rooted) (sym (texts-take elements i d within))

  -- a name is kept
  pub name_more : (after : List (Bor (List ℕ))) → named ≡ true
      → after ≡ kept ++ get_or elements i d ∷ [] →
      texts after ≡ shortened rooted (texts (take (i + 1) elements))
  unfolding next
  name_more after name e =
      left (texts after)
      (left_with-name rooted (texts kept) next.now
      (not-true (is_dot_dot next.now) (sym tested ∙ name))
      ∙ sym (ap texts e ∙ map-append (λ x. x.now) kept (next ∷ [])))

  module _ (seen : List (Bor (List ℕ))) (same : seen ≡ kept) (last : Bor (List ℕ))
      (there : Some last ≡ slice_get seen (length seen - 1)) where
    -- what is kept before the last element
    front : List (List ℕ)
    front = texts (take (length kept - 1) kept)

    -- what is kept ends in the last element
    texts-kept : texts kept ≡ front ++ last.now ∷ []
    unfolding front
    texts-kept =
        ap texts (append_last kept last (sym (there ∙ ap (λ t. slice_get t (length t - 1)) same)))
        ∙ map-append (λ x. x.now) (take (length kept - 1) kept) (last ∷ [])

    -- '..' takes back the name before it
    pub taken_back_more : (after : List (Bor (List ℕ))) (n : ℕ) → length seen ≡ n
        → is_dot_dot last.now ≡ false → named ≡ false →
        after ≡ take (n - 1) kept → texts after ≡ shortened rooted (texts (take (i + 1) elements))
    unfolding next front
    taken_back_more after n long name other e =
        left (texts after) (ap (λ t. left_with rooted t next.now) texts-kept
        ∙ left_with-taken_back rooted front last.now next.now name
        (not-false (is_dot_dot next.now) (sym tested ∙ other))
        ∙ sym (ap texts (e ∙ ap (λ m. take (m - 1) kept) (sym long ∙ ap length same))))

    -- '..' is kept behind '..'
    pub behind_more : (after : List (Bor (List ℕ))) → is_dot_dot last.now ≡ true
        → after ≡ kept ++ get_or elements i d ∷ [] →
        texts after ≡ shortened rooted (texts (take (i + 1) elements))
    unfolding next front
    behind_more after up e =
        left (texts after) (ap (λ t. left_with rooted t next.now) texts-kept
        ∙ left_with-behind rooted front last.now next.now up
        ∙ ap (λ t. t ++ next.now ∷ []) (sym texts-kept)
        ∙ sym (ap texts e ∙ map-append (λ x. x.now) kept (next ∷ [])))

  module _ (seen : List (Bor (List ℕ))) (same : seen ≡ kept)
      (none : None ≡ slice_get seen (length seen - 1)) where
    -- nothing is kept
    empty : kept ≡ []
    empty = empty_without_last kept (sym (none ∙ ap (λ t. slice_get t (length t - 1)) same))

    -- '..' goes at the root
    pub at_root_more : rooted ≡ true → named ≡ false
        → texts kept ≡ shortened rooted (texts (take (i + 1) elements))
    unfolding next
    at_root_more root other =
        left (texts kept) (ap (λ t. left_with t (texts kept) next.now) root
        ∙ ap (λ t. left_with true (texts t) next.now) empty
        ∙ left_with-at_root next.now (not-false (is_dot_dot next.now) (sym tested ∙ other))
        ∙ sym (ap texts empty))

    -- any element is kept at the start of a path that is not rooted
    pub at_start_more : (after : List (Bor (List ℕ))) → rooted ≡ false
        → after ≡ kept ++ get_or elements i d ∷ [] →
        texts after ≡ shortened rooted (texts (take (i + 1) elements))
    unfolding next
    at_start_more after start e =
        left (texts after) (ap (λ t. left_with t (texts kept) next.now) start
        ∙ ap (λ t. left_with false (texts t) next.now) empty
        ∙ left_with-at_start next.now
        ∙ sym (ap texts (e ∙ ap (λ t. t ++ next ∷ []) empty)))

-- a path so far, with a slash and the next element behind it
pub path_more : (root : List ℕ) (first : Bor (List ℕ)) (elements others : List (Bor (List ℕ)))
    (i : ℕ) (d : Bor (List ℕ)) (text slashed after : List ℕ) →
    elements ≡ first ∷ others → i < length others →
    text ≡ root ++ join_with_byte slash (texts (take (i + 1) elements))
    → slashed ≡ text ++ slash ∷ [] → after ≡ slashed ++ (get_or others i d).now →
    after ≡ root ++ join_with_byte slash (texts (take (i + 1 + 1) elements))
path_more root first elements others i d text slashed after parts within so_far slashed_is
    after_is =
    let so_far' : text ≡ root ++ join_with_byte slash (first.now ∷ texts (take i others)) =
    so_far ∙ ap (λ t. root ++ join_with_byte slash (texts (take (i + 1) t))) parts
    ∙ rw add-one refl in
    let longer : texts (take (i + 1 + 1) elements) ≡ (first.now ∷ texts (take i others))
    ++ (get_or others i d).now ∷ [] =
    ap (λ t. texts (take (i + 1 + 1) t)) parts
    ∙ rw (add-one (i + 1)) (ap (λ t. first.now ∷ t) (texts-take others i d within)) in
    after_is
    ∙ ap (λ t. t ++ (get_or others i d).now) (slashed_is ∙ ap (λ t. t ++ slash ∷ []) so_far')
    ∙ append_assoc (root ++ join_with_byte slash (first.now ∷ texts (take i others))) (slash ∷ [])
    (get_or others i d).now
    ∙ append_assoc root (join_with_byte slash (first.now ∷ texts (take i others)))
    (slash ∷ (get_or others i d).now)
    ∙ ap (λ t. root ++ t)
    (sym (join_with_byte-append slash first.now (texts (take i others))
    (get_or others i d).now))
    ∙ ap (λ t. root ++ join_with_byte slash t) (sym longer)
