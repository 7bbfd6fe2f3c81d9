-- What one line or one user more adds to the rows of accounts and to the names of a group.
use Rattle.std.proofs.Common.{◌≡◌, ℕ, ◌+◌, ◌<◌, List, [], ◌∷◌, ◌++◌, Bor, Option, None, Some, length, drop}
use Rattle.std.proofs.Common.{get_or, map, refl, sym, ap, ◌∙◌}
use Rattle.std.specs.List.{filter_map}
use Rattle.std.specs.Option.{option_map}
use Rattle.std.proofs.lemmas.Bool.{eq-eqb, ne_eqb}
use Rattle.std.proofs.lemmas.List.{map-append}
use Rattle.p9_world.proofs.Loops.{list-more}
use Rattle.p9_pack.specs.declared.account.UserAccount.{UserAccount}
use Rattle.p9_pack.specs.Account.{fields_of, user_row, users_of}
use Rattle.p9_pack.proofs.Loops.{list-same}

-- texts as they are seen
abbrev pub texts_view : List (Bor (List ℕ)) → List (List ℕ)
texts_view texts = map (λ text. text.now) texts

-- the names of the users whose own group has the number
abbrev pub names_of : ℕ → List UserAccount → List (List ℕ)
names_of gid users = users_of gid (map user_row users)

-- the own group of a user has the number
pub names-one : (gid : ℕ) (users : List UserAccount) (i : ℕ) (d : UserAccount)
    (names pushed after : List (Bor (List ℕ))) (whole : List (List ℕ)) → i < length users
    → (get_or users i d).gid ≡ gid → after ≡ pushed
    → pushed ≡ names ++ (get_or users i d).name ∷ []
    → texts_view names ++ names_of gid (drop i users) ≡ whole
    → texts_view after ++ names_of gid (drop (i + 1) users) ≡ whole
names-one gid users i d names pushed after whole l same is more kept =
    let user = get_or users i d in
    let rest = drop (i + 1) users in
    let one : names_of gid (user ∷ rest) ≡ user.name.now ∷ names_of gid rest =
    rw (eq-eqb user.gid gid same) refl in
    list-more users i user d (names_of gid) (texts_view names) (user.name.now ∷ [])
    (texts_view after) whole l refl one
    (ap texts_view (is ∙ more) ∙ map-append (λ text. text.now) names (user.name ∷ [])) kept

-- it has another number
pub names-same : (gid : ℕ) (users : List UserAccount) (i : ℕ) (d : UserAccount)
    (names after : List (Bor (List ℕ))) (whole : List (List ℕ)) → i < length users
    → ((get_or users i d).gid ≡ gid → ⊥) → after ≡ names
    → texts_view names ++ names_of gid (drop i users) ≡ whole
    → texts_view after ++ names_of gid (drop (i + 1) users) ≡ whole
names-same gid users i d names after whole l other is kept =
    let user = get_or users i d in
    let rest = drop (i + 1) users in
    let none : names_of gid (user ∷ rest) ≡ names_of gid rest =
    rw (ne_eqb user.gid gid other) refl in
    list-same users i user d (names_of gid) (texts_view names) (texts_view after) whole l refl none
    (ap texts_view is) kept

module _ {T Row : Type 0} (row_of : T → Row) (row_in : List (List ℕ) → Option Row) where
  -- the rows of lines
  abbrev pub rows_of : List (Bor (List ℕ)) → List Row
  rows_of lines = filter_map (λ line. row_in (fields_of line)) (texts_view lines)

  module _ (lines : List (Bor (List ℕ))) (i : ℕ) (d : Bor (List ℕ))
      (fields slice : List (Bor (List ℕ))) (found : Option T) (rows : List T) (whole : List Row) where
    -- the row of a line's fields
    row-found : texts_view fields ≡ fields_of (get_or lines i d).now → slice ≡ fields
        → option_map row_of found ≡ row_in (texts_view slice)
        → row_in (fields_of (get_or lines i d).now) ≡ option_map row_of found
    row-found split same is =
        ap row_in (sym split) ∙ ap (λ fs. row_in (texts_view fs)) (sym same) ∙ sym is

    -- a line has a row
    pub rows-one : (account : T) (pushed after : List T) → i < length lines
        → texts_view fields ≡ fields_of (get_or lines i d).now → slice ≡ fields
        → option_map row_of found ≡ row_in (texts_view slice) → found ≡ Some account
        → after ≡ pushed → pushed ≡ rows ++ account ∷ []
        → map row_of rows ++ rows_of (drop i lines) ≡ whole
        → map row_of after ++ rows_of (drop (i + 1) lines) ≡ whole
    rows-one account pushed after l split same is some kept_of more kept =
        let line = get_or lines i d in
        let rest = drop (i + 1) lines in
        let row : row_in (fields_of line.now) ≡ Some (row_of account) =
        row-found split same is ∙ ap (option_map row_of) some in
        let one : rows_of (line ∷ rest) ≡ row_of account ∷ rows_of rest = rw row refl in
        list-more lines i line d rows_of (map row_of rows) (row_of account ∷ []) (map row_of after)
        whole l refl one
        (ap (map row_of) (kept_of ∙ more) ∙ map-append row_of rows (account ∷ [])) kept

    -- it has none
    pub rows-same : (after : List T) → i < length lines
        → texts_view fields ≡ fields_of (get_or lines i d).now → slice ≡ fields
        → option_map row_of found ≡ row_in (texts_view slice) → found ≡ None
        → after ≡ rows → map row_of rows ++ rows_of (drop i lines) ≡ whole
        → map row_of after ++ rows_of (drop (i + 1) lines) ≡ whole
    rows-same after l split same is none kept_of kept =
        let line = get_or lines i d in
        let rest = drop (i + 1) lines in
        let row : row_in (fields_of line.now) ≡ None =
        row-found split same is ∙ ap (option_map row_of) none in
        let skipped : rows_of (line ∷ rest) ≡ rows_of rest = rw row refl in
        list-same lines i line d rows_of (map row_of rows) (map row_of after) whole l refl skipped
        (ap (map row_of) kept_of) kept
