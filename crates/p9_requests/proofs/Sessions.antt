-- Sessions with the rows of their fids' places.
use Rattle.std.proofs.Common.{MutBor, true, false}
use Rattle.std.proofs.Common.{◌≡◌, ℕ, Bool, List, [], ◌∷◌, Option, Some, None, IsSome, ap, refl, sym, ◌∙◌}
use Rattle.std.proofs.lemmas.List.Elements.{All-cons, All-nil}
use Rattle.std.specs.List.{All}
use Rattle.std.specs.Option.{option_copied_mut, option_map}
use Rattle.std.specs.Ordering.{nat_cmp}
use Rattle.std.specs.BTreeMap.{is_at}
use Rattle.std.specs.Map.{lookup, set_value, values_of}
use Rattle.p9_base.proofs.Rows.{each-lookup, each-set}
use Rattle.p9_space.specs.Table.{MountRow}
use Rattle.p9_fids.proofs.Values.{lookup-mapped}
use Rattle.p9_step.specs.State.{session_at}
use Rattle.p9_walks.specs.Held.{HeldSession, SessionFits, SessionsFit, session_in, sessions_in}

-- the session of a name, without its rows
pub session-there : (name : ℕ) (rows : List (ℕ × HeldSession)) (held : HeldSession)
    → lookup (is_at (nat_cmp name)) rows ≡ Some held
    → session_at name (sessions_in rows) ≡ Some held.session
session-there name rows held found =
    lookup-mapped session_in (is_at (nat_cmp name)) rows ∙ ap (option_map session_in) found

-- none of that name is there
pub session-none : (name : ℕ) (rows : List (ℕ × HeldSession))
    → lookup (is_at (nat_cmp name)) rows ≡ None → session_at name (sessions_in rows) ≡ None
session-none name rows none =
    lookup-mapped session_in (is_at (nat_cmp name)) rows ∙ ap (option_map session_in) none

-- one that is there is found with its rows
pub session-held : (name : ℕ) (rows : List (ℕ × HeldSession)) (found : Option (MutBor HeldSession))
    → option_copied_mut found ≡ lookup (is_at (nat_cmp name)) rows
    → IsSome (session_at name (sessions_in rows)) → IsSome found
session-held name rows None value there =
    let none : session_at name (sessions_in rows) ≡ None = session-none name rows (sym value) in
    let no : false ≡ true = rw none at there in
    absurd (cc)
session-held name rows (Some held) value there = refl

module _ (table : List MountRow) where
  pub fits-lookup : (test : ℕ → Bool) (rows : List (ℕ × HeldSession)) (held : HeldSession)
      → SessionsFit table rows → lookup test rows ≡ Some held → SessionFits table held
  fits-lookup test rows held each found = each-lookup (SessionFits table) test rows held each found

  pub fits-set : (test : ℕ → Bool) (rows : List (ℕ × HeldSession)) (held : HeldSession)
      → SessionsFit table rows → SessionFits table held
      → SessionsFit table (set_value test rows held)
  fits-set test rows held each fits = each-set (SessionFits table) test rows held fits each

  pub fits-all : (rows : List (ℕ × HeldSession)) → SessionsFit table rows
      → All (SessionFits table) (values_of rows)
  fits-all [] each = All-nil (SessionFits table)
  fits-all (row ∷ rows) each =
      All-cons (SessionFits table) row.1 (values_of rows) each.0 (fits-all rows each.1)
