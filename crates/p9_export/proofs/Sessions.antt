-- Sessions with the rows of their fids' places, as the exporter opens and closes them.
use Rattle.std.proofs.Common.{is_some}
use Rattle.std.proofs.Common.{◌≡◌, ℕ, Bool, List, Result, Ok, Err, ap, refl, subst, sym, ◌∙◌}
use Rattle.std.specs.Prelude.{OnErr, OnOk}
use Rattle.std.specs.Ordering.{nat_cmp}
use Rattle.std.specs.BTreeMap.{insert_entry, is_at}
use Rattle.std.specs.Map.{lookup, remove_entry}
use Rattle.p9_base.proofs.Rows.{each-insert, each-remove}
use Rattle.p9_space.specs.Table.{MountRow}
use Rattle.p9_fids.proofs.Values.{insert-mapped, is_some-mapped, lookup-mapped}
use Rattle.p9_tree.specs.Server.{Server}
use Rattle.p9_step.specs.Sound.{IsServed}
use Rattle.p9_step.specs.State.{Setting, session_at}
use Rattle.p9_step.proofs.Sounds.{served-opened}
use Rattle.p9_walks.specs.Held.{HeldSession, SessionFits, SessionsFit, fresh_held}
use Rattle.p9_walks.specs.Held.{session_in, sessions_in}
use Rattle.p9_export.specs.Kept.{IsKept}

-- whether a session of a name is there
pub session-open : (name : ℕ) (rows : List (ℕ × HeldSession))
    → is_some (session_at name (sessions_in rows)) ≡ is_some (lookup (is_at (nat_cmp name)) rows)
session-open name rows =
    ap is_some (lookup-mapped session_in (is_at (nat_cmp name)) rows)
    ∙ is_some-mapped session_in (lookup (is_at (nat_cmp name)) rows)

-- after a closing
pub fits-remove : (table : List MountRow) (test : ℕ → Bool) (rows : List (ℕ × HeldSession))
    → SessionsFit table rows → SessionsFit table (remove_entry test rows)
fits-remove table test rows each = each-remove (SessionFits table) test rows each

-- after an opening, or one for which an allocation failed
pub kept-put : {T E : Type 0} (setting : Setting) (forest : List Server)
    (rows rows' : List (ℕ × HeldSession)) (name : ℕ) (new : HeldSession) (result : Result T E) →
    IsKept setting forest rows → new ≡ fresh_held
    → OnOk result (rows' ≡ insert_entry nat_cmp rows name new) → OnErr result (rows' ≡ rows)
    → IsKept setting forest rows'
kept-put setting forest rows rows' name new (Ok x) kept is done left =
    rw (done, is) (record {
      served =
          subst (IsServed setting forest) (sym (insert-mapped session_in nat_cmp rows name fresh_held))
          (served-opened setting forest (sessions_in rows) name kept.served);
      channels =
          each-insert (SessionFits setting.table) nat_cmp rows name fresh_held refl kept.channels;
    })
kept-put setting forest rows rows' name new (Err x) kept is done left = rw left kept
