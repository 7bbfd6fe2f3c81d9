-- The sessions after a message.
use Rattle.std.proofs.Common.{◌≡◌, ◌∙◌, ℕ, List, Some, ap}
use Rattle.std.specs.BTreeMap.{is_at}
use Rattle.std.specs.Map.{set_value}
use Rattle.std.specs.Option.{option_map_or}
use Rattle.std.specs.Ordering.{nat_cmp}
use Rattle.std.proofs.lemmas.Map.Steps.{set_value_same}
use Rattle.p9_fids.specs.Fid.{Fid, FidRow, changed_fid, fid_at}
use Rattle.p9_step.specs.State.{Session, State, changed_session, session_at}
use Rattle.p9_manual_laws.proofs.Rows.{lookup-set, lookup-set_other}

-- a session in its own place changes nothing
pub changed-same : (state : State) (name : ℕ) (session : Session)
    → session_at name state.sessions ≡ Some session
    → changed_session name session state.sessions ≡ state.sessions
changed-same state name session there =
    set_value_same (is_at (nat_cmp name)) state.sessions session there

-- another session in the place of one is that of its name
pub session_at-changed : (state : State) (name : ℕ) (old new : Session)
    → session_at name state.sessions ≡ Some old
    → session_at name (changed_session name new state.sessions) ≡ Some new
session_at-changed state name old new there = lookup-set name state.sessions old new there

-- and the sessions of other names are as before
pub session_at-other : (state : State) (name other : ℕ) (new : Session) → (other ≡ name → ⊥)
    → session_at other (changed_session name new state.sessions) ≡ session_at other state.sessions
session_at-other state name other new apart = lookup-set_other other name state.sessions new apart

-- a fid that is changed is found as it is then
pub fid_at-changed : (fid : ℕ) (f : Fid → Fid) (fids : List FidRow) (v : Fid)
    → fid_at fid fids ≡ Some v → fid_at fid (changed_fid fid f fids) ≡ Some (f v)
fid_at-changed fid f fids v found =
    ap (λ o. fid_at fid (option_map_or (λ w. set_value (is_at (nat_cmp fid)) fids (f w)) o fids))
    found
    ∙ lookup-set fid fids v (f v) found
