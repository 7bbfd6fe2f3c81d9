-- Which sessions are open after an event.
use Rattle.std.proofs.Common.{◌≡◌, ◌≢◌, ℕ, ◌<◌, Bool, true, false, List, [], ◌∷◌, Option, Some}
use Rattle.std.proofs.Common.{None, IsSome, refl, sym, ap, ◌∙◌}
use Rattle.std.proofs.Common.{Result, Ok, Err}
use Rattle.std.specs.Prelude.{◌&&◌, ◌↔◌, if◌then◌else◌, is_err}
use Rattle.p9_export.specs.declared.export.OpenError.{OpenError}
use Rattle.p9_export.specs.declared.export.OpenError.TheVariants.{Live}
use Rattle.p9_guard.specs.Marks.{is_refused}
use Rattle.std.specs.BTreeMap.{insert_entry, is_at}
use Rattle.std.specs.Cmp.{nat_cmp_is, ranks}
use Rattle.std.specs.Map.{lookup, remove_entry, set_value}
use Rattle.std.specs.Option.{option_map_or}
use Rattle.std.specs.Ordering.{MatchOrdering, is_eq, nat_cmp}
use Rattle.std.specs.declared.cmp.Ordering.{Ordering}
use Rattle.std.specs.declared.cmp.Ordering.TheVariants.{Equal, Greater, Less}
use Rattle.p9_wire.specs.Frame.{is_frame}
use Rattle.p9_step.specs.Answer.{Answer}
use Rattle.p9_step.specs.Event.{Close, Message, Open}
use Rattle.p9_step.specs.Memory.{frame_may_fail}
use Rattle.p9_step.specs.State.{Session, SessionRow, State, fresh, session_at}
use Rattle.p9_step.specs.Step.{answered, closed, frame_answer, step, unchanged}

-- a key is at itself, and at no other
at_self : (n : ℕ) → is_at (nat_cmp n) n ≡ true
at_self n = ap is_eq (sym (nat_cmp_is n n Equal refl))

at_same : (n k : ℕ) → is_at (nat_cmp n) k ≡ true → n ≡ k
at_same n k e = go (nat_cmp n k) (ranks n k) e
  where
    go : (o : Ordering) → MatchOrdering o (n < k) (n ≡ k) (k < n) → is_eq o ≡ true → n ≡ k
    go Less ranked e = absurd (cc)
    go Equal ranked e = ranked
    go Greater ranked e = absurd (cc)

-- a session that is there stays there when another value is put at a key
set-there : (test at : ℕ → Bool) (rows : List SessionRow) (s : Session) → IsSome (lookup at rows)
    → IsSome (lookup at (set_value test rows s))
set-there test at [] s there = there
set-there test at (row ∷ rows) s there =
    go (test row.0) (at row.0) refl refl (λ later. set-there test at rows s later)
  where
    go : (b a : Bool) → test row.0 ≡ b → at row.0 ≡ a
        → (IsSome (lookup at rows) → IsSome (lookup at (set_value test rows s)))
        → IsSome (lookup at (set_value test (row ∷ rows) s))
    go true true e f behind = rw (e, f) refl
    go true false e f behind =
        let later : IsSome (lookup at rows) = rw f at there in rw (e, f) later
    go false true e f behind = rw (e, f) refl
    go false false e f behind =
        let later : IsSome (lookup at rows) = rw f at there in rw (e, f) (behind later)

-- one that is put at a key is there
insert-here : (n : ℕ) (rows : List SessionRow) (s : Session)
    → IsSome (lookup (is_at (nat_cmp n)) (insert_entry nat_cmp rows n s))
insert-here n [] s = rw (at_self n) refl
insert-here n (row ∷ rows) s = go (nat_cmp n row.0) refl (insert-here n rows s)
  where
    go : (o : Ordering) → nat_cmp n row.0 ≡ o
        → IsSome (lookup (is_at (nat_cmp n)) (insert_entry nat_cmp rows n s))
        → IsSome (lookup (is_at (nat_cmp n)) (insert_entry nat_cmp (row ∷ rows) n s))
    go Less e behind = rw (e, at_self n) refl
    go Equal e behind = rw (e, e) refl
    go Greater e behind = rw (e, e) behind

-- the others stay there
insert-there : (n : ℕ) (at : ℕ → Bool) (rows : List SessionRow) (s : Session)
    → IsSome (lookup at rows) → IsSome (lookup at (insert_entry nat_cmp rows n s))
insert-there n at [] s there = absurd (cc)
insert-there n at (row ∷ rows) s there =
    go (nat_cmp n row.0) (at row.0) refl refl (λ later. insert-there n at rows s later)
  where
    new : (a : Bool) → at n ≡ a → IsSome (lookup at ((n, s) ∷ row ∷ rows))
    new true e = rw e refl
    new false e = rw e there

    go : (o : Ordering) (a : Bool) → nat_cmp n row.0 ≡ o → at row.0 ≡ a
        → (IsSome (lookup at rows) → IsSome (lookup at (insert_entry nat_cmp rows n s)))
        → IsSome (lookup at (insert_entry nat_cmp (row ∷ rows) n s))
    go Less a e f behind = rw e (new (at n) refl)
    go Equal true e f behind = rw (e, f) refl
    go Equal false e f behind =
        let later : IsSome (lookup at rows) = rw f at there in rw (e, f) later
    go Greater true e f behind = rw (e, f) refl
    go Greater false e f behind =
        let later : IsSome (lookup at rows) = rw f at there in rw (e, f) (behind later)

-- the others stay there when a key is taken out
remove-there : (n k : ℕ) (rows : List SessionRow) → k ≢ n
    → IsSome (lookup (is_at (nat_cmp k)) rows)
    → IsSome (lookup (is_at (nat_cmp k)) (remove_entry (is_at (nat_cmp n)) rows))
remove-there n k [] other there = there
remove-there n k (row ∷ rows) other there =
    go (is_at (nat_cmp n) row.0) (is_at (nat_cmp k) row.0) refl refl
    (λ later. remove-there n k rows other later)
  where
    go : (b a : Bool) → is_at (nat_cmp n) row.0 ≡ b → is_at (nat_cmp k) row.0 ≡ a
        → (IsSome (lookup (is_at (nat_cmp k)) rows)
        → IsSome (lookup (is_at (nat_cmp k)) (remove_entry (is_at (nat_cmp n)) rows)))
        → IsSome (lookup (is_at (nat_cmp k)) (remove_entry (is_at (nat_cmp n)) (row ∷ rows)))
    go true true e f behind = absurd (other (at_same k row.0 f ∙ sym (at_same n row.0 e)))
    go true false e f behind =
        let later : IsSome (lookup (is_at (nat_cmp k)) rows) = rw f at there in rw e later
    go false true e f behind = rw (e, f) refl
    go false false e f behind =
        let later : IsSome (lookup (is_at (nat_cmp k)) rows) = rw f at there in
        rw (e, f) (behind later)

-- Events.

module _ (state : State) (k : ℕ) (there : IsSome (session_at k state.sessions)) where
  -- a session that is open stays open when a frame is answered
  answered-there : (n : ℕ) (session : Session) (frame : List ℕ) (refused : Bool)
      (answer : Answer)
      → IsSome (session_at k (answered state n session frame refused answer).state.sessions)
  answered-there n session frame refused answer = go (refused && frame_may_fail frame answer) refl
    where
      go : (b : Bool) → (refused && frame_may_fail frame answer) ≡ b
          → IsSome (session_at k (answered state n session frame refused answer).state.sessions)
      go true e = rw e there
      go false e =
          rw e (set-there (is_at (nat_cmp n)) (is_at (nat_cmp k)) state.sessions _ there)

  pub message-there : (n : ℕ) (frame : List ℕ) (now : ℕ) (refused : Bool)
      → IsSome (session_at k (step state (Message n frame now) refused).state.sessions)
  message-there n frame now refused = by_frame (is_frame frame)
    where
      by_session : (o : Option Session)
          → IsSome (session_at k
          (option_map_or (λ session. answered state n session frame refused
          (frame_answer state.setting state.forest state.sessions session now frame)) o
          (unchanged state)).state.sessions)
      by_session None = there
      by_session (Some session) =
          answered-there n session frame refused
          (frame_answer state.setting state.forest state.sessions session now frame)

      by_frame : (b : Bool)
          → IsSome (session_at k (if b
          then option_map_or (λ session. answered state n session frame refused
          (frame_answer state.setting state.forest state.sessions session now frame))
          (session_at n state.sessions)
          (unchanged state) else unchanged state).state.sessions)
      by_frame true = by_session (session_at n state.sessions)
      by_frame false = there

  -- another is closed
  pub close-there : (n now : ℕ) → k ≢ n
      → IsSome (session_at k (step state (Close n now) false).state.sessions)
  close-there n now other = go (session_at n state.sessions)
    where
      go : (o : Option Session)
          → IsSome (session_at k
          (option_map_or (closed state n now) o (unchanged state)).state.sessions)
      go None = there
      go (Some session) = remove-there n k state.sessions other there

  -- another is opened
  pub open-there : (n : ℕ) → session_at n state.sessions ≡ None
      → IsSome (session_at k (step state (Open n) false).state.sessions)
  open-there n free =
      rw free (insert-there n (is_at (nat_cmp k)) state.sessions fresh there)

-- which is open then
pub open-here : (state : State) (n : ℕ) → session_at n state.sessions ≡ None
    → IsSome (session_at n (step state (Open n) false).state.sessions)
open-here state n free = rw free (insert-here n state.sessions fresh)

-- What a guard's opening comes to.

pub not-refused : {X : Type 0} (r : Result X OpenError) → is_err r ≡ false → is_refused r ≡ false
not-refused (Ok x) e = refl
not-refused (Err error) e = let no : true ≡ false = e in absurd (cc)

pub was-free : {X : Type 0} (o : Option Session) (r : Result X OpenError)
    → ((r ≡ Err Live) ↔ IsSome o) → is_err r ≡ false → o ≡ None
was-free None r live e = refl
was-free (Some session) r live e =
    let no : true ≡ false = ap is_err (sym (live.1 refl)) ∙ e in absurd (cc)
