-- Each connection's session stays that of its key, and open.
use Rattle.std.proofs.Common.{◌≡◌, ◌≢◌, ℕ, ◌<◌, ◌^◌, ◌==◌, inl, inr, Bool, true, false, List}
use Rattle.std.proofs.Common.{Option, Some, None, IsSome, refl, sym, ap, ◌∙◌, length, take}
use Rattle.std.proofs.lemmas.Bool.{cases_lt, eqb-false, eqb-true}
use Rattle.std.proofs.Common.{◌+◌, ◌++◌, cond, subst}
use Rattle.std.proofs.lemmas.List.Sums.{sum_by-append}
use Rattle.std.proofs.lemmas.List.{get_or-set_other, get_or-set_same, get_or_past, set-set}
use Rattle.std.specs.Prelude.{count_by, if◌then◌else◌, nat_eq, nat_lt, slice_set}
use Rattle.p9_wire.specs.Frame.{first_frame}
use Rattle.p9_wire.specs.declared.frame.Frame.{Frame}
use Rattle.p9_wire.specs.declared.frame.Frame.TheVariants.{Need, Whole, Broken}
use Rattle.p9_step.specs.State.{SessionRow, session_at}
use Rattle.p9_conn.specs.declared.conn.Turn.{Turn}
use Rattle.p9_conn.specs.declared.conn.Turn.TheVariants.{Idle, Moved, Closed}
use Rattle.p9_conn.specs.Conn.{Connection, HasTurned, turn_of}
use Rattle.p9_conn.specs.Turn.{AnswersFrame, Deeds, Ends, IsIdle, IsTurn, Link, Over, Scene}
use Rattle.p9_conn.specs.Turn.{Sending, TurnBy, phase_by, phase_of}
use Rattle.p9_clients.specs.Serving.{AreKeyed, Serving, TurnAt, slot_at}
use Rattle.p9_clients.proofs.Sessions.{close-there, message-there}

-- one slot has changed, and the sessions of the others stay open
pub keyed-updated : {S : Type 0} (old new : List (Option (Connection S))) (n : ℕ)
    (slot : Option (Connection S)) (sessions sessions' : List SessionRow)
    → slot_at new n ≡ slot → ((k : ℕ) → k ≢ n → slot_at new k ≡ slot_at old k)
    → AreKeyed old sessions
    → ((conn : Connection S) → slot ≡ Some conn
    → (conn.session ≡ n) × (n < 2 ^ 32) × IsSome (session_at n sessions'))
    → ((k : ℕ) → k ≢ n → IsSome (session_at k sessions) → IsSome (session_at k sessions'))
    → AreKeyed new sessions'
keyed-updated old new n slot sessions sessions' changed others keyed here there k conn is =
    go (k == n) refl
  where
    go : (b : Bool) → (k == n) ≡ b
        → (conn.session ≡ k) × (k < 2 ^ 32) × IsSome (session_at k sessions')
    go true e =
        let same : k ≡ n = eqb-true k n e in
        let at : slot ≡ Some conn = sym changed ∙ ap (slot_at new) (sym same) ∙ is in
        rw same (here conn at)
    go false e =
        let other : k ≢ n = eqb-false k n e in
        let its = keyed k conn (sym (others k other) ∙ is) in
        (its.0, its.1, there k other its.2)

-- What a turn makes of the sessions.

-- another session stays open; its own does, where its connection isn't closed
pub record StaysOpen (n : ℕ) (old new : Scene) : Type 0 where
  pub others : (k : ℕ) → k ≢ n → IsSome (session_at k old.state.sessions)
      → IsSome (session_at k new.state.sessions)
  pub own : new.link.closed ≡ false → IsSome (session_at n old.state.sessions)
      → IsSome (session_at n new.state.sessions)

same-state : (n : ℕ) (old new : Scene) → new.state ≡ old.state → StaysOpen n old new
same-state n old new same = record {
  others = λ k other there. rw same there;
  own = λ e there. rw same there;
}

idle : (n : ℕ) (old new : Scene) (deeds : Deeds) → IsIdle old new deeds → StaysOpen n old new
idle n old new deeds t = same-state n old new (ap (λ (s : Scene). s.state) t.scene_is)

ends : (n now : ℕ) (old new : Scene) (deeds : Deeds) → Ends n now old new deeds
    → StaysOpen n old new
ends n now old new deeds t = record {
  others = λ k other there. rw (t.stepped.state_is) (close-there old.state k there n now other);
  own = λ e there.
      let no : true ≡ false = sym (ap (λ (l : Link). l.closed) t.link_is) ∙ e in absurd (cc);
}

answers : (size n now : ℕ) (old new : Scene) (deeds : Deeds) → AnswersFrame size n now old new deeds
    → StaysOpen n old new
answers size n now old new deeds t = record {
  others = λ k other there.
      rw (t.stepped.state_is) (message-there old.state k there n (take size old.link.buffer) now
      t.refused);
  own = λ e there. rw (t.stepped.state_is) (message-there old.state n there n
      (take size old.link.buffer) now t.refused);
}

by-frame : (f : Frame) (n now : ℕ) (old new : Scene) (deeds : Deeds)
    → TurnBy (phase_by f) n now old new deeds → StaysOpen n old new
by-frame Need n now old new deeds (inl t) = same-state n old new t.state_is
by-frame Need n now old new deeds (inr (inl t)) = idle n old new deeds t
by-frame Need n now old new deeds (inr (inr t)) = ends n now old new deeds t
by-frame (Whole size) n now old new deeds t = answers size n now old new deeds t
by-frame Broken n now old new deeds t = ends n now old new deeds t

by-phase : (closed none : Bool) (n now : ℕ) (old new : Scene) (deeds : Deeds)
    → TurnBy (if closed then Over
    else (if none then phase_by (first_frame old.link.buffer) else Sending)) n now old new deeds
    → StaysOpen n old new
by-phase true none n now old new deeds t = idle n old new deeds t
by-phase false true n now old new deeds t =
    by-frame (first_frame old.link.buffer) n now old new deeds t
by-phase false false n now old new deeds (inl t) = same-state n old new t.state_is
by-phase false false n now old new deeds (inr (inl t)) = idle n old new deeds t
by-phase false false n now old new deeds (inr (inr t)) = ends n now old new deeds t

pub stays-open : (n now : ℕ) (old new : Scene) (deeds : Deeds) → IsTurn n now old new deeds
    → StaysOpen n old new
stays-open n now old new deeds t =
    by-phase old.link.closed (nat_eq (length old.link.pending) 0) n now old new deeds t

-- Slots.

-- a slot with a connection is one of the slots
pub within : {S : Type 0} (slots : List (Option (Connection S))) (n : ℕ) (conn : Connection S)
    → slot_at slots n ≡ Some conn → n < length slots
within {S} slots n conn is = elim (cases_lt n (length slots)) [
  | inl few ↦ few
  | inr past ↦
      let none : slot_at slots n ≡ None = get_or_past slots n None past in
      let no : Some conn ≡ None = sym is ∙ none in absurd (cc)
]

-- a slot was written over
pub keyed-set : {S : Type 0} (slots : List (Option (Connection S))) (n : ℕ) (conn : Connection S)
    (slot : Option (Connection S)) (sessions sessions' : List SessionRow)
    → slot_at slots n ≡ Some conn → AreKeyed slots sessions
    → ((conn : Connection S) → slot ≡ Some conn
    → (conn.session ≡ n) × IsSome (session_at n sessions'))
    → ((k : ℕ) → k ≢ n → IsSome (session_at k sessions) → IsSome (session_at k sessions'))
    → AreKeyed (slice_set slots n slot) sessions'
keyed-set slots n conn slot sessions sessions' is keyed here there =
    keyed-updated slots (slice_set slots n slot) n slot sessions sessions'
    (get_or-set_same slots n slot None (within slots n conn is))
    (λ k other. get_or-set_other slots n k slot None other) keyed
    (λ after at. let its = here after at in (its.0, (keyed n conn is).1, its.1)) there

-- after a turn that left its connection open
pub keyed-open : {S : Type 0} (slots : List (Option (Connection S))) (n : ℕ)
    (conn after : Connection S) (old new : Scene) → slot_at slots n ≡ Some conn
    → AreKeyed slots old.state.sessions → after.session ≡ conn.session
    → new.link.closed ≡ false → StaysOpen conn.session old new
    → AreKeyed (slice_set slots n (Some after)) new.state.sessions
keyed-open slots n conn after old new is keyed same left stays =
    let its = keyed n conn is in
    let stays' : StaysOpen n old new = subst (λ (m : ℕ). StaysOpen m old new) its.0 stays in
    keyed-set slots n conn (Some after) old.state.sessions new.state.sessions is keyed
    (λ c at.
    let here : after ≡ c = cc in
    (ap (λ x. x.session) (sym here) ∙ same ∙ its.0, stays'.own left its.2))
    stays'.others

-- after a turn that closed it
pub keyed-closed : {S : Type 0} (slots : List (Option (Connection S))) (n : ℕ)
    (conn after : Connection S) (old new : Scene) → slot_at slots n ≡ Some conn
    → AreKeyed slots old.state.sessions → StaysOpen conn.session old new
    → AreKeyed (slice_set (slice_set slots n (Some after)) n None) new.state.sessions
keyed-closed slots n conn after old new is keyed stays =
    let its = keyed n conn is in
    let stays' : StaysOpen n old new = subst (λ (m : ℕ). StaysOpen m old new) its.0 stays in
    rw (set-set slots n (Some after) None)
    (keyed-set slots n conn None old.state.sessions new.state.sessions is keyed
    (λ c at. absurd (cc)) stays'.others)

-- whether a turn has closed its connection
pub is-open : (deeds : Deeds) (closed : Bool) (turn : Turn) → turn ≡ turn_of deeds closed
    → (turn ≡ Closed → ⊥) → closed ≡ false
is-open deeds false turn is other = refl
is-open deeds true turn is other = absurd (other is)

pub is-shut : (deeds : Deeds) (closed : Bool) (turn : Turn) → turn ≡ turn_of deeds closed
    → turn ≡ Closed → closed ≡ true
is-shut deeds true turn is same = refl
is-shut deeds false turn is same =
    go (nat_lt 0 (length deeds.read + length deeds.written + length deeds.answered)) (sym same ∙ is)
  where
    go : (b : Bool) → Closed ≡ (if b then Moved else Idle) → false ≡ true
    go true e = absurd (cc)
    go false e = absurd (cc)

-- What a turn at a key comes to.

module _ {S : Type 0} (remaining contents : S → Option (List ℕ)) (now key : ℕ)
    (conn after : Connection S) (old new : Serving S) (turn : Turn)
    (there : slot_at old.slots key ≡ Some conn)
    (turned : HasTurned remaining contents (phase_of conn.link) now conn old.guard after new.guard
    turn) where
  pub turn-left-open : after.link.closed ≡ false
      → new.slots ≡ slice_set old.slots key (Some after)
      → TurnAt remaining contents now key (slot_at old.slots key) old new (Some turn)
  turn-left-open left slots =
      rw there (record {
        after = after;
        turned = turned;
        slots_are = slots
            ∙ ap (λ (b : Bool). slice_set old.slots key (if b then None else Some after))
            (sym left);
      })

  pub turn-closed : after.link.closed ≡ true
      → new.slots ≡ slice_set (slice_set old.slots key (Some after)) key None
      → TurnAt remaining contents now key (slot_at old.slots key) old new (Some turn)
  turn-closed shut slots =
      rw there (record {
        after = after;
        turned = turned;
        slots_are = slots ∙ set-set old.slots key (Some after) None
            ∙ ap (λ (b : Bool). slice_set old.slots key (if b then None else Some after))
            (sym shut);
      })

-- Counts.

pub counted : {X : Type 0} (test : X → Bool) (xs ys : List X)
    → count_by test (xs ++ ys) ≡ count_by test xs + count_by test ys
counted test xs ys = sum_by-append (λ x. cond (test x) 1 0) xs ys
