-- A client of a restricted stream attaches as the users for whom it is, and as nobody else.
use Rattle.std.proofs.Common.{◌≡◌, ℕ, Bool, true, false, cond, eqb, nat_eq, List, [], ◌∷◌, ◌++◌}
use Rattle.std.proofs.Common.{◌&&◌, not, length, take, drop, replicate, None, Some, inl, inr, refl}
use Rattle.std.proofs.Common.{ap, sym, ◌∙◌, subst, arith, ◌≤◌}
use Rattle.std.proofs.lemmas.Bool.{and_parts, cases_Bool, eqb-false, not-false}
use Rattle.std.proofs.lemmas.Bool.{and_cases, or_cases, both_ways, cond-false, cond-true}
use Rattle.std.proofs.lemmas.List.{drop-append-le, length-take}
use Rattle.std.proofs.lemmas.List.{take-append-le}
use Rattle.std.proofs.lemmas.List.Elements.{All-replicate}
use Rattle.std.proofs.lemmas.List.Folds.{list_any_none}
use Rattle.std.proofs.lemmas.Option.{none-some, same_Some}
use Rattle.std.proofs.lemmas.Slice.Eq.{bytes_eq-Decides}
use Rattle.std.specs.List.{AllByRecursion, list_any}
use Rattle.std.specs.Str.{bytes_eq}
use Rattle.std.specs.declared.option.Option.{Option}
use Rattle.p9_base.specs.User.{is_listed_user, is_user}
use Rattle.p9_wire.specs.Frame.{Frames, first_frame, frames, is_frame}
use Rattle.p9_wire.specs.Message.{TMessage, Tattach}
use Rattle.p9_wire.specs.Reading.{t_message_of}
use Rattle.p9_wire.specs.declared.frame.Frame.{Frame}
use Rattle.p9_wire.specs.declared.frame.Frame.TheVariants.{Need, Whole, Broken}
use Rattle.p9_wire.proofs.Streams.{begins_frames_as, first_frame-append, first_frame-whole}
use Rattle.p9_step.specs.Event.{Close, Event, Message, Open}
use Rattle.p9_step.specs.State.{State}
use Rattle.p9_user_laws.specs.Users.{AreHarmless, IsHarmless, IsHarmlessEvent, OwnsOnly, is_among}
use Rattle.p9_user_laws.proofs.Runs.{fids-belong}
use Rattle.p9_conn.specs.Turn.{Answered, Answering, Deeds, Ending, Over, Phase, Receiving}
use Rattle.p9_conn.specs.Turn.{Scene, Sending, TurnBy, phase_of}
use Rattle.p9_conn.specs.History.{Happening, Links, Runs, events_of, frame_in, frames_in, history}
use Rattle.p9_conn.specs.History.{history_by, read_by}
use Rattle.p9_conn.specs.Laws.{AreFirst}
use Rattle.p9_conn.proofs.Histories.{history-is-run}
use Rattle.p9_conn.proofs.Orders.{frames-come-in-order}
use Rattle.p9_restricted.specs.Laws.{NobodyAttachesAsAnother, each_masked, has_no_blank_name}
use Rattle.p9_restricted.specs.Laws.{is_visible, masked_message, masked_name}
use Rattle.p9_restricted.specs.Masked.{masked}
use Rattle.p9_restricted.proofs.MaskedFrames.{frames-are-masked}
use Rattle.p9_restricted.proofs.MaskedMessages.{in_read, messages-are-masked}

-- Names.

-- who is among users whose names are visible has a visible name
visible-among : (name : List ℕ) (users : List (List ℕ)) → has_no_blank_name users ≡ true
    → is_among name users ≡ true → is_visible name ≡ true
visible-among name [] all among = absurd (both_ways false refl among)
visible-among name (user ∷ users) all among =
    let parts = and_parts (is_visible user) (has_no_blank_name users) all in
    elim (or_cases (bytes_eq user name) (is_among name users) among) [
      | inl same ↦
          subst (λ (xs : List ℕ). is_visible xs ≡ true) ((bytes_eq-Decides user name).0 same) parts.0
      | inr others ↦ visible-among name users parts.1 others
    ]

-- blanks are not visible
blanks-unseen : (n : ℕ) → is_visible (replicate n 32) ≡ true → ⊥
blanks-unseen n e =
    let blanks : List ℕ = replicate n 32 in
    let some : list_any (λ b. not (nat_eq b 32)) blanks ≡ true =
    (and_parts (is_user blanks) (list_any (λ b. not (nat_eq b 32)) blanks) e).1 in
    both_ways (list_any (λ b. not (nat_eq b 32)) blanks)
    (list_any_none (λ b. not (nat_eq b 32)) blanks
    (All-replicate (λ b. not (nat_eq b 32) ≡ false) n 32 refl)) some

-- a name that is listed and was masked is of a user who is among these
masked-among : (users listed : List (List ℕ)) (name : List ℕ) → has_no_blank_name listed ≡ true
    → is_among (masked_name users name) listed ≡ true
    → is_among (masked_name users name) users ≡ true
masked-among users listed name visible among =
    let seen : is_visible (masked_name users name) ≡ true =
    visible-among (masked_name users name) listed visible among in
    elim (cases_Bool (is_user name && not (is_listed_user users name))) [
      | inl mask ↦
          let blanks : masked_name users name ≡ replicate (length name) 32 =
          cond-true (is_user name && not (is_listed_user users name)) (replicate (length name) 32)
          name mask in
          absurd (blanks-unseen (length name) (ap is_visible (sym blanks) ∙ seen))
      | inr kept ↦
          let same : masked_name users name ≡ name =
          cond-false (is_user name && not (is_listed_user users name)) (replicate (length name) 32)
          name kept in
          let user : is_user name ≡ true =
          (and_parts (is_user name) (list_any (λ b. not (nat_eq b 32)) name)
          (ap is_visible (sym same) ∙ seen)).0 in
          ap (λ (xs : List ℕ). is_among xs users) same
          ∙ elim (and_cases (is_user name) (not (is_listed_user users name)) kept) [
            | inl unknown ↦ absurd (both_ways (is_user name) unknown user)
            | inr listed ↦ not-false (is_listed_user users name) listed
          ]
    ]

-- Messages.

-- a masked Tattach was one, of a name of which this was made
masked-attach : (users : List (List ℕ)) (fid afid : ℕ) (uname aname : List ℕ) (message : TMessage)
    → masked_message users message ≡ Tattach fid afid uname aname
    → (name : List ℕ) × (uname ≡ masked_name users name)
masked-attach users fid afid uname aname (Tattach f a name other) e = (name, cc)
masked-attach users fid afid uname aname other e = absurd (cc)

read-attach : (users : List (List ℕ)) (tag fid afid : ℕ) (uname aname : List ℕ)
    (read : Option (ℕ × TMessage))
    → in_read users read ≡ Some (tag, Tattach fid afid uname aname)
    → (name : List ℕ) × (uname ≡ masked_name users name)
read-attach users tag fid afid uname aname None e = absurd (none-some _ e)
read-attach users tag fid afid uname aname (Some m) e =
    masked-attach users fid afid uname aname m.1
    (ap (λ (n : ℕ × TMessage). n.1) (same_Some _ _ e))

-- what is made of a frame attaches as nobody else
masked-harmless : (users listed : List (List ℕ)) (frame : List ℕ)
    → has_no_blank_name listed ≡ true → is_frame frame ≡ true
    → IsHarmless users listed (masked users frame)
masked-harmless users listed frame visible whole tag fid afid uname aname read among =
    let found =
    read-attach users tag fid afid uname aname (t_message_of frame)
    (sym (messages-are-masked users frame whole) ∙ read) in
    ap (λ (xs : List ℕ). is_among xs users) found.1
    ∙ masked-among users listed found.0 visible
    (ap (λ (xs : List ℕ). is_among xs listed) (sym found.1) ∙ among)

-- Frames.

-- the first frames of what is made of bytes attach as nobody else
first-by : (users listed : List (List ℕ)) (first : List ℕ) (others : List (List ℕ))
    (bytes : List ℕ) (f : Frame) → first_frame bytes ≡ f → has_no_blank_name listed ≡ true
    → AreFirst (first ∷ others) (each_masked users (frames bytes))
    → ((rest : List ℕ) → AreFirst others (each_masked users (frames rest))
    → AllByRecursion (IsHarmless users listed) others)
    → AllByRecursion (IsHarmless users listed) (first ∷ others)
first-by users listed first others bytes Need e visible are later =
    absurd (subst (λ (fs : Frames). AreFirst (first ∷ others) (each_masked users fs))
    (begins_frames_as Need bytes e) are)
first-by users listed first others bytes (Whole size) e visible are later =
    let its =
    subst (λ (fs : Frames). AreFirst (first ∷ others) (each_masked users fs))
    (begins_frames_as (Whole size) bytes e) are in (
      subst (λ (xs : List ℕ). IsHarmless users listed xs) (sym its.0)
          (masked-harmless users listed (take size bytes) visible (first_frame-whole bytes size e).0),
      later (drop size bytes) its.1,
    )
first-by users listed first others bytes Broken e visible are later =
    absurd (subst (λ (fs : Frames). AreFirst (first ∷ others) (each_masked users fs))
    (begins_frames_as Broken bytes e) are)

first-harmless : (users listed : List (List ℕ)) (first : List (List ℕ)) (bytes : List ℕ)
    → has_no_blank_name listed ≡ true → AreFirst first (each_masked users (frames bytes))
    → AllByRecursion (IsHarmless users listed) first
first-harmless users listed [] bytes visible are = tt
first-harmless users listed (frame ∷ first) bytes visible are =
    first-by users listed frame first bytes (first_frame bytes) refl visible are
    (λ rest. first-harmless users listed first rest visible)

-- frames of a front are the first frames of the whole
still-by : (frame : List ℕ) (others : List (List ℕ)) (bytes more : List ℕ) (f : Frame)
    → first_frame bytes ≡ f → AreFirst (frame ∷ others) (frames bytes)
    → ((rest : List ℕ) → AreFirst others (frames rest) → AreFirst others (frames (rest ++ more)))
    → AreFirst (frame ∷ others) (frames (bytes ++ more))
still-by frame others bytes more Need e are later =
    absurd (subst (AreFirst (frame ∷ others)) (begins_frames_as Need bytes e) are)
still-by frame others bytes more (Whole size) e are later =
    let its = subst (AreFirst (frame ∷ others)) (begins_frames_as (Whole size) bytes e) are in
    let within : size ≤ length bytes =
    omega (arith, (first_frame-whole bytes size e).1, length-take size bytes) in
    let again : first_frame (bytes ++ more) ≡ Whole size =
    first_frame-append bytes more (λ need. let no : Need ≡ Whole size =
    sym need ∙ e in absurd (cc)) ∙ e in
    subst (AreFirst (frame ∷ others)) (sym (begins_frames_as (Whole size) (bytes ++ more) again)) (
      its.0 ∙ sym (take-append-le size bytes more within),
      subst (λ (xs : List ℕ). AreFirst others (frames xs))
          (sym (drop-append-le size bytes more within)) (later (drop size bytes) its.1),
    )
still-by frame others bytes more Broken e are later =
    absurd (subst (AreFirst (frame ∷ others)) (begins_frames_as Broken bytes e) are)

still-first : (first : List (List ℕ)) (bytes more : List ℕ) → AreFirst first (frames bytes)
    → AreFirst first (frames (bytes ++ more))
still-first [] bytes more are = tt
still-first (frame ∷ first) bytes more are =
    still-by frame first bytes more (first_frame bytes) refl are
    (λ rest. still-first first rest more)

-- Events.

-- an event of a connection is of its session
abbrev IsOf : ℕ → Event → Type 0
IsOf session (Open name) = Unit {0}
IsOf session (Message name frame clock) = name ≡ session
IsOf session (Close name clock) = Unit {0}

abbrev AreOf : ℕ → List Answered → Type 0
AreOf session answered = AllByRecursion (λ entry. IsOf session entry.event.0) answered

phase-of : (session clock : ℕ) (phase : Phase) (old new : Scene) (deeds : Deeds)
    → TurnBy phase session clock old new deeds → AreOf session deeds.answered
phase-of session clock Over old new deeds idle =
    subst (λ (d : Deeds). AreOf session d.answered) (sym idle.deeds_are) tt
phase-of session clock Sending old new deeds (inl sends) =
    subst (AreOf session) (sym sends.no_entry) tt
phase-of session clock Sending old new deeds (inr (inl idle)) =
    subst (λ (d : Deeds). AreOf session d.answered) (sym idle.deeds_are) tt
phase-of session clock Sending old new deeds (inr (inr ends)) =
    subst (λ (d : Deeds). AreOf session d.answered) (sym ends.deeds_are) (tt, tt)
phase-of session clock (Answering size) old new deeds its =
    subst (λ (d : Deeds). AreOf session d.answered) (sym its.deeds_are) (refl, tt)
phase-of session clock Ending old new deeds ends =
    subst (λ (d : Deeds). AreOf session d.answered) (sym ends.deeds_are) (tt, tt)
phase-of session clock Receiving old new deeds (inl reads) =
    subst (AreOf session) (sym reads.no_entry) tt
phase-of session clock Receiving old new deeds (inr (inl idle)) =
    subst (λ (d : Deeds). AreOf session d.answered) (sym idle.deeds_are) tt
phase-of session clock Receiving old new deeds (inr (inr ends)) =
    subst (λ (d : Deeds). AreOf session d.answered) (sym ends.deeds_are) (tt, tt)

-- another session's events are harmless
another : (users listed : List (List ℕ)) (session other : ℕ) (event : Event)
    → (other ≡ session → ⊥) → IsOf other event → IsHarmlessEvent users listed session event
another users listed session other (Open name) ne of = tt
another users listed session other (Message name frame clock) ne of =
    λ same. absurd (ne (sym of ∙ same))
another users listed session other (Close name clock) ne of = tt

-- and so is a harmless frame's, in front of others
of_frame : (users listed : List (List ℕ)) (session : ℕ) (event : Event) (others : List (List ℕ))
    → AllByRecursion (IsHarmless users listed) (frame_in event ++ others)
    → IsHarmlessEvent users listed session event
    × AllByRecursion (IsHarmless users listed) others
of_frame users listed session (Open name) others all = (tt, all)
of_frame users listed session (Message name frame clock) others all = (λ same. all.0, all.1)
of_frame users listed session (Close name clock) others all = (tt, all)

-- events of one turn, and others after them
by-others : (users listed : List (List ℕ)) (session other : ℕ) (answered more : List Answered)
    → (other ≡ session → ⊥) → AreOf other answered
    → AreHarmless users listed session (events_of more)
    → AreHarmless users listed session (events_of (answered ++ more))
by-others users listed session other [] more ne of harmless = harmless
by-others users listed session other (entry ∷ answered) more ne of harmless = (
  another users listed session other entry.event.0 ne of.0,
  by-others users listed session other answered more ne of.1 harmless,
)

by-frames : (users listed : List (List ℕ)) (session : ℕ) (answered mine more : List Answered)
    → AllByRecursion (IsHarmless users listed) (frames_in (answered ++ mine))
    → (AllByRecursion (IsHarmless users listed) (frames_in mine)
    → AreHarmless users listed session (events_of more))
    → AreHarmless users listed session (events_of (answered ++ more))
by-frames users listed session [] mine more all later = later all
by-frames users listed session (entry ∷ answered) mine more all later =
    let its =
    of_frame users listed session entry.event.0 (frames_in (answered ++ mine)) all in
    (its.0, by-frames users listed session answered mine more its.1 later)

-- a turn of some session
by-turn : (users listed : List (List ℕ)) (session other : ℕ) (own : Bool)
    (answered mine more : List Answered) → eqb other session ≡ own → AreOf other answered
    → AllByRecursion (IsHarmless users listed) (frames_in (cond own answered [] ++ mine))
    → (AllByRecursion (IsHarmless users listed) (frames_in mine)
    → AreHarmless users listed session (events_of more))
    → AreHarmless users listed session (events_of (answered ++ more))
by-turn users listed session other true answered mine more e of all later =
    by-frames users listed session answered mine more all later
by-turn users listed session other false answered mine more e of all later =
    by-others users listed session other answered more (eqb-false other session e) of (later all)

harmless-history : (users listed : List (List ℕ)) (session : ℕ) (hs : List Happening)
    (links links' : Links) (state state' : State) → Runs hs links state links' state'
    → AllByRecursion (IsHarmless users listed) (frames_in (history_by session hs))
    → AreHarmless users listed session (events_of (history hs))
harmless-history users listed session [] links links' state state' runs all = tt
harmless-history users listed session (h ∷ hs) links links' state state' runs all =
    let old : Scene = record { link = links h.session; state = state } in
    let new : Scene = record { link = runs.0 h.session; state = runs.1 } in
    by-turn users listed session h.session (eqb h.session session) h.deeds.answered
    (history_by session hs) (history hs) refl
    (phase-of h.session h.clock (phase_of (links h.session)) old new h.deeds runs.2.turn) all
    (harmless-history users listed session hs runs.0 links' runs.1 state' runs.3)

-- The law.

pub nobody-attaches-as-another : NobodyAttachesAsAnother
nobody-attaches-as-another users session hs links links' state state' given left runs new read visible rising owns =
    let listed = state.setting.users in
    let came = frames-come-in-order hs links links' state state' runs session in
    let mine = frames_in (history_by session hs) in
    let first : AreFirst mine (frames (read_by session hs)) =
    subst (λ (xs : List ℕ). AreFirst mine (frames (xs ++ read_by session hs))) new came.first in
    let all : AreFirst mine (each_masked users (frames given)) =
    subst (AreFirst mine)
    (ap frames read ∙ frames-are-masked users given)
    (still-first mine (read_by session hs) left first) in
    let harmless =
    harmless-history users listed session hs links links' state state' runs
    (first-harmless users listed mine given visible all) in
    subst (OwnsOnly users session)
    (sym (history-is-run hs links links' state state' runs).state_is)
    (fids-belong users session state (events_of (history hs)) rising owns harmless)
