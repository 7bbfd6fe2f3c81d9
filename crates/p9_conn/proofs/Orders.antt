-- Frames come in order, and replies go out in order.
use Rattle.std.proofs.Common.{◌≡◌, ◌≤◌, ℕ, ◌==◌, ◌⊎◌, inl, inr, Bool, true, false, List, [], ◌∷◌}
use Rattle.std.proofs.Common.{◌++◌, refl, ap, sym, ◌∙◌, append-nil, append_assoc, arith, drop, length}
use Rattle.std.proofs.Common.{subst, take}
use Rattle.std.proofs.lemmas.Bool.{eqb-false, eqb-true}
use Rattle.std.proofs.lemmas.List.{drop-append-le, length-take, map-append, take-append-drop}
use Rattle.std.proofs.lemmas.List.{take-append-le}
use Rattle.std.specs.Prelude.{if◌then◌else◌}
use Rattle.std.specs.List.{concat}
use Rattle.p9_wire.specs.Frame.{Next, first_frame, frames}
use Rattle.p9_wire.specs.declared.frame.Frame.TheVariants.{Need, Whole}
use Rattle.p9_wire.proofs.Streams.{begins_frames_as, first_frame-append, first_frame-whole}
use Rattle.p9_conn.specs.Turn.{Deeds, Answered, Link}
use Rattle.p9_conn.specs.History.{frame_in, frames_in, history_by}
use Rattle.p9_conn.specs.History.{read_by, replies_of, written_by}
use Rattle.p9_conn.specs.Laws.{ComeInOrder, FramesComeInOrder, RepliesGoOut}
use Rattle.p9_conn.proofs.Facts.{IsGathered, IsTaken, turned}

concat-append : (xss yss : List (List ℕ)) → concat (xss ++ yss) ≡ concat xss ++ concat yss
concat-append [] yss = refl
concat-append (xs ∷ xss) yss =
    ap (λ (zs : List ℕ). xs ++ zs) (concat-append xss yss)
    ∙ sym (append_assoc xs (concat xss) (concat yss))

frames_in-append : (answered others : List Answered)
    → frames_in (answered ++ others) ≡ frames_in answered ++ frames_in others
frames_in-append [] others = refl
frames_in-append (entry ∷ answered) others =
    ap (λ (zs : List (List ℕ)). frame_in entry.event.0 ++ zs) (frames_in-append answered others)
    ∙ sym (append_assoc (frame_in entry.event.0) (frames_in answered) (frames_in others))

-- One turn, and frames after it.

-- nothing was taken out
gathered : (buffer more left end : List ℕ) (deeds : Deeds) (others : List Answered)
    → IsGathered buffer deeds left → ComeInOrder (frames_in others) (left ++ more) end
    → ComeInOrder (frames_in (deeds.answered ++ others)) (buffer ++ (deeds.read ++ more)) end
gathered buffer more left end deeds others t later =
    let same : frames_in (deeds.answered ++ others) ≡ frames_in others =
    frames_in-append deeds.answered others
    ∙ ap (λ (zs : List (List ℕ)). zs ++ frames_in others) t.none in
    let bytes : buffer ++ (deeds.read ++ more) ≡ left ++ more =
    sym (append_assoc buffer deeds.read more) ∙ ap (λ (zs : List ℕ). zs ++ more) t.behind in
    rw (same, bytes) later

-- a frame was
taken : (buffer more left end : List ℕ) (deeds : Deeds) (others : List Answered)
    → IsTaken buffer deeds left → ComeInOrder (frames_in others) (left ++ more) end
    → ComeInOrder (frames_in (deeds.answered ++ others)) (buffer ++ (deeds.read ++ more)) end
taken buffer more left end deeds others t later =
    let size = t.size in
    let same : frames_in (deeds.answered ++ others) ≡ take size buffer ∷ frames_in others =
    frames_in-append deeds.answered others
    ∙ ap (λ (zs : List (List ℕ)). zs ++ frames_in others) t.frame in
    let bytes : buffer ++ (deeds.read ++ more) ≡ buffer ++ more =
    ap (λ (zs : List ℕ). buffer ++ (zs ++ more)) t.no_read in
    let long : length (take size buffer) ≡ size = (first_frame-whole buffer size t.whole).1 in
    let within : size ≤ length buffer = omega (arith, long, length-take size buffer) in
    let still : first_frame (buffer ++ more) ≡ Whole size =
    first_frame-append buffer more (λ need. let no : Need ≡ Whole size =
    sym need ∙ t.whole in absurd (cc)) ∙ t.whole in
    let next : frames (buffer ++ more)
    ≡ Next (take size (buffer ++ more)) (frames (drop size (buffer ++ more))) =
    begins_frames_as (Whole size) (buffer ++ more) still in
    let front : take size (buffer ++ more) ≡ take size buffer =
    take-append-le size buffer more within in
    let behind : drop size (buffer ++ more) ≡ left ++ more =
    drop-append-le size buffer more within ∙ ap (λ (zs : List ℕ). zs ++ more) (sym t.rest) in
    rw (same, bytes) (record {
      first = rw next (sym front, rw behind later.first);
      rest = ap (λ (zs : List ℕ). zs ++ more) (sym (take-append-drop size buffer))
          ∙ append_assoc (take size buffer) (drop size buffer) more
          ∙ ap (λ (zs : List ℕ). take size buffer ++ zs)
          (ap (λ (zs : List ℕ). zs ++ more) (sym t.rest) ∙ later.rest)
          ∙ sym (append_assoc (take size buffer) (concat (frames_in others)) end);
    })

pub one : (buffer more left end : List ℕ) (deeds : Deeds) (others : List Answered)
    → (IsGathered buffer deeds left ⊎ IsTaken buffer deeds left)
    → ComeInOrder (frames_in others) (left ++ more) end
    → ComeInOrder (frames_in (deeds.answered ++ others)) (buffer ++ (deeds.read ++ more)) end
one buffer more left end deeds others (inl t) later =
    gathered buffer more left end deeds others t later
one buffer more left end deeds others (inr t) later =
    taken buffer more left end deeds others t later

-- frames after a turn that may be another session's
one-of : (mine : Bool) (buffer more left end : List ℕ) (deeds : Deeds) (others : List Answered)
    → (mine ≡ true → (IsGathered buffer deeds left ⊎ IsTaken buffer deeds left))
    → (mine ≡ false → left ≡ buffer)
    → ComeInOrder (frames_in others) (left ++ more) end
    → ComeInOrder (frames_in ((if mine then deeds.answered else []) ++ others))
    (buffer ++ ((if mine then deeds.read else []) ++ more)) end
one-of true buffer more left end deeds others turned same later =
    one buffer more left end deeds others (turned refl) later
one-of false buffer more left end deeds others turned same later = rw (← same refl) later

pub frames-come-in-order : FramesComeInOrder
frames-come-in-order [] links links' state state' runs session = record {
  first = tt;
  rest = append-nil (links session).buffer
      ∙ ap (λ (l : Link). l.buffer) (sym (runs.0 session));
}
frames-come-in-order (h ∷ hs) links links' state state' runs session =
    let between = runs.0 in
    let its = turned h links between state runs.1 runs.2 in
    one-of (h.session == session) (links session).buffer (read_by session hs)
    (between session).buffer (links' session).buffer h.deeds (history_by session hs)
    (λ e. let same : h.session ≡ session = eqb-true h.session session e in
    subst (λ (s : ℕ). IsGathered (links s).buffer h.deeds (between s).buffer
    ⊎ IsTaken (links s).buffer h.deeds (between s).buffer) same its.comes)
    (λ e. ap (λ (l : Link). l.buffer)
    (runs.2.others session (λ same. eqb-false h.session session e (sym same))))
    (frames-come-in-order hs between links' runs.1 state' runs.3 session)

-- Replies.

-- a turn, and replies after it
pub goes-out : (pending left end later : List ℕ) (deeds : Deeds) (others : List Answered)
    → pending ++ concat (replies_of deeds.answered) ≡ deeds.written ++ left
    → left ++ concat (replies_of others) ≡ later ++ end
    → pending ++ concat (replies_of (deeds.answered ++ others)) ≡ (deeds.written ++ later) ++ end
goes-out pending left end later deeds others here behind =
    let a = concat (replies_of deeds.answered) in
    let b = concat (replies_of others) in
    ap (λ (zs : List (List ℕ)). pending ++ concat zs)
    (map-append (λ (entry : Answered). entry.reply) deeds.answered others)
    ∙ ap (λ (zs : List ℕ). pending ++ zs)
    (concat-append (replies_of deeds.answered) (replies_of others))
    ∙ sym (append_assoc pending a b) ∙ ap (λ (zs : List ℕ). zs ++ b) here
    ∙ append_assoc deeds.written left b ∙ ap (λ (zs : List ℕ). deeds.written ++ zs) behind
    ∙ sym (append_assoc deeds.written later end)

goes-out-of : (mine : Bool) (pending left end later : List ℕ) (deeds : Deeds)
    (others : List Answered)
    → (mine ≡ true → pending ++ concat (replies_of deeds.answered) ≡ deeds.written ++ left)
    → (mine ≡ false → left ≡ pending)
    → left ++ concat (replies_of others) ≡ later ++ end
    → pending ++ concat (replies_of ((if mine then deeds.answered else []) ++ others))
    ≡ ((if mine then deeds.written else []) ++ later) ++ end
goes-out-of true pending left end later deeds others out same behind =
    goes-out pending left end later deeds others (out refl) behind
goes-out-of false pending left end later deeds others out same behind = rw (← same refl) behind

pub replies-go-out : RepliesGoOut
replies-go-out [] links links' state state' runs session =
    append-nil (links session).pending ∙ ap (λ (l : Link). l.pending) (sym (runs.0 session))
replies-go-out (h ∷ hs) links links' state state' runs session =
    let between = runs.0 in
    let its = turned h links between state runs.1 runs.2 in
    goes-out-of (h.session == session) (links session).pending (between session).pending
    (links' session).pending (written_by session hs) h.deeds (history_by session hs)
    (λ e. let same : h.session ≡ session = eqb-true h.session session e in
    subst (λ (s : ℕ). (links s).pending ++ concat (replies_of h.deeds.answered)
    ≡ h.deeds.written ++ (between s).pending) same its.out)
    (λ e. ap (λ (l : Link). l.pending)
    (runs.2.others session (λ same. eqb-false h.session session e (sym same))))
    (replies-go-out hs between links' runs.1 state' runs.3 session)
