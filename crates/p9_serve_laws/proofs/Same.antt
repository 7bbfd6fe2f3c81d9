-- A turn of two alike states, with the same from outside.
use Rattle.std.proofs.Common.{◌≡◌, ℕ, ◌<◌, inl, inr, Bool, false, List, [], ◌++◌, drop, length}
use Rattle.std.proofs.Common.{take, sym, ap, ◌∙◌, subst, arith}
use Rattle.std.proofs.Math.Seq.{drop-append_seam, take-append_seam}
use Rattle.p9_base.specs.declared.node_ref.NodeRef.{NodeRef}
use Rattle.p9_step.specs.Event.{Event, Message}
use Rattle.p9_step.specs.State.{State}
use Rattle.p9_step.specs.Step.{step}
use Rattle.p9_guard_laws.specs.Grown.{Start}
use Rattle.p9_guard_laws.proofs.Headline.{alike_step}
use Rattle.p9_conn.specs.Turn.{Answered, Answering, AnswersFrame, Deeds, Ending, Ends, IsIdle, Link}
use Rattle.p9_conn.specs.Turn.{Over, Phase, Receives, Receiving, Scene, Sending, Sends, TurnBy}
use Rattle.p9_conn.specs.Turn.{answering, closing, deeds_of}
use Rattle.p9_serve_laws.specs.Outside.{Fails, Gives, Takes, given_in, mark_of, unless_closed}
use Rattle.p9_serve_laws.proofs.Steps.{AreBoth, both-step, scene_at}

-- lists that are equal, and whose fronts are as long, are equal in front and behind
pub split-same : (xs ys xs' ys' : List ℕ) → xs' ++ ys' ≡ xs ++ ys → length xs' ≡ length xs
    → (xs' ≡ xs) × (ys' ≡ ys)
split-same xs ys xs' ys' whole long = (
  sym (take-append_seam xs' ys')
      ∙ (λ i. take (long i) (whole i)) ∙ take-append_seam xs ys,
  sym (drop-append_seam xs' ys')
      ∙ (λ i. drop (long i) (whole i)) ∙ drop-append_seam xs ys,
)

-- What is given, by what happens.

sends-given : (old new : Scene) (deeds : Deeds) → Sends old new deeds
    → given_in Sending deeds ≡ Takes (length deeds.written)
sends-given old new deeds t =
    ap (λ (answered : List Answered). unless_closed answered (Takes (length deeds.written)))
    t.no_entry

receives-given : (old new : Scene) (deeds : Deeds) → Receives old new deeds
    → given_in Receiving deeds ≡ Gives deeds.read
receives-given old new deeds t =
    ap (λ (answered : List Answered). unless_closed answered (Gives deeds.read)) t.no_entry

idle-sending : (old new : Scene) (deeds : Deeds) → IsIdle old new deeds
    → given_in Sending deeds ≡ Takes 0
idle-sending old new deeds t = ap (given_in Sending) t.deeds_are

idle-receiving : (old new : Scene) (deeds : Deeds) → IsIdle old new deeds
    → given_in Receiving deeds ≡ Gives []
idle-receiving old new deeds t = ap (given_in Receiving) t.deeds_are

ends-sending : (session clock : ℕ) (old new : Scene) (deeds : Deeds)
    → Ends session clock old new deeds → given_in Sending deeds ≡ Fails
ends-sending session clock old new deeds t = ap (given_in Sending) t.deeds_are

ends-receiving : (session clock : ℕ) (old new : Scene) (deeds : Deeds)
    → Ends session clock old new deeds → given_in Receiving deeds ≡ Fails
ends-receiving session clock old new deeds t = ap (given_in Receiving) t.deeds_are

-- What cannot be.

some-or-none : (count : ℕ) → 0 < count → Takes 0 ≡ Takes count → ⊥
some-or-none count some e = let same : 0 ≡ count = cc in omega arith

bytes-or-none : (bytes : List ℕ) → 0 < length bytes → Gives [] ≡ Gives bytes → ⊥
bytes-or-none bytes some e =
    let same : bytes ≡ [] = cc in let none : length bytes ≡ 0 = ap length same in omega arith

module _ (hidden : List NodeRef) (start : Start) where
  -- the same came of two turns
  pub record AreSame (new new' : Scene) (deeds deeds' : Deeds) : Type 0 where
    pub link_is : new'.link ≡ new.link
    pub deeds_are : deeds' ≡ deeds
    pub both : AreBoth hidden start new.state new'.state

  module _ (link : Link) (a b : State) (new new' : Scene) (deeds deeds' : Deeds)
      (both : AreBoth hidden start a b) where
    both-after : (a' b' : State) → AreBoth hidden start a' b' → new.state ≡ a' → new'.state ≡ b'
        → AreBoth hidden start new.state new'.state
    both-after a' b' after is is' =
        subst (λ (z : State). AreBoth hidden start z new'.state) (sym is)
        (subst (λ (z : State). AreBoth hidden start a' z) (sym is') after)

    idle-same : IsIdle (scene_at link a) new deeds → IsIdle (scene_at link b) new' deeds'
        → AreSame new new' deeds deeds'
    idle-same t t' = record {
      link_is = ap (λ (s : Scene). s.link) t'.scene_is
          ∙ sym (ap (λ (s : Scene). s.link) t.scene_is);
      deeds_are = t'.deeds_are ∙ sym t.deeds_are;
      both = both-after a b both (ap (λ (s : Scene). s.state) t.scene_is)
          (ap (λ (s : Scene). s.state) t'.scene_is);
    }

    ends-same : (session clock : ℕ) → Ends session clock (scene_at link a) new deeds
        → Ends session clock (scene_at link b) new' deeds' → AreSame new new' deeds deeds'
    ends-same session clock t t' =
        let event : Event = (closing session clock).event.0 in
        record {
          link_is = t'.link_is ∙ sym t.link_is;
          deeds_are = t'.deeds_are ∙ sym t.deeds_are;
          both = both-after (step a event false).state (step b event false).state
              (both-step hidden start a b event false both t.stepped.fine) t.stepped.state_is
              t'.stepped.state_is;
        }

    answers-same : (size session clock : ℕ)
        → AnswersFrame size session clock (scene_at link a) new deeds
        → AnswersFrame size session clock (scene_at link b) new' deeds'
        → given_in (Answering size) deeds' ≡ given_in (Answering size) deeds
        → AreSame new new' deeds deeds'
    answers-same size session clock t t' given =
        let event : Event = Message session (take size link.buffer) clock in
        let mark : mark_of deeds.answered ≡ t.refused =
        ap (λ (d : Deeds). mark_of d.answered) t.deeds_are in
        let mark' : mark_of deeds'.answered ≡ t'.refused =
        ap (λ (d : Deeds). mark_of d.answered) t'.deeds_are in
        let marks : mark_of deeds'.answered ≡ mark_of deeds.answered = cc in
        let refused : t'.refused ≡ t.refused = sym mark' ∙ marks ∙ mark in
        let s = alike_step hidden start a b event t.refused both.guarded both.alike t.stepped.fine
        in
        let reply : new'.link.pending ≡ new.link.pending =
        t'.stepped.reply_is ∙ ap (λ (r : Bool). (step b event r).reply) refused ∙ s.reply
        ∙ sym t.stepped.reply_is in
        record {
          link_is = t'.link_is
              ∙ ap (λ (p : List ℕ).
              let l : Link = record link { buffer = drop size link.buffer; pending = p } in l)
              reply
              ∙ sym t.link_is;
          deeds_are = t'.deeds_are
              ∙ (λ i. deeds_of
              (answering session (take size link.buffer) clock (refused i) (reply i)))
              ∙ sym t.deeds_are;
          both = both-after (step a event t.refused).state (step b event t.refused).state
              (record { guarded = s.guarded; alike = s.alike }) t.stepped.state_is
              (t'.stepped.state_is ∙ ap (λ (r : Bool). (step b event r).state) refused);
        }

    sends-same : Sends (scene_at link a) new deeds → Sends (scene_at link b) new' deeds'
        → length deeds'.written ≡ length deeds.written → AreSame new new' deeds deeds'
    sends-same t t' long =
        let split = split-same deeds.written new.link.pending deeds'.written new'.link.pending
        (sym t'.front ∙ t.front) long in
        record {
          link_is = t'.link_is
              ∙ ap (λ (p : List ℕ). let l : Link = record link { pending = p } in l) split.1
              ∙ sym t.link_is;
          deeds_are = λ i. record {
            read = (t'.no_read ∙ sym t.no_read) i;
            written = split.0 i;
            answered = (t'.no_entry ∙ sym t.no_entry) i;
          };
          both = both-after a b both t.state_is t'.state_is;
        }

    receives-same : Receives (scene_at link a) new deeds → Receives (scene_at link b) new' deeds'
        → deeds'.read ≡ deeds.read → AreSame new new' deeds deeds'
    receives-same t t' read = record {
      link_is = t'.link_is
          ∙ ap (λ (r : List ℕ).
          let l : Link = record link { buffer = link.buffer ++ r } in l) read
          ∙ sym t.link_is;
      deeds_are = λ i. record {
        read = read i;
        written = (t'.none_written ∙ sym t.none_written) i;
        answered = (t'.no_entry ∙ sym t.no_entry) i;
      };
      both = both-after a b both t.state_is t'.state_is;
    }

    sending-same : (session clock : ℕ)
        → TurnBy Sending session clock (scene_at link a) new deeds
        → TurnBy Sending session clock (scene_at link b) new' deeds'
        → given_in Sending deeds' ≡ given_in Sending deeds → AreSame new new' deeds deeds'
    sending-same session clock (inl t) (inl t') given =
        let takes : Takes (length deeds'.written) ≡ Takes (length deeds.written) =
        sym (sends-given _ _ deeds' t') ∙ given ∙ sends-given _ _ deeds t in sends-same t t' (cc)
    sending-same session clock (inl t) (inr (inl t')) given =
        absurd (some-or-none (length deeds.written) t.some
        (sym (idle-sending _ _ deeds' t') ∙ given ∙ sends-given _ _ deeds t))
    sending-same session clock (inl t) (inr (inr t')) given =
        let no : Fails ≡ Takes (length deeds.written) =
        sym (ends-sending session clock _ _ deeds' t') ∙ given ∙ sends-given _ _ deeds t in
        absurd (cc)
    sending-same session clock (inr (inl t)) (inl t') given =
        absurd (some-or-none (length deeds'.written) t'.some
        (sym (idle-sending _ _ deeds t) ∙ sym given ∙ sends-given _ _ deeds' t'))
    sending-same session clock (inr (inl t)) (inr (inl t')) given = idle-same t t'
    sending-same session clock (inr (inl t)) (inr (inr t')) given =
        let no : Fails ≡ Takes 0 =
        sym (ends-sending session clock _ _ deeds' t') ∙ given ∙ idle-sending _ _ deeds t in
        absurd (cc)
    sending-same session clock (inr (inr t)) (inl t') given =
        let no : Takes (length deeds'.written) ≡ Fails =
        sym (sends-given _ _ deeds' t') ∙ given ∙ ends-sending session clock _ _ deeds t in
        absurd (cc)
    sending-same session clock (inr (inr t)) (inr (inl t')) given =
        let no : Takes 0 ≡ Fails =
        sym (idle-sending _ _ deeds' t') ∙ given ∙ ends-sending session clock _ _ deeds t in
        absurd (cc)
    sending-same session clock (inr (inr t)) (inr (inr t')) given = ends-same session clock t t'

    receiving-same : (session clock : ℕ)
        → TurnBy Receiving session clock (scene_at link a) new deeds
        → TurnBy Receiving session clock (scene_at link b) new' deeds'
        → given_in Receiving deeds' ≡ given_in Receiving deeds → AreSame new new' deeds deeds'
    receiving-same session clock (inl t) (inl t') given =
        let gives : Gives deeds'.read ≡ Gives deeds.read =
        sym (receives-given _ _ deeds' t') ∙ given ∙ receives-given _ _ deeds t in
        receives-same t t' (cc)
    receiving-same session clock (inl t) (inr (inl t')) given =
        absurd (bytes-or-none deeds.read t.some
        (sym (idle-receiving _ _ deeds' t') ∙ given ∙ receives-given _ _ deeds t))
    receiving-same session clock (inl t) (inr (inr t')) given =
        let no : Fails ≡ Gives deeds.read =
        sym (ends-receiving session clock _ _ deeds' t') ∙ given ∙ receives-given _ _ deeds t in
        absurd (cc)
    receiving-same session clock (inr (inl t)) (inl t') given =
        absurd (bytes-or-none deeds'.read t'.some
        (sym (idle-receiving _ _ deeds t) ∙ sym given ∙ receives-given _ _ deeds' t'))
    receiving-same session clock (inr (inl t)) (inr (inl t')) given = idle-same t t'
    receiving-same session clock (inr (inl t)) (inr (inr t')) given =
        let no : Fails ≡ Gives [] =
        sym (ends-receiving session clock _ _ deeds' t') ∙ given ∙ idle-receiving _ _ deeds t in
        absurd (cc)
    receiving-same session clock (inr (inr t)) (inl t') given =
        let no : Gives deeds'.read ≡ Fails =
        sym (receives-given _ _ deeds' t') ∙ given ∙ ends-receiving session clock _ _ deeds t in
        absurd (cc)
    receiving-same session clock (inr (inr t)) (inr (inl t')) given =
        let no : Gives [] ≡ Fails =
        sym (idle-receiving _ _ deeds' t') ∙ given ∙ ends-receiving session clock _ _ deeds t in
        absurd (cc)
    receiving-same session clock (inr (inr t)) (inr (inr t')) given = ends-same session clock t t'

    pub turns-same : (phase : Phase) (session clock : ℕ)
        → TurnBy phase session clock (scene_at link a) new deeds
        → TurnBy phase session clock (scene_at link b) new' deeds'
        → given_in phase deeds' ≡ given_in phase deeds → AreSame new new' deeds deeds'
    turns-same Over session clock t t' given = idle-same t t'
    turns-same Sending session clock t t' given = sending-same session clock t t' given
    turns-same (Answering size) session clock t t' given =
        answers-same size session clock t t' given
    turns-same Ending session clock t t' given = ends-same session clock t t'
    turns-same Receiving session clock t t' given = receiving-same session clock t t' given
