-- A frame is answered as the message that it spells.
use Rattle.std.proofs.Common.{◌≡◌, ◌∙◌, ℕ, ◌+◌, ◌≤◌, Bool, true, false, List, ◌++◌, Option}
use Rattle.std.proofs.Common.{Some, None, Ok, refl, ap, sym, arith, length, is_some, ◌||◌}
use Rattle.std.specs.Prelude.{◌==◌, nat_le}
use Rattle.std.specs.Option.{option_map_or}
use Rattle.std.specs.BTreeMap.{is_at}
use Rattle.std.specs.Ordering.{nat_cmp}
use Rattle.std.proofs.lemmas.Bool.Decides.{nat_tests}
use Rattle.byteorder.specs.Endian.{little_number}
use Rattle.byteorder.specs.Numbers.{little_number-reads_back}
use Rattle.p9_base.proofs.Rows.{each-lookup}
use Rattle.p9_wire.specs.Fields.{number}
use Rattle.p9_wire.specs.Frame.{header, is_frame, msize_max}
use Rattle.p9_wire.specs.Message.{TMessage}
use Rattle.p9_wire.specs.Reading.{t_message_of}
use Rattle.p9_wire.specs.Spelling.{TSpells, t_body, t_spelling, t_type}
use Rattle.p9_wire.specs.Reply.{r_spelling}
use Rattle.p9_wire.proofs.Lengths.{length-frame, length-t_body, t_len-fits}
use Rattle.p9_wire.proofs.TGrammar.{t-decides}
use Rattle.p9_step.specs.Answer.{Outcome, outcome_of}
use Rattle.p9_step.specs.Request.{fits_msize, is_version, request_of, tag_of}
use Rattle.p9_step.specs.Event.{Message}
use Rattle.p9_step.specs.Sound.{IsSession, IsState}
use Rattle.p9_step.specs.State.{State}
use Rattle.p9_step.specs.Step.{message_answer, step}
use Rattle.p9_manual_laws.specs.Asked.{FrameIsAsked, IsSent}
use Rattle.p9_manual_laws.proofs.Spelled.{HasSpelling, reply_spelled}

-- what spells a message begins with its own length, and has the tag behind its type
module _ (frame : List ℕ) (tag : ℕ) (m : TMessage) (spelled : TSpells frame tag m) where
  length_is : length frame ≡ 7 + length (t_body m)
  unfolding t_spelling
  length_is = ap length spelled.whole ∙ length-frame (t_type m) tag (t_body m)

  size_is : little_number 4 frame ≡ length frame
  unfolding t_spelling number
  size_is =
      ap (little_number 4) spelled.whole
      ∙ little_number-reads_back 4 (7 + length (t_body m))
      (number 1 (t_type m) ++ number 2 tag ++ t_body m)
      (omega (arith, length-t_body m, t_len-fits m spelled.fits))
      ∙ sym length_is

  tag_is : tag_of frame ≡ tag
  unfolding t_spelling number
  tag_is =
      ap tag_of spelled.whole ∙ little_number-reads_back 2 tag (t_body m) spelled.tag_fits

  -- so it is a frame, if it is no longer than the greatest
  whole_is : length frame ≤ msize_max → is_frame frame ≡ true
  whole_is small = joined least most same
    where
      long : 7 ≤ length frame
      long = omega (arith, length_is)

      least : nat_le header (length frame) ≡ true
      least = grind (arith, nat_tests, long)

      most : nat_le (length frame) msize_max ≡ true
      most = grind (arith, nat_tests, small)

      same : (little_number 4 frame == length frame) ≡ true
      same = equal (little_number 4 frame) (length frame) size_is
        where
          equal : (a b : ℕ) → a ≡ b → (a == b) ≡ true
          equal a b e = grind (arith, nat_tests, e)

      joined : nat_le header (length frame) ≡ true → nat_le (length frame) msize_max ≡ true
          → (little_number 4 frame == length frame) ≡ true → is_frame frame ≡ true
      joined a b c = rw (a, b, c) refl

-- a frame is short enough where it is no longer than each msize that there is
fits : (frame : List ℕ) (set : Option ℕ)
    → ((msize : ℕ) → set ≡ Some msize → length frame ≤ msize)
    → option_map_or (λ msize. nat_le (length frame) msize) set true ≡ true
fits frame None short = refl
fits frame (Some msize) short = let le = short msize refl in grind (arith, nat_tests, le)

-- a message may come where it is a version, or the version is set
comes : (version : Bool) (set : Option ℕ) → (set ≡ None → version ≡ true)
    → (version || is_some set) ≡ true
comes version None allowed = rw (allowed refl) refl
comes true (Some msize) allowed = refl
comes false (Some msize) allowed = refl

-- the frame's request is the message
module _ (state : State) (name : ℕ) (frame : List ℕ) (tag : ℕ) (m : TMessage)
    (sent : IsSent state name frame tag m) where
  request : request_of sent.session frame ≡ Ok m
  request =
      let short : fits_msize sent.session frame ≡ true =
      fits frame sent.session.msize sent.short in
      let read : t_message_of frame ≡ Some (tag, m) =
      t-decides.complete frame tag m sent.spelled in
      let allowed : (is_version m || is_some sent.session.msize) ≡ true =
      comes (is_version m) sent.session.msize sent.allowed in
      rw (short, read, allowed) refl

pub frame_is_asked : FrameIsAsked
unfolding HasSpelling
frame_is_asked state name frame now tag m sent = record {
  reply = outcome.reply;
  reply_is = rw sent.is_open refl;
  state_is = rw (whole, sent.is_open, asks) refl;
  bytes_are = written;
  spelled = λ ok.
      let fits = fit ok in
      record {
        whole = written;
        numbers = fits.0;
        fits = fits.1;
        tag_fits = sent.spelled.tag_fits;
      };
}
  where
    outcome : Outcome
    outcome =
        outcome_of sent.session
        (message_answer state.setting state.forest state.sessions sent.session now m)

    whole : is_frame frame ≡ true
    whole = whole_is frame tag m sent.spelled sent.small

    asks : request_of sent.session frame ≡ Ok m
    asks = request state name frame tag m sent

    written : (step state (Message name frame now) false).reply ≡ r_spelling tag outcome.reply
    written =
        rw (whole, sent.is_open, asks)
        (ap (λ t. r_spelling t outcome.reply) (tag_is frame tag m sent.spelled))

    fit : IsState state → HasSpelling outcome.reply
    fit ok =
        let its : IsSession state.setting state.forest sent.session =
        each-lookup (IsSession state.setting state.forest) (is_at (nat_cmp name)) state.sessions
        sent.session ok.served.sessions sent.is_open in
        reply_spelled state sent.session now ok its.msize m sent.allowed sent.spelled.fits
