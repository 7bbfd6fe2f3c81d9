-- What a stream holds whose content is known.
use Rattle.std.proofs.Common.{◌≡◌, ℕ, ◌==◌, inl, inr, Bool, true, false, List, [], ◌∷◌, ◌++◌}
use Rattle.std.proofs.Common.{Option, Some, None, refl, sym, ap, subst, ◌∙◌, append-nil, append_assoc}
use Rattle.std.proofs.Common.{drop}
use Rattle.std.proofs.lemmas.Bool.{eqb-true}
use Rattle.std.proofs.lemmas.List.{get_or-set_same}
use Rattle.std.specs.Io.KnownBytes.{Appends, Keeps}
use Rattle.std.specs.Prelude.{if◌then◌else◌, slice_set}
use Rattle.std.specs.List.{concat}
use Rattle.p9_conn.specs.Conn.{Connection, UsesStream, scene}
use Rattle.p9_conn.specs.History.{replies_of}
use Rattle.p9_conn.specs.Turn.{Answering, Deeds, Ending, Over, Phase, Receiving, Scene, Sending, TurnBy}
use Rattle.p9_conn.specs.Turn.{phase_of}
use Rattle.p9_conn.proofs.Facts.{common}
use Rattle.p9_conn.proofs.Orders.{goes-out}
use Rattle.p9_clients.specs.Serving.{Serving, slot_at}
use Rattle.p9_clients.proofs.Keyed.{within}
use Rattle.p9_serve.specs.Laws.{StreamsHoldTheReplies}
use Rattle.p9_serve.specs.Life.{Acts, Arrives, Leaves, Moment, Pass, answered_at, stay}
use Rattle.p9_serve.specs.Life.{written_at}
use Rattle.p9_serve.proofs.Sends.{acted, arrived}

-- One turn.

none-written : (phase : Phase) (session now : ℕ) (old new : Scene) (deeds : Deeds)
    → TurnBy phase session now old new deeds → (phase ≡ Sending → ⊥) → deeds.written ≡ []
none-written Over session now old new deeds t other = ap (λ (d : Deeds). d.written) t.deeds_are
none-written Sending session now old new deeds t other = absurd (other refl)
none-written (Answering size) session now old new deeds t other =
    ap (λ (d : Deeds). d.written) t.deeds_are
none-written Ending session now old new deeds t other = ap (λ (d : Deeds). d.written) t.deeds_are
none-written Receiving session now old new deeds (inl t) other = t.none_written
none-written Receiving session now old new deeds (inr (inl t)) other =
    ap (λ (d : Deeds). d.written) t.deeds_are
none-written Receiving session now old new deeds (inr (inr t)) other =
    ap (λ (d : Deeds). d.written) t.deeds_are

appended : (held bytes : List ℕ) (old new : Option (List ℕ)) → old ≡ Some held
    → Appends old new bytes → new ≡ Some (held ++ bytes)
appended held bytes (Some xs) (Some ys) is t =
    let same : xs ≡ held = cc in ap Some (t ∙ ap (λ (zs : List ℕ). zs ++ bytes) same)
appended held bytes (Some xs) None is t = absurd t
appended held bytes None new is t = let no : None ≡ Some held = is in absurd (cc)

kept : (held : List ℕ) (old new : Option (List ℕ)) → old ≡ Some held → Keeps old new
    → new ≡ Some held
kept held (Some xs) (Some ys) is t = ap Some t ∙ is
kept held (Some xs) None is t = absurd t
kept held None new is t = let no : None ≡ Some held = is in absurd (cc)

module _ {S : Type 0} (remaining contents : S → Option (List ℕ)) where
  unwritten : (held : List ℕ) (new : S) (deeds : Deeds) → deeds.written ≡ []
      → contents new ≡ Some held → contents new ≡ Some (held ++ deeds.written)
  unwritten held new deeds none is =
      is ∙ ap Some (sym (append-nil held) ∙ ap (λ (zs : List ℕ). held ++ zs) (sym none))

  uses : (phase : Phase) (session now : ℕ) (old new : Scene) (before after : S) (deeds : Deeds)
      (held : List ℕ) → TurnBy phase session now old new deeds
      → UsesStream remaining contents phase before after deeds → contents before ≡ Some held
      → contents after ≡ Some (held ++ deeds.written)
  uses Over session now old new before after deeds held t u is =
      unwritten held after deeds
      (none-written Over session now old new deeds t (λ same. absurd (cc))) (ap contents u ∙ is)
  uses Sending session now old new before after deeds held t u is =
      appended held deeds.written (contents before) (contents after) is u.appended
  uses (Answering size) session now old new before after deeds held t u is =
      unwritten held after deeds
      (none-written (Answering size) session now old new deeds t (λ same. absurd (cc)))
      (ap contents u ∙ is)
  uses Ending session now old new before after deeds held t u is =
      unwritten held after deeds
      (none-written Ending session now old new deeds t (λ same. absurd (cc))) (ap contents u ∙ is)
  uses Receiving session now old new before after deeds held t u is =
      unwritten held after deeds
      (none-written Receiving session now old new deeds t (λ same. absurd (cc)))
      (kept held (contents before) (contents after) is u.written)

  module _ (key : ℕ) where
    -- the slot of a key after a turn at it, or after its end
    slot-set : (a : Serving S) (k : ℕ) (conn : Connection S) (slot : Option (Connection S))
        → slot_at a.slots k ≡ Some conn → k ≡ key
        → slot_at (slice_set a.slots k slot) key ≡ slot
    slot-set a k conn slot there same =
        ap (slot_at (slice_set a.slots k slot)) (sym same)
        ∙ get_or-set_same a.slots k slot None (within a.slots k conn there)

    tail-is : (m : Moment) (ms ns : List Moment) → (m ∷ ns) ≡ (m ∷ ms) → ns ≡ ms
    tail-is m ms ns e = ap (drop 1) e

    -- a key that nobody has stays so until a client arrives at it
    stays-none : (ms : List Moment) (a b : Serving S) → Pass remaining contents ms a b
        → stay key ms ≡ ms → slot_at a.slots key ≡ None → slot_at b.slots key ≡ None
    stays-none [] a b t e none = ap (λ (s : Serving S). slot_at s.slots key) t ∙ none
    stays-none (Arrives other ∷ ms) a b t e none =
        by (other == key) refl e (λ later f. stays-none ms t.0 b t.2 later
        (arrived remaining contents key other a t.0 t.1 f ∙ none))
      where
        by : (c : Bool) → (other == key) ≡ c → stay key (Arrives other ∷ ms) ≡ Arrives other ∷ ms
            → (stay key ms ≡ ms → (other == key) ≡ false → slot_at b.slots key ≡ None)
            → slot_at b.slots key ≡ None
        by true f whole later =
            let no : [] ≡ Arrives other ∷ ms = rw f at whole in absurd (cc)
        by false f whole later =
            let same : Arrives other ∷ stay key ms ≡ Arrives other ∷ ms = rw f at whole in
            later (tail-is (Arrives other) ms (stay key ms) same) f
    stays-none (Acts h ∷ ms) a b t e none =
        by (h.session == key) refl
        (λ f. stays-none ms t.0 b t.2 (tail-is (Acts h) ms (stay key ms) e)
        (acted remaining contents key h.session _ a t.0 t.1.had.slots_are f ∙ none))
      where
        by : (c : Bool) → (h.session == key) ≡ c
            → ((h.session == key) ≡ false → slot_at b.slots key ≡ None)
            → slot_at b.slots key ≡ None
        by true f later =
            let no : Some t.1.conn ≡ None =
            sym t.1.there ∙ ap (slot_at a.slots) (eqb-true h.session key f) ∙ none in absurd (cc)
        by false f later = later f
    stays-none (Leaves other now ∷ ms) a b t e none =
        by (other == key) refl
        (λ f. stays-none ms t.0 b t.2 (tail-is (Leaves other now) ms (stay key ms) e)
        (acted remaining contents key other None a t.0 t.1.ended.slots_are f ∙ none))
      where
        by : (c : Bool) → (other == key) ≡ c
            → ((other == key) ≡ false → slot_at b.slots key ≡ None)
            → slot_at b.slots key ≡ None
        by true f later =
            let no : Some t.1.conn ≡ None =
            sym t.1.there ∙ ap (slot_at a.slots) (eqb-true other key f) ∙ none in absurd (cc)
        by false f later = later f

    -- from a connection at the key to the one that is there later
    record Kept (held : List ℕ) (ms : List Moment) (first last : Connection S) : Type 0 where
      holds : contents last.stream ≡ Some (held ++ written_at key ms)
      own : first.link.pending ++ concat (replies_of (answered_at key ms))
          ≡ written_at key ms ++ last.link.pending

    holds-all : (ms : List Moment) (a b : Serving S) (first last : Connection S) (held : List ℕ)
        → Pass remaining contents ms a b → stay key ms ≡ ms → slot_at a.slots key ≡ Some first
        → slot_at b.slots key ≡ Some last → contents first.stream ≡ Some held
        → Kept held ms first last
    holds-all [] a b first last held t e here there is =
        let some : Some last ≡ Some first =
        sym there ∙ ap (λ (s : Serving S). slot_at s.slots key) t ∙ here in
        let same : last ≡ first = cc in
        rw same (record {
          holds = is ∙ ap Some (sym (append-nil held));
          own = append-nil first.link.pending;
        })
    holds-all (Arrives other ∷ ms) a b first last held t e here there is =
        by (other == key) refl e (λ later f. holds-all ms t.0 b first last held t.2 later
        (arrived remaining contents key other a t.0 t.1 f ∙ here) there is)
      where
        by : (c : Bool) → (other == key) ≡ c → stay key (Arrives other ∷ ms) ≡ Arrives other ∷ ms
            → (stay key ms ≡ ms → (other == key) ≡ false → Kept held ms first last)
            → Kept held (Arrives other ∷ ms) first last
        by true f whole later =
            let no : [] ≡ Arrives other ∷ ms = rw f at whole in absurd (cc)
        by false f whole later =
            let same : Arrives other ∷ stay key ms ≡ Arrives other ∷ ms = rw f at whole in
            let its = later (tail-is (Arrives other) ms (stay key ms) same) f in
            record { holds = its.holds; own = its.own }
    holds-all (Acts h ∷ ms) a b first last held t e here there is =
        by (h.session == key) refl
        (λ kept bytes at told. holds-all ms t.0 b kept last bytes t.2 (tail-is (Acts h) ms (stay key ms) e)
        at there told)
      where
        Later : Type 0
        Later = (kept : Connection S) (bytes : List ℕ) → slot_at t.0.slots key ≡ Some kept
            → contents kept.stream ≡ Some bytes → Kept bytes ms kept last

        after : Connection S
        after = t.1.had.after

        behind : (closed : Bool) → after.link.closed ≡ closed → h.session ≡ key → (bytes : List ℕ)
            → contents after.stream ≡ Some bytes → Later → Kept bytes ms after last
        behind true f same bytes told later =
            let none : slot_at t.0.slots key ≡ None =
            ap (λ slots. slot_at slots key) t.1.had.slots_are
            ∙ ap (λ (c : Bool). slot_at (slice_set a.slots h.session
            (if c then None else Some after)) key) f
            ∙ slot-set a h.session t.1.conn None t.1.there same in
            let no : Some last ≡ None =
            sym there
            ∙ stays-none ms t.0 b t.2 (tail-is (Acts h) ms (stay key ms) e) none in absurd (cc)
        behind false f same bytes told later =
            later after bytes
            (ap (λ slots. slot_at slots key) t.1.had.slots_are
            ∙ ap (λ (c : Bool). slot_at (slice_set a.slots h.session
            (if c then None else Some after)) key) f
            ∙ slot-set a h.session t.1.conn (Some after) t.1.there same) told

        by : (c : Bool) → (h.session == key) ≡ c → Later → Kept held (Acts h ∷ ms) first last
        by true f later =
            let same = eqb-true h.session key f in
            let turned = t.1.had.turned in
            let some : Some first ≡ Some t.1.conn =
            sym here ∙ ap (slot_at a.slots) (sym same) ∙ t.1.there in
            let first-is : first ≡ t.1.conn = cc in
            let scenes = common t.1.conn.session h.clock (scene t.1.conn a.guard)
            (scene after t.0.guard) turned.deeds turned.turn in
            let told : contents after.stream ≡ Some (held ++ turned.deeds.written) =
            uses (phase_of t.1.conn.link) t.1.conn.session h.clock (scene t.1.conn a.guard)
            (scene after t.0.guard) t.1.conn.stream after.stream turned.deeds held turned.turn
            turned.stream
            (subst (λ (conn : Connection S). contents conn.stream ≡ Some held) first-is is) in
            let bytes : contents after.stream ≡ Some (held ++ h.deeds.written) =
            subst (λ (d : Deeds). contents after.stream ≡ Some (held ++ d.written)) t.1.deeds_are
            told in
            let out = subst (λ (d : Deeds). t.1.conn.link.pending ++ concat (replies_of d.answered)
            ≡ d.written ++ after.link.pending) t.1.deeds_are scenes.out in
            let its = behind after.link.closed refl same (held ++ h.deeds.written) bytes later in
            record {
              holds = rw f (its.holds
                  ∙ ap Some (append_assoc held h.deeds.written (written_at key ms)));
              own = rw (f, first-is) (goes-out t.1.conn.link.pending after.link.pending
                  last.link.pending (written_at key ms) h.deeds (answered_at key ms) out its.own);
            }
        by false f later =
            let its = later first held
            (acted remaining contents key h.session _ a t.0 t.1.had.slots_are f ∙ here) is in
            record { holds = rw f its.holds; own = rw f its.own }
    holds-all (Leaves other now ∷ ms) a b first last held t e here there is =
        by (other == key) refl
        (λ f. holds-all ms t.0 b first last held t.2 (tail-is (Leaves other now) ms (stay key ms) e)
        (acted remaining contents key other None a t.0 t.1.ended.slots_are f ∙ here) there is)
      where
        by : (c : Bool) → (other == key) ≡ c
            → ((other == key) ≡ false → Kept held ms first last)
            → Kept held (Leaves other now ∷ ms) first last
        by true f later =
            let none : slot_at t.0.slots key ≡ None =
            ap (λ slots. slot_at slots key) t.1.ended.slots_are
            ∙ slot-set a other t.1.conn None t.1.there (eqb-true other key f) in
            let no : Some last ≡ None =
            sym there
            ∙ stays-none ms t.0 b t.2 (tail-is (Leaves other now) ms (stay key ms) e) none in
            absurd (cc)
        by false f later = let its = later f in record { holds = its.holds; own = its.own }

pub streams-hold-the-replies : {S : Type 0} → StreamsHoldTheReplies S
streams-hold-the-replies remaining contents key old first new arrives moments conn held t e there is =
    let here = rw (arrives.key_is) at arrives.taken.here in
    let its = holds-all remaining contents key moments first new _ conn held t e here there is in
    record { holds = its.holds; own = its.own }
