-- What becomes of each client that comes.
use Rattle.std.proofs.Common.{◌≡◌, ℕ, ◌==◌, ◌⊎◌, inl, inr, Bool, true, false, List, [], ◌∷◌, ◌++◌}
use Rattle.std.proofs.Common.{Option, Some, None, refl, sym, ap, subst, ◌∙◌, append-nil}
use Rattle.std.proofs.KnownBytes.{Appends-nil, Appends-trans, Consumes-nil, Consumes-trans}
use Rattle.std.proofs.lemmas.Bool.{eqb-true}
use Rattle.std.proofs.lemmas.List.{get_or-set_same}
use Rattle.std.specs.Prelude.{if◌then◌else◌, slice_set}
use Rattle.std.specs.List.{AllByRecursion, concat}
use Rattle.std.specs.Io.KnownBytes.{Appends, Consumes}
use Rattle.p9_conn.specs.Conn.{Connection, new_connection, scene}
use Rattle.p9_conn.specs.History.{Happening, frames_in, replies_of}
use Rattle.p9_conn.specs.Laws.{ComeInOrder}
use Rattle.p9_conn.specs.Turn.{Deeds, no_deeds, phase_of}
use Rattle.p9_conn.proofs.Facts.{common}
use Rattle.p9_conn.proofs.Orders.{goes-out, one}
use Rattle.p9_conn.proofs.Told.{moves-by}
use Rattle.p9_clients.specs.Serving.{Serving, slot_at}
use Rattle.p9_clients.proofs.Keyed.{within}
use Rattle.p9_serve.specs.Laws.{EachVisitIsAnswered}
use Rattle.p9_serve.specs.Life.{Acts, Arrives, HasActed, Leaves, Moment, Pass, answered_at, read_at}
use Rattle.p9_serve.specs.Life.{stay, written_at}
use Rattle.p9_serve.specs.Visits.{IsAnswered, deeds_at, last_at, visits_in}
use Rattle.p9_serve.proofs.Sends.{acted, arrived}

-- what some turns did, and what others did then
abbrev joined : Deeds → Deeds → Deeds
joined first later = record {
  read = first.read ++ later.read;
  written = first.written ++ later.written;
  answered = first.answered ++ later.answered;
}

-- what the turns of a key did in moments in which no other client gets it
abbrev deeds_in : (key : ℕ) → List Moment → Deeds
deeds_in key moments = record {
  read = read_at key moments;
  written = written_at key moments;
  answered = answered_at key moments;
}

module _ {S : Type 0} (remaining contents : S → Option (List ℕ)) where
  -- turns led from a connection to another, and did these deeds
  record Come (conn last : Connection S) (deeds : Deeds) : Type 0 where
    gave : Consumes (remaining conn.stream) (remaining last.stream) deeds.read
    holds : Appends (contents conn.stream) (contents last.stream) deeds.written
    frames : ComeInOrder (frames_in deeds.answered) (conn.link.buffer ++ deeds.read)
        last.link.buffer
    replies : conn.link.pending ++ concat (replies_of deeds.answered)
        ≡ deeds.written ++ last.link.pending

  idle : (conn : Connection S) → Come conn conn no_deeds
  idle conn = record {
    gave = Consumes-nil (remaining conn.stream);
    holds = Appends-nil (contents conn.stream);
    frames = record { first = tt; rest = append-nil conn.link.buffer };
    replies = append-nil conn.link.pending;
  }

  -- a turn, and what comes then
  turn-then : (h : Happening) (a b : Serving S) (t : HasActed remaining contents h a b)
      (last : Connection S) (later : Deeds) → Come t.had.after last later
      → Come t.conn last (joined h.deeds later)
  turn-then h a b t last later comes =
      let turned = t.had.turned in
      let conn = t.conn in
      let after = t.had.after in
      let moved = moves-by remaining contents (phase_of conn.link) conn.session h.clock
      (scene conn a.guard) (scene after b.guard) conn.stream after.stream turned.deeds turned.turn
      turned.stream in
      let its = common conn.session h.clock (scene conn a.guard) (scene after b.guard) turned.deeds
      turned.turn in
      subst (λ (d : Deeds). Come conn last (joined d later)) t.deeds_are (record {
        gave = Consumes-trans (remaining conn.stream) (remaining after.stream)
            (remaining last.stream) turned.deeds.read later.read moved.consumed comes.gave;
        holds = Appends-trans (contents conn.stream) (contents after.stream)
            (contents last.stream) turned.deeds.written later.written moved.appended comes.holds;
        frames = one conn.link.buffer later.read after.link.buffer last.link.buffer turned.deeds
            later.answered its.comes comes.frames;
        replies = goes-out conn.link.pending after.link.pending last.link.pending later.written
            turned.deeds later.answered its.out comes.replies;
      })

  module _ (key : ℕ) where
    -- a key has this connection, or nobody has it
    abbrev IsAt : Serving S → Connection S → Type 0
    IsAt a conn = (slot_at a.slots key ≡ Some conn) ⊎ (slot_at a.slots key ≡ None)

    still : (a b : Serving S) (conn : Connection S)
        → slot_at b.slots key ≡ slot_at a.slots key → IsAt a conn → IsAt b conn
    still a b conn same (inl is) = inl (same ∙ is)
    still a b conn same (inr none) = inr (same ∙ none)

    -- the slot of a key after a turn at it, or after its end
    slot-set : (a : Serving S) (k : ℕ) (conn : Connection S) (slot : Option (Connection S))
        → slot_at a.slots k ≡ Some conn → k ≡ key
        → slot_at (slice_set a.slots k slot) key ≡ slot
    slot-set a k conn slot there same =
        ap (slot_at (slice_set a.slots k slot)) (sym same)
        ∙ get_or-set_same a.slots k slot None (within a.slots k conn there)

    -- from a connection on, as long as no other client gets its key
    goes : (ms : List Moment) (a b : Serving S) (conn : Connection S)
        (t : Pass remaining contents ms a b) → IsAt a conn
        → Come conn (last_at remaining contents key conn ms a b t) (deeds_at key ms)
    goes [] a b conn t at = idle conn
    goes (Arrives other ∷ ms) a b conn t at =
        by (other == key) refl (λ f. goes ms t.0 b conn t.2
        (still a t.0 conn (arrived remaining contents key other a t.0 t.1 f) at))
      where
        last : Connection S
        last = last_at remaining contents key conn ms t.0 b t.2

        by : (c : Bool) → (other == key) ≡ c
            → ((other == key) ≡ false → Come conn last (deeds_at key ms))
            → Come conn (if c then conn else last)
            (deeds_in key (if c then [] else Arrives other ∷ stay key ms))
        by true f later = idle conn
        by false f later = later f
    goes (Acts h ∷ ms) a b conn t at =
        by (h.session == key) refl at (λ kept is. goes ms t.0 b kept t.2 is)
      where
        after : Connection S
        after = t.1.had.after

        Later : Type 0
        Later = (kept : Connection S) → IsAt t.0 kept
            → Come kept (last_at remaining contents key kept ms t.0 b t.2) (deeds_at key ms)

        next : (closed : Bool) → after.link.closed ≡ closed → h.session ≡ key → IsAt t.0 after
        next true f same =
            inr (ap (λ slots. slot_at slots key) t.1.had.slots_are
            ∙ ap (λ (c : Bool). slot_at (slice_set a.slots h.session
            (if c then None else Some after)) key) f
            ∙ slot-set a h.session t.1.conn None t.1.there same)
        next false f same =
            inl (ap (λ slots. slot_at slots key) t.1.had.slots_are
            ∙ ap (λ (c : Bool). slot_at (slice_set a.slots h.session
            (if c then None else Some after)) key) f
            ∙ slot-set a h.session t.1.conn (Some after) t.1.there same)

        mine : h.session ≡ key → IsAt a conn → t.1.conn ≡ conn
        mine same (inl is) =
            let some : Some conn ≡ Some t.1.conn =
            sym is ∙ ap (slot_at a.slots) (sym same) ∙ t.1.there in cc
        mine same (inr none) =
            let no : Some t.1.conn ≡ None =
            sym t.1.there ∙ ap (slot_at a.slots) same ∙ none in absurd (cc)

        by : (c : Bool) → (h.session == key) ≡ c → IsAt a conn → Later
            → Come conn (last_at remaining contents key (if c then after else conn) ms t.0 b t.2)
            (record {
              read = (if c then h.deeds.read else []) ++ read_at key (stay key ms);
              written = (if c then h.deeds.written else []) ++ written_at key (stay key ms);
              answered = (if c then h.deeds.answered else []) ++ answered_at key (stay key ms);
            })
        by true f is later =
            let same = eqb-true h.session key f in
            let last = last_at remaining contents key after ms t.0 b t.2 in
            subst (λ (k : Connection S). Come k last (joined h.deeds (deeds_at key ms)))
            (mine same is)
            (turn-then h a t.0 t.1 last (deeds_at key ms)
            (later after (next after.link.closed refl same)))
        by false f is later =
            later conn
            (still a t.0 conn (acted remaining contents key h.session _ a t.0 t.1.had.slots_are f)
            is)
    goes (Leaves other now ∷ ms) a b conn t at =
        by (other == key) refl (λ is. goes ms t.0 b conn t.2 is)
      where
        by : (c : Bool) → (other == key) ≡ c
            → (IsAt t.0 conn → Come conn (last_at remaining contents key conn ms t.0 b t.2)
            (deeds_at key ms))
            → Come conn (last_at remaining contents key conn ms t.0 b t.2) (deeds_at key ms)
        by true f later =
            later (inr (ap (λ slots. slot_at slots key) t.1.ended.slots_are
            ∙ slot-set a other t.1.conn None t.1.there (eqb-true other key f)))
        by false f later =
            later
            (still a t.0 conn (acted remaining contents key other None a t.0 t.1.ended.slots_are f)
            at)

  each : (ms : List Moment) (a b : Serving S) (t : Pass remaining contents ms a b)
      → AllByRecursion (IsAnswered remaining contents) (visits_in remaining contents ms a b t)
  each [] a b t = tt
  each (Arrives key ∷ ms) a b t =
      let here = rw (t.1.key_is) at t.1.taken.here in
      let its = goes key ms t.0 b (new_connection t.1.stream key) t.2 (inl here) in (
        record {
          gave = its.gave;
          holds = its.holds;
          frames = its.frames;
          replies = its.replies;
        },
        each ms t.0 b t.2,
      )
  each (Acts h ∷ ms) a b t = each ms t.0 b t.2
  each (Leaves key now ∷ ms) a b t = each ms t.0 b t.2

pub each-visit-is-answered : {S : Type 0} → EachVisitIsAnswered S
each-visit-is-answered remaining contents moments old new passed =
    each remaining contents moments old new passed
