-- What each client is sent is its own replies, also where its key was used before.
use Rattle.std.proofs.Common.{◌≡◌, ℕ, ◌==◌, Bool, true, false, List, [], ◌∷◌, ◌++◌, Option}
use Rattle.std.proofs.Common.{Some, None, refl, sym, ap, subst, ◌∙◌, append-nil}
use Rattle.std.proofs.lemmas.Bool.{eqb-false, eqb-true}
use Rattle.std.proofs.lemmas.List.{get_or-set_other, get_or-set_same}
use Rattle.std.specs.Prelude.{if◌then◌else◌, slice_set}
use Rattle.std.specs.List.{concat}
use Rattle.p9_conn.specs.Conn.{Connection, scene}
use Rattle.p9_conn.specs.History.{replies_of}
use Rattle.p9_conn.specs.Turn.{Answered, Deeds}
use Rattle.p9_conn.proofs.Facts.{common}
use Rattle.p9_conn.proofs.Orders.{goes-out}
use Rattle.p9_clients.specs.Serving.{Serving, slot_at}
use Rattle.p9_clients.proofs.Keyed.{within}
use Rattle.p9_serve.specs.Laws.{ClientsAreSentTheirReplies, IsSent}
use Rattle.p9_serve.specs.Life.{Acts, ArrivesAt, Arrives, Leaves, Moment, Pass}
use Rattle.p9_serve.specs.Life.{answered_at, stay, written_at}

-- what is pending before moments, and the replies in them, are what is written in them and what is
-- pending then
pub record GoesOut (pending : List ℕ) (answered : List Answered) (written : List ℕ) : Type 0 where
  pub left : List ℕ
  pub is : pending ++ concat (replies_of answered) ≡ written ++ left

module _ {S : Type 0} (remaining contents : S → Option (List ℕ)) (key : ℕ) where
  -- a change at another key changes nothing at this one
  pub arrived : (other : ℕ) (a b : Serving S) → ArrivesAt remaining contents other a b
      → (other == key) ≡ false → slot_at b.slots key ≡ slot_at a.slots key
  arrived other a b t e =
      t.taken.others key (λ same. eqb-false other key e (sym (same ∙ t.key_is)))

  pub acted : (k : ℕ) (slot : Option (Connection S)) (a b : Serving S)
      → b.slots ≡ slice_set a.slots k slot → (k == key) ≡ false
      → slot_at b.slots key ≡ slot_at a.slots key
  acted k slot a b is e =
      ap (λ slots. slot_at slots key) is
      ∙ get_or-set_other a.slots k key slot None (λ same. eqb-false k key e (sym same))

  -- nothing is answered or written where nobody is
  pub record IsSilent (moments : List Moment) : Type 0 where
    pub answered : answered_at key (stay key moments) ≡ []
    pub written : written_at key (stay key moments) ≡ []

  gone : (ms : List Moment) (a b : Serving S) → Pass remaining contents ms a b
      → slot_at a.slots key ≡ None → IsSilent ms
  gone [] a b t none = record { answered = refl; written = refl }
  gone (Arrives other ∷ ms) a b t none =
      by (other == key) refl (λ e. gone ms t.0 b t.2 (arrived other a t.0 t.1 e ∙ none))
    where
      by : (c : Bool) → (other == key) ≡ c → ((other == key) ≡ false → IsSilent ms)
          → IsSilent (Arrives other ∷ ms)
      by true e later = record { answered = rw e refl; written = rw e refl }
      by false e later =
          let its = later e in
          record { answered = rw e its.answered; written = rw e its.written }
  gone (Acts h ∷ ms) a b t none =
      by (h.session == key) refl
      (λ e. gone ms t.0 b t.2 (acted h.session _ a t.0 t.1.had.slots_are e ∙ none))
    where
      by : (c : Bool) → (h.session == key) ≡ c → ((h.session == key) ≡ false → IsSilent ms)
          → IsSilent (Acts h ∷ ms)
      by true e later =
          let no : Some t.1.conn ≡ None =
          sym t.1.there ∙ ap (slot_at a.slots) (eqb-true h.session key e) ∙ none in absurd (cc)
      by false e later =
          let its = later e in
          record { answered = rw e its.answered; written = rw e its.written }
  gone (Leaves other now ∷ ms) a b t none =
      by (other == key) refl
      (λ e. gone ms t.0 b t.2 (acted other None a t.0 t.1.ended.slots_are e ∙ none))
    where
      by : (c : Bool) → (other == key) ≡ c → ((other == key) ≡ false → IsSilent ms)
          → IsSilent (Leaves other now ∷ ms)
      by true e later =
          let no : Some t.1.conn ≡ None =
          sym t.1.there ∙ ap (slot_at a.slots) (eqb-true other key e) ∙ none in absurd (cc)
      by false e later =
          let its = later e in record { answered = its.answered; written = its.written }

  silent-goes-out : (pending : List ℕ) (ms : List Moment) → IsSilent ms
      → GoesOut pending (answered_at key (stay key ms)) (written_at key (stay key ms))
  silent-goes-out pending ms its = record {
    left = pending;
    is = rw (its.answered, its.written) (append-nil pending);
  }

  -- a turn, and what is behind it
  turn-goes-out : (pending left : List ℕ) (h-answered : List Answered) (h-written : List ℕ)
      (answered : List Answered) (written : List ℕ)
      → pending ++ concat (replies_of h-answered) ≡ h-written ++ left
      → GoesOut left answered written
      → GoesOut pending (h-answered ++ answered) (h-written ++ written)
  turn-goes-out pending left h-answered h-written answered written here later = record {
    left = later.left;
    is = goes-out pending left later.left written
        (record { read = []; written = h-written; answered = h-answered }) answered here later.is;
  }

  here : (ms : List Moment) (a b : Serving S) (conn : Connection S) → Pass remaining contents ms a b
      → slot_at a.slots key ≡ Some conn
      → GoesOut conn.link.pending (answered_at key (stay key ms)) (written_at key (stay key ms))
  here [] a b conn t there = record { left = conn.link.pending; is = append-nil conn.link.pending }
  here (Arrives other ∷ ms) a b conn t there =
      by (other == key) refl
      (λ e. here ms t.0 b conn t.2 (arrived other a t.0 t.1 e ∙ there))
    where
      by : (c : Bool) → (other == key) ≡ c
          → ((other == key) ≡ false
          → GoesOut conn.link.pending (answered_at key (stay key ms))
          (written_at key (stay key ms)))
          → GoesOut conn.link.pending (answered_at key (stay key (Arrives other ∷ ms)))
          (written_at key (stay key (Arrives other ∷ ms)))
      by true e later =
          rw e (record { left = conn.link.pending; is = append-nil conn.link.pending })
      by false e later = let its = later e in rw e (record { left = its.left; is = its.is })
  here (Acts h ∷ ms) a b conn t there =
      by (h.session == key) refl (λ kept is. here ms t.0 b kept t.2 is)
    where
      Later : Type 0
      Later = (kept : Connection S) → slot_at t.0.slots key ≡ Some kept
          → GoesOut kept.link.pending (answered_at key (stay key ms)) (written_at key (stay key ms))

      after : Connection S
      after = t.1.had.after

      behind : (closed : Bool) → after.link.closed ≡ closed → h.session ≡ key → Later
          → GoesOut after.link.pending (answered_at key (stay key ms))
          (written_at key (stay key ms))
      behind true e same later =
          silent-goes-out after.link.pending ms
          (gone ms t.0 b t.2
          (ap (λ slots. slot_at slots key) t.1.had.slots_are
          ∙ ap (λ (c : Bool). slot_at (slice_set a.slots h.session
          (if c then None else Some after)) key) e
          ∙ ap (slot_at (slice_set a.slots h.session None)) (sym same)
          ∙ get_or-set_same a.slots h.session None None
          (within a.slots h.session t.1.conn t.1.there)))
      behind false e same later =
          later after
          (ap (λ slots. slot_at slots key) t.1.had.slots_are
          ∙ ap (λ (c : Bool). slot_at (slice_set a.slots h.session
          (if c then None else Some after)) key) e
          ∙ ap (slot_at (slice_set a.slots h.session (Some after))) (sym same)
          ∙ get_or-set_same a.slots h.session (Some after) None
          (within a.slots h.session t.1.conn t.1.there))

      by : (c : Bool) → (h.session == key) ≡ c → Later
          → GoesOut conn.link.pending (answered_at key (stay key (Acts h ∷ ms)))
          (written_at key (stay key (Acts h ∷ ms)))
      by true e later =
          let same = eqb-true h.session key e in
          let conn-is : Some conn ≡ Some t.1.conn =
          sym there ∙ ap (slot_at a.slots) (sym same) ∙ t.1.there in
          let pending-is : conn.link.pending ≡ t.1.conn.link.pending = cc in
          let turned = t.1.had.turned in
          let its = common t.1.conn.session h.clock (scene t.1.conn a.guard) (scene after t.0.guard)
          turned.deeds turned.turn in
          let out = subst (λ (d : Deeds). t.1.conn.link.pending ++ concat (replies_of d.answered)
          ≡ d.written ++ after.link.pending) t.1.deeds_are its.out in
          rw (e, pending-is)
          (turn-goes-out t.1.conn.link.pending after.link.pending h.deeds.answered
          h.deeds.written (answered_at key (stay key ms)) (written_at key (stay key ms)) out
          (behind after.link.closed refl same later))
      by false e later =
          let its = later conn (acted h.session _ a t.0 t.1.had.slots_are e ∙ there) in
          rw e (record { left = its.left; is = its.is })
  here (Leaves other now ∷ ms) a b conn t there =
      by (other == key) refl
      (λ e. here ms t.0 b conn t.2 (acted other None a t.0 t.1.ended.slots_are e ∙ there))
    where
      by : (c : Bool) → (other == key) ≡ c
          → ((other == key) ≡ false
          → GoesOut conn.link.pending (answered_at key (stay key ms))
          (written_at key (stay key ms)))
          → GoesOut conn.link.pending (answered_at key (stay key (Leaves other now ∷ ms)))
          (written_at key (stay key (Leaves other now ∷ ms)))
      by true e later =
          let same = eqb-true other key e in
          let its = silent-goes-out conn.link.pending ms
          (gone ms t.0 b t.2
          (ap (λ slots. slot_at slots key) t.1.ended.slots_are
          ∙ ap (slot_at (slice_set a.slots other None)) (sym same)
          ∙ get_or-set_same a.slots other None None
          (within a.slots other t.1.conn t.1.there))) in
          record { left = its.left; is = its.is }
      by false e later = let its = later e in record { left = its.left; is = its.is }

  from-arrival : (earlier later : List Moment) (a b : Serving S)
      → Pass remaining contents (earlier ++ Arrives key ∷ later) a b → IsSent key later
  from-arrival [] later a b t =
      let arrives = t.1 in
      let there = rw (arrives.key_is) at arrives.taken.here in
      let its = here later t.0 b _ t.2 there in
      record { pending = its.left; own = its.is }
  from-arrival (m ∷ earlier) later a b t = from-arrival earlier later t.0 b t.2

pub clients-are-sent-their-replies : {S : Type 0} → ClientsAreSentTheirReplies S
clients-are-sent-their-replies remaining contents earlier later old new key t =
    from-arrival remaining contents key earlier later old new t
