-- What happens at one key of two servers, with the same from outside.
use Rattle.std.proofs.Common.{◌≡◌, ◌≢◌, ℕ, ◌<◌, ◌^◌, ◌==◌, Bool, true, false, List, Option, Some}
use Rattle.std.proofs.Common.{None, refl, sym, ap, ◌∙◌, subst}
use Rattle.std.proofs.lemmas.Bool.{eqb-false, eqb-true}
use Rattle.std.proofs.lemmas.List.{get_or-set_other, get_or-set_same}
use Rattle.std.specs.Option.{option_map}
use Rattle.std.specs.Prelude.{if◌then◌else◌, slice_set}
use Rattle.p9_step.specs.Event.{Close, Open}
use Rattle.p9_step.specs.Step.{step}
use Rattle.p9_conn.specs.Conn.{Connection, new_connection, scene, turn_of}
use Rattle.p9_conn.specs.Turn.{Deeds, Link, TurnBy, phase_of}
use Rattle.p9_conn.specs.declared.conn.Turn.{Turn}
use Rattle.p9_clients.specs.Serving.{HasEndedAt, HasTurnAt, IsTakenIn, Serving, in_state, slot_at}
use Rattle.p9_clients.proofs.Keyed.{within}
use Rattle.p9_serve_laws.specs.Beside.{AreBeside, link_at, without_stream}
use Rattle.p9_serve_laws.specs.Outside.{given_in}
use Rattle.p9_serve_laws.proofs.Likewise.{both-of, guards-of, guards-step}
use Rattle.p9_serve_laws.proofs.Same.{turns-same}
use Rattle.p9_serve_laws.proofs.Steps.{scene_at}

-- servers that are still those side by side
pub beside-here : {S T : Type 0} (old new : Serving S) (old' new' : Serving T) → AreBeside old old'
    → new ≡ old → new' ≡ old' → AreBeside new new'
beside-here {S} {T} old new old' new' beside same same' =
    subst (λ (s : Serving S). AreBeside s new') (sym same)
    (subst (λ (s : Serving T). AreBeside old s) (sym same') beside)

-- a slot that is dropped where its connection is closed
slot-shown : {S : Type 0} (closed : Bool) (conn : Connection S)
    → option_map without_stream (if closed then None else Some conn)
    ≡ (if closed then None else Some (without_stream conn))
slot-shown true conn = refl
slot-shown false conn = refl

-- the slot that was set, and the others
set-here : {S : Type 0} (old new : Serving S) (key : ℕ) (conn : Connection S)
    (slot : Option (Connection S)) → slot_at old.slots key ≡ Some conn
    → new.slots ≡ slice_set old.slots key slot → slot_at new.slots key ≡ slot
set-here old new key conn slot there is =
    ap (λ slots. slot_at slots key) is
    ∙ get_or-set_same old.slots key slot None (within old.slots key conn there)

set-other : {S : Type 0} (old new : Serving S) (key k : ℕ) (slot : Option (Connection S))
    → new.slots ≡ slice_set old.slots key slot → k ≢ key
    → slot_at new.slots k ≡ slot_at old.slots k
set-other old new key k slot is other =
    ap (λ slots. slot_at slots k) is ∙ get_or-set_other old.slots key k slot None other

module _ {S T : Type 0} (old new : Serving S) (old' new' : Serving T) where
  -- one key has changed in both
  links-after : (key : ℕ) → ((k : ℕ) → link_at old' k ≡ link_at old k)
      → link_at new' key ≡ link_at new key
      → ((k : ℕ) → k ≢ key → slot_at new.slots k ≡ slot_at old.slots k)
      → ((k : ℕ) → k ≢ key → slot_at new'.slots k ≡ slot_at old'.slots k)
      → (k : ℕ) → link_at new' k ≡ link_at new k
  links-after key links here others others' k = go (k == key) refl
    where
      go : (b : Bool) → (k == key) ≡ b → link_at new' k ≡ link_at new k
      go true e = rw (eqb-true k key e) here
      go false e =
          let ne : k ≢ key = eqb-false k key e in
          ap (option_map without_stream) (others' k ne) ∙ links k
          ∙ sym (ap (option_map without_stream) (others k ne))

  -- a slot was set in both
  links-set : (key : ℕ) (conn : Connection S) (conn' : Connection T)
      (slot : Option (Connection S)) (slot' : Option (Connection T))
      → ((k : ℕ) → link_at old' k ≡ link_at old k)
      → slot_at old.slots key ≡ Some conn → slot_at old'.slots key ≡ Some conn'
      → new.slots ≡ slice_set old.slots key slot → new'.slots ≡ slice_set old'.slots key slot'
      → option_map without_stream slot' ≡ option_map without_stream slot
      → (k : ℕ) → link_at new' k ≡ link_at new k
  links-set key conn conn' slot slot' links there there' is is' same =
      links-after key links
      (ap (option_map without_stream) (set-here old' new' key conn' slot' there' is') ∙ same
      ∙ sym (ap (option_map without_stream) (set-here old new key conn slot there is)))
      (λ k ne. set-other old new key k slot is ne) (λ k ne. set-other old' new' key k slot' is' ne)

-- the connections at a key are the same, but for the streams
pub conn-same : {S T : Type 0} (old : Serving S) (old' : Serving T) (key : ℕ)
    (conn : Connection S) (conn' : Connection T) → link_at old' key ≡ link_at old key
    → slot_at old.slots key ≡ Some conn → slot_at old'.slots key ≡ Some conn'
    → without_stream conn' ≡ without_stream conn
conn-same old old' key conn conn' links there there' =
    let some : Some (without_stream conn') ≡ Some (without_stream conn) =
    sym (ap (option_map without_stream) there') ∙ links
    ∙ ap (option_map without_stream) there in
    option-some some
  where
    option-some : {A : Type 0} {x y : A} → Some x ≡ Some y → x ≡ y
    option-some e = cc

module _ {S T : Type 0} (remaining contents : S → Option (List ℕ))
    (remaining' contents' : T → Option (List ℕ)) where
  -- the same came of two turns at a key
  pub record TurnedSame (new : Serving S) (new' : Serving T) (turn turn' : Turn)
      (deeds deeds' : Deeds) : Type 0 where
    pub deeds_are : deeds' ≡ deeds
    pub turn_is : turn' ≡ turn
    pub beside : AreBeside new new'

  pub turns-at-same : (clock key : ℕ) (conn : Connection S) (conn' : Connection T)
      (old new : Serving S) (old' new' : Serving T) (turn turn' : Turn) → AreBeside old old'
      → slot_at old.slots key ≡ Some conn → slot_at old'.slots key ≡ Some conn'
      → (t : HasTurnAt remaining contents clock key conn old new turn)
      → (t' : HasTurnAt remaining' contents' clock key conn' old' new' turn')
      → given_in (phase_of conn'.link) t'.turned.deeds ≡ given_in (phase_of conn.link)
      t.turned.deeds
      → TurnedSame new new' turn turn' t.turned.deeds t'.turned.deeds
  turns-at-same clock key conn conn' old new old' new' turn turn' beside there there' t t' given =
      let shown : without_stream conn' ≡ without_stream conn =
      conn-same old old' key conn conn' (beside.links key) there there' in
      let link : conn'.link ≡ conn.link = ap (λ (p : ℕ × Link). p.1) shown in
      let session : conn'.session ≡ conn.session = ap (λ (p : ℕ × Link). p.0) shown in
      let deeds = t.turned.deeds in
      let deeds' = t'.turned.deeds in
      let turn-there : TurnBy (phase_of conn.link) conn.session clock
      (scene_at conn.link old'.guard.state) (scene t'.after new'.guard) deeds' =
      subst (λ (p : ℕ × Link). TurnBy (phase_of p.1) p.0 clock (scene_at p.1 old'.guard.state)
      (scene t'.after new'.guard) deeds') shown t'.turned.turn in
      let same = turns-same old.guard.hidden old.guard.start conn.link old.guard.state
      old'.guard.state (scene t.after new.guard) (scene t'.after new'.guard) deeds deeds'
      (both-of old.guard old'.guard beside.guards) (phase_of conn.link) conn.session clock
      t.turned.turn turn-there
      (sym (ap (λ (l : Link). given_in (phase_of l) deeds') link) ∙ given) in
      let closed : t'.after.link.closed ≡ t.after.link.closed =
      ap (λ (l : Link). l.closed) same.link_is in
      let after : without_stream t'.after ≡ without_stream t.after =
      λ i. ((t'.turned.session_is ∙ session ∙ sym t.turned.session_is) i, same.link_is i) in
      record {
        deeds_are = same.deeds_are;
        turn_is = t'.turned.result_is
            ∙ (λ i. turn_of (same.deeds_are i) (closed i)) ∙ sym t.turned.result_is;
        beside = record {
          guards = guards-of old.guard new.guard new'.guard t.turned.guard_is same.both;
          links = links-set old new old' new' key conn conn' _ _ beside.links there there'
              t.slots_are t'.slots_are
              (slot-shown t'.after.link.closed t'.after
              ∙ (λ i. if closed i then None else Some (after i))
              ∙ sym (slot-shown t.after.link.closed t.after));
        };
      }

  pub taken-same : (stream : S) (stream' : T) (old new : Serving S) (old' new' : Serving T)
      → AreBeside old old' → (t : IsTakenIn stream old new) → (t' : IsTakenIn stream' old' new')
      → t'.key ≡ t.key → AreBeside new new'
  taken-same stream stream' old new old' new' beside t t' same = record {
    guards = guards-step old.guard new.guard old'.guard new'.guard (Open t.key) beside.guards tt
        t.guard_is
        (subst (λ (k : ℕ). new'.guard ≡ in_state old'.guard (step old'.guard.state (Open k)
        false).state)
        same t'.guard_is);
    links = links-after old new old' new' t.key beside.links
        (ap (option_map without_stream)
        (subst (λ (k : ℕ). slot_at new'.slots k ≡ Some (new_connection stream' k)) same t'.here)
        ∙ sym (ap (option_map without_stream) t.here))
        t.others
        (subst (λ (key : ℕ). (k : ℕ) → k ≢ key → slot_at new'.slots k ≡ slot_at old'.slots k) same
        t'.others);
  }

  pub ended-same : (clock key : ℕ) (conn : Connection S) (conn' : Connection T)
      (old new : Serving S) (old' new' : Serving T) → clock < 2 ^ 32 → AreBeside old old'
      → slot_at old.slots key ≡ Some conn → slot_at old'.slots key ≡ Some conn'
      → HasEndedAt clock key old new → HasEndedAt clock key old' new' → AreBeside new new'
  ended-same clock key conn conn' old new old' new' small beside there there' t t' = record {
    guards = guards-step old.guard new.guard old'.guard new'.guard (Close key clock) beside.guards
        small t.guard_is t'.guard_is;
    links = links-set old new old' new' key conn conn' None None beside.links there there'
        t.slots_are t'.slots_are refl;
  }
