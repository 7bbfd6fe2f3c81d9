-- A guarded state and what is carried of it, each from the other; and the other of two alike
-- states.
use Rattle.std.proofs.Common.{◌≡◌, ◌<◌, List, true, refl, sym, ◌∙◌, subst}
use Rattle.std.specs.List.{AllByRecursion}
use Rattle.p9_base.specs.User.{is_listed_user}
use Rattle.p9_base.specs.declared.node_ref.NodeRef.{NodeRef}
use Rattle.p9_tree.specs.Server.{Server}
use Rattle.p9_tree.specs.Forest.{node_of}
use Rattle.p9_tree.specs.Inside.{outer}
use Rattle.p9_inside.specs.TwoForests.{IsInBoth}
use Rattle.p9_inside.proofs.Looks.{Ordered, ordered_forest}
use Rattle.p9_inside.proofs.TwoForests.{next_same, node_same}
use Rattle.p9_space.specs.Given.{is_given}
use Rattle.p9_fids.specs.Fid.{Fid}
use Rattle.p9_step.specs.State.{Session, SessionRow, Setting, State, fid_ref}
use Rattle.p9_step.specs.Sound.{IsWellOpen, IsFid, IsSession, IsState}
use Rattle.p9_guard_laws.specs.Guarded.{Premises, IsGuardedState, IsSafeFid, IsSafePlace, premises_of}
use Rattle.p9_guard_laws.specs.Grown.{Start}
use Rattle.p9_guard_laws.specs.Alike.{AreAlike}
use Rattle.p9_guard_laws.specs.Laws.{AlikeGuarded}
use Rattle.p9_guard_laws.proofs.Scene.{scene_of}
use Rattle.p9_guard_laws.proofs.Basics.{all_pass, each_passes, each_three, each_two, each_weaker}
use Rattle.p9_guard_laws.proofs.Held.{HeldFid, HeldFids, HeldPlace}
use Rattle.p9_guard_laws.proofs.Good.{Good}
use Rattle.p9_guard_laws.proofs.Fids.{fid_member}
use Rattle.p9_guard_laws.proofs.Transfer.{fids_there, good_there}

-- the fids of each session are held
abbrev pub AreHeld : Premises → Start → List Server → List SessionRow → Type 0
AreHeld premises start f sessions = AllByRecursion (λ row. HeldFids premises start f row.1.fids) sessions

module _ (premises : Premises) (start : Start) (f : List Server) where
  held_fid : (setting : Setting) → setting.users ≡ premises.policy.users → (v : Fid)
      → IsFid setting f v → IsSafeFid premises start f v → HeldFid premises start f v
  held_fid setting same v its safe = record {
    listed = subst (λ users. is_listed_user users v.user ≡ true) same its.listed;
    places =
        each_two (λ p. is_given f p ≡ true) (IsSafePlace premises start f) (HeldPlace premises start f)
        (λ p given kept. record { given = given; outside = kept.outside; safe = kept.safe })
        v.trail (each_passes (is_given f) v.trail its.given) safe.places;
    shown = safe.shown;
  }

  safe_fid : (v : Fid) → HeldFid premises start f v → IsSafeFid premises start f v
  safe_fid v held = record {
    places =
        each_weaker (HeldPlace premises start f) (IsSafePlace premises start f)
        (λ p kept. record { outside = kept.outside; safe = kept.safe }) v.trail held.places;
    shown = held.shown;
  }

module _ (hidden : List NodeRef) (start : Start) (a : State)
    (guarded : IsGuardedState hidden start a)
  where
    -- what is carried of a guarded state
    pub good_of : Good (premises_of hidden a.setting) start a.forest
    good_of = record {
      ordered = ordered_forest a.forest guarded.sound.forest;
      kept = record {
        table = guarded.sound.served.fixed.table;
        later = guarded.later;
        hidden = guarded.hidden_given;
        closed = guarded.closed;
      };
    }

    pub held_of : AreHeld (premises_of hidden a.setting) start a.forest a.sessions
    held_of =
        each_two (λ row. IsSession a.setting a.forest row.1)
        (λ row. AllByRecursion (λ fid.
        IsSafeFid (premises_of hidden a.setting) start a.forest fid.1) row.1.fids)
        (λ row. HeldFids (premises_of hidden a.setting) start a.forest row.1.fids)
        (λ row its safe.
        each_two (λ fid. IsFid a.setting a.forest fid.1)
        (λ fid. IsSafeFid (premises_of hidden a.setting) start a.forest fid.1)
        (λ fid. HeldFid (premises_of hidden a.setting) start a.forest fid.1)
        (λ fid one kept. held_fid (premises_of hidden a.setting) start a.forest a.setting refl fid.1
        one
        kept) row.1.fids its.each safe) a.sessions guarded.sound.served.sessions guarded.fids

-- and the other way round
pub guarded_from : (hidden : List NodeRef) (start : Start) (a : State) → IsState a
    → Good (premises_of hidden a.setting) start a.forest
    → AreHeld (premises_of hidden a.setting) start a.forest a.sessions → IsGuardedState hidden start a
guarded_from hidden start a sound good held = record {
  sound = sound;
  later = good.kept.later;
  hidden_given = good.kept.hidden;
  closed = good.kept.closed;
  fids =
      each_weaker (λ row. HeldFids (premises_of hidden a.setting) start a.forest row.1.fids)
      (λ row. AllByRecursion (λ fid.
      IsSafeFid (premises_of hidden a.setting) start a.forest fid.1) row.1.fids)
      (λ row h. each_weaker (λ fid. HeldFid (premises_of hidden a.setting) start a.forest fid.1)
      (λ fid. IsSafeFid (premises_of hidden a.setting) start a.forest fid.1)
      (λ fid k. safe_fid (premises_of hidden a.setting) start a.forest fid.1 k) row.1.fids h)
      a.sessions held;
}

-- The other forest.

module _ (hidden : List NodeRef) (setting : Setting) (start : Start) (f g : List Server)
    (goodf : Good (premises_of hidden setting) start f)
    (goodg : Good (premises_of hidden setting) start g) (same : outer hidden g ≡ outer hidden f) where
  -- what is kept of open fids
  fits_there : (v : Fid) → HeldFid (premises_of hidden setting) start f v
      → HeldFid (premises_of hidden setting) start g v → IsWellOpen setting.table f v
      → IsWellOpen setting.table g v
  fits_there v sf sg fits o is =
      let kept = fits o is in
      record {
        given =
            subst (λ k. (fid_ref setting.table v).number < k)
            (sym (next_same hidden f g same (fid_ref setting.table v).server)) kept.given;
        mode = λ n there dir. kept.mode n (sym one ∙ there) dir;
        stays = λ n there dir. kept.stays n (sym one ∙ there) dir;
      }
    where
      one : node_of (fid_ref setting.table v) g ≡ node_of (fid_ref setting.table v) f
      one =
          node_same hidden f g goodf.ordered goodg.ordered same (fid_ref setting.table v)
          (fid_member (scene_of hidden setting start g goodg) v sg).outside
          (fid_member (scene_of hidden setting start f goodf) v sf).outside

  fid_sound : (v : Fid) → IsFid setting f v → HeldFid (premises_of hidden setting) start f v
      → HeldFid (premises_of hidden setting) start g v → IsFid setting g v
  fid_sound v its sf sg = record {
    listed = its.listed;
    trail = its.trail;
    given =
        all_pass (is_given g) v.trail
        (each_weaker (HeldPlace (premises_of hidden setting) start g) (λ p. is_given g p ≡ true)
        (λ p h. h.given) v.trail sg.places);
    opened = fits_there v sf sg its.opened;
  }

  pub session_sound : (session : Session) → IsSession setting f session
      → HeldFids (premises_of hidden setting) start f session.fids
      → HeldFids (premises_of hidden setting) start g session.fids → IsSession setting g session
  session_sound session its sf sg = record {
    msize = its.msize;
    fids = its.fids;
    each =
        each_three (λ fid. IsFid setting f fid.1)
        (λ fid. HeldFid (premises_of hidden setting) start f fid.1)
        (λ fid. HeldFid (premises_of hidden setting) start g fid.1) (λ fid. IsFid setting g fid.1)
        (λ fid one x y. fid_sound fid.1 one x y) session.fids its.each sf sg;
  }

-- a state that differs from a guarded one only inside is guarded
module _ (hidden : List NodeRef) (start : Start) (a : State) (g : List Server)
    (guarded : IsGuardedState hidden start a) (alike : AreAlike hidden a (record a { forest = g }))
  where
    abbrev us : Premises
    us = premises_of hidden a.setting

    abbrev b : State
    b = record a { forest = g }

    good_a : Good us start a.forest
    good_a = good_of hidden start a guarded

    held_a : AreHeld us start a.forest a.sessions
    held_a = held_of hidden start a guarded

    ordered_b : Ordered g
    ordered_b = ordered_forest g alike.sound

    good_b : Good us start g
    good_b = good_there us start a.forest g good_a ordered_b alike.others alike.members

    held_b : AreHeld us start g a.sessions
    held_b =
        each_two
        (λ row. AllByRecursion (λ fid. AllByRecursion (IsInBoth a.forest g) fid.1.trail) row.1.fids)
        (λ row. HeldFids us start a.forest row.1.fids) (λ row. HeldFids us start g row.1.fids)
        (λ row both h. fids_there us start a.forest g good_a ordered_b alike.others alike.members
        row.1.fids both h) a.sessions alike.places held_a

    sound_b : IsState b
    sound_b = record {
      forest = alike.sound;
      served = record {
        fixed = guarded.sound.served.fixed;
        given = good_b.kept.closed.given;
        rising = guarded.sound.served.rising;
        sessions =
            each_three (λ row. IsSession a.setting a.forest row.1)
            (λ row. HeldFids us start a.forest row.1.fids) (λ row. HeldFids us start g row.1.fids)
            (λ row. IsSession a.setting g row.1)
            (λ row its x y. session_sound hidden a.setting start a.forest g good_a good_b
            alike.others
            row.1 its x y) a.sessions guarded.sound.served.sessions held_a held_b;
      };
    }

    pub guarded_there : IsGuardedState hidden start b
    guarded_there = guarded_from hidden start b sound_b good_b held_b

-- alike states whose setting and sessions are written as the same
pub alike_at : (hidden : List NodeRef) (a b : State) → AreAlike hidden a b
    → AreAlike hidden a (record a { forest = b.forest })
alike_at hidden a b alike = record {
  sound = alike.sound;
  setting = refl;
  sessions = refl;
  others = alike.others;
  members = alike.members;
  places = alike.places;
}

pub same_but_forest : (hidden : List NodeRef) (a b : State) → AreAlike hidden a b
    → b ≡ record a { forest = b.forest }
same_but_forest hidden a b alike = λ i. record {
  setting = alike.setting i;
  forest = b.forest;
  sessions = alike.sessions i;
}

pub alike_guarded : AlikeGuarded
alike_guarded hidden start a b guarded alike =
    subst (λ (z : State). IsGuardedState hidden start z) (sym (same_but_forest hidden a b alike))
    (guarded_there hidden start a b.forest guarded (alike_at hidden a b alike))
