use Rattle.std.proofs.Common.{◌≡◌, ◌+◌, ◌∙◌, Some, List, ap, le_refl, length, min, sym}
use Rattle.std.proofs.lemmas.List.{length-replicate}
use Rattle.p9_space.specs.Channel.{trail_of}
use Rattle.p9_space.specs.Trail.{places_max}
use Rattle.p9_fids.specs.Fid.{Fid, FidRow, fid_at, without_fid}
use Rattle.p9_fids.specs.Held.{Held}
use Rattle.p9_fids.proofs.Places.{remove-added}
use Rattle.p9_walks.specs.Reserved.{most_places}
use Rattle.p9_walks.proofs.Reserved.{absent, differ, newfid-free, not-there, placed}
use Rattle.p9_walks.proofs.walk.reserve_walk.Goals as goal

pub add-requires : goal.add-requires
add-requires g c =
    let free = not-there c.newfid_fault.result (sym c.is_some-else-is_some.ensures ∙ c.if-is_some-2.false) in
    newfid-free c.args.fid c.args.newfid c.session.inside.fids.fids
    (differ c.args.newfid c.args.fid c.if-newfid-fid.false)
    (rw (← c.session.view_is) at (sym c.newfid_fault.ensures ∙ free))

pub returns-clause-before : goal.returns-clause-before
returns-clause-before g c =
    let fids = c.session.inside.fids.fids in
    let free = not-there c.newfid_fault.result (sym c.is_some-else-is_some.ensures ∙ c.if-is_some-2.false) in
    let put = newfid-free c.args.fid c.args.newfid fids
    (differ c.args.newfid c.args.fid c.if-newfid-fid.false)
    (rw (← c.session.view_is) at (sym c.newfid_fault.ensures ∙ free)) in
    rw (← c.session.view_is)
    (ap (λ (fids : List FidRow). record { msize = c.session.inside.msize; fids = fids })
    (ap (without_fid c.args.newfid) c.in-Ok-add.ensures.ok
    ∙ remove-added c.args.newfid fids
    (placed c.held.inside.user c.in-Ok.channels.trail)
    (absent c.args.newfid fids put)))

pub returns-clause-channels : goal.returns-clause-channels
returns-clause-channels g c =
    λ fit.
    c.in-Ok-add.ensures.fits c.args.setting.now.table (rw (← c.session.view_is) at fit)
    (rw (← c.setting.view_is) c.in-Ok.ensures.fits)

pub returns-clause-room : goal.returns-clause-room
returns-clause-room g c =
    let held : Fid = record {
      user = c.held.inside.user;
      trail = trail_of c.held.inside.channels;
      opened = c.held.inside.opened;
    } in
    let found : fid_at c.args.fid c.session.inside.fids.fids ≡ Some held =
    sym c.in_ok-held.ensures.fid ∙ ap (λ (h : Held). Some h.fid) (sym c.held.view_is) in
    let free = not-there c.newfid_fault.result (sym c.is_some-else-is_some.ensures ∙ c.if-is_some-2.false) in
    let count : c.min-count.result ≡ most_places c.args.names held.trail =
    c.min-count.ensures
    ∙ ap (λ n. min places_max (n + c.args.names)) (c.len.ensures ∙ ap length c.trail-trail.ensures) in
    record {
      v = held;
      found = rw (← c.session.view_is) found;
      closed = not-there c.held.inside.opened (sym c.is_some.ensures ∙ c.if-is_some.false);
      free = sym c.newfid_fault.ensures ∙ free;
      has = (
        differ c.args.newfid c.args.fid c.if-newfid-fid.false,
        record {
          spare = c.in-Ok.channels.trail;
          added = rw (← c.session.view_is) c.in-Ok-add.ensures.ok;
          room = rw (ap length c.in-Ok.ensures.trail ∙ length-replicate c.min-count.result _ ∙ count)
              (le_refl _);
        },
      );
    }
