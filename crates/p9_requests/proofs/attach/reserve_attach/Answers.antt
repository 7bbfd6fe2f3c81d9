use Rattle.std.proofs.Common.{◌∙◌, List, ap, le_refl}
use Rattle.p9_fids.specs.Fid.{FidRow, without_fid}
use Rattle.p9_fids.proofs.Places.{remove-added}
use Rattle.p9_walks.proofs.Reserved.{absent, placed}
use Rattle.p9_requests.proofs.attach.reserve_attach.Goals as goal

pub add-requires : goal.add-requires
add-requires g c = rw (← c.session.view_is) at c.in-Ok.ensures.free

pub returns-clause-before : goal.returns-clause-before
returns-clause-before g c =
    let fids = c.session.inside.fids.fids in
    let free = rw (← c.session.view_is) at c.in-Ok.ensures.free in
    rw (← c.session.view_is)
    (ap (λ (fids : List FidRow). record { msize = c.session.inside.msize; fids = fids })
    (ap (without_fid c.args.fid) c.in-Ok-add.ensures.ok
    ∙ remove-added c.args.fid fids (placed c.in-Ok.user c.in-Ok-filled.channels.trail)
    (absent c.args.fid fids free)))

pub returns-clause-channels : goal.returns-clause-channels
returns-clause-channels g c =
    λ fit.
    c.in-Ok-add.ensures.fits c.args.setting.now.table (rw (← c.session.view_is) at fit)
    (rw (← c.setting.view_is) c.in-Ok-filled.ensures.fits)

pub returns-clause-room : goal.returns-clause-room
returns-clause-room g c = record {
  user = c.in-Ok.user;
  free = c.in-Ok.ensures.free;
  plain = c.in-Ok.ensures.plain;
  listed = c.in-Ok.ensures.listed;
  named = c.in-Ok.ensures.named;
  cleaned = c.in-Ok-cleaned_elements.ensures;
  keeps = record {
    spare = c.in-Ok-filled.channels.trail;
    added = rw (← c.session.view_is) c.in-Ok-add.ensures.ok;
    room = rw c.in-Ok-filled.ensures.trail (le_refl 1);
  };
}
