use Rattle.std.proofs.Common.{◌∙◌, List, ap, refl}
use Rattle.p9_fids.specs.Fid.{FidRow}
use Rattle.p9_space.specs.Channel.{trail_of}
use Rattle.p9_walks.proofs.Reserved.{kept, kept-goes}
use Rattle.p9_walks.proofs.walk.move_fid.Goals as goal

pub follow-requires-clause-there : goal.follow-requires-clause-there
follow-requires-clause-there g c =
    let its = kept c.args.setting.now.table c.args.fid c.args.newfid _ c.args.room
    (record { msize = c.session.inside.msize; fids = c.session.inside.fids.fids }) c.in-Added.is
    (rw (← c.session.view_is) at c.requires.room) in
    rw its.there refl

pub follow-requires-clause-room : goal.follow-requires-clause-room
follow-requires-clause-room g c =
    let its = kept c.args.setting.now.table c.args.fid c.args.newfid _ c.args.room
    (record { msize = c.session.inside.msize; fids = c.session.inside.fids.fids }) c.in-Added.is
    (rw (← c.session.view_is) at c.requires.room) in
    rw its.there its.has

pub returns-in-Added-clause-moved : goal.returns-in-Added-clause-moved
returns-in-Added-clause-moved g c =
    λ v found.
    ap (λ (fids : List FidRow). record { msize = c.session.inside.msize; fids = fids })
    c.follow.ensures.moved
    ∙ rw (← c.session.view_is)
    (kept-goes c.args.setting.now.table c.args.fid c.args.newfid _ c.args.room
    (record { msize = c.session.inside.msize; fids = c.session.inside.fids.fids }) c.in-Added.is
    (rw (← c.session.view_is) at c.requires.room) (trail_of c.args.way.now) v
    (rw (← c.session.view_is) at found))
