use Rattle.std.proofs.Common.{◌≡◌, ◌≤◌, ◌∙◌, Some, ap, length, refl, subst, sym}
use Rattle.std.specs.Option.{option_copied, option_map}
use Rattle.p9_space.specs.Channel.{trail_of}
use Rattle.p9_fids.specs.Fid.{Fid, fid_at}
use Rattle.p9_fids.specs.Held.{Held, fid_of}
use Rattle.p9_step.specs.State.{Session}
use Rattle.p9_step.specs.Walk.{walked}
use Rattle.p9_walks.specs.Reserved.{most_places, unreserved}
use Rattle.p9_walks.proofs.Reserved.{fewer-places, found-same, found-some, still-there}
use Rattle.p9_walks.proofs.Walks.{walk_answer-goes}
use Rattle.p9_walks.proofs.walk.walk_into.Goals as goal

pub unwrap-held-requires : goal.unwrap-held-requires
unwrap-held-requires g c =
    let is = rw (← c.session.view_is) at c.requires.room in
    found-some c.get.result is.v
    (c.get.ensures.fid
    ∙ still-there c.args.setting.now.table c.args.fid c.args.newfid _ c.args.room
    (record { msize = c.session.inside.msize; fids = c.session.inside.fids.fids }) is)

pub end_walk-requires-clause-room : goal.end_walk-requires-clause-room
end_walk-requires-clause-room g c =
    let held : Fid = record {
      user = c.held.inside.user;
      trail = trail_of c.held.inside.channels;
      opened = c.held.inside.opened;
    } in
    let its : Some held ≡ fid_at c.args.fid c.session.inside.fids.fids =
    ap (λ (h : Held). Some h.fid) c.held.view_is
    ∙ ap (λ o. option_map fid_of (option_copied o)) (sym c.unwrap-held.ensures)
    ∙ c.get.ensures.fid in
    let there =
    rw (← c.session.view_is) at (still-there c.args.setting.now.table c.args.fid c.args.newfid _
    c.args.room c.args.session.now.session c.requires.room) in
    let same : c.requires.room.v ≡ held = found-same held c.requires.room.v _ its there in
    fewer-places c.args.setting.now.table c.args.fid c.args.newfid _ _ c.args.room _ _ c.requires.room
    (subst (λ (v : Fid). length c.walk_along-walked.result.walked.trail
    ≤ most_places (length c.args.names.now) v.trail) (sym same) c.walk_along-walked.ensures.few)

pub returns-clause-answer : goal.returns-clause-answer
returns-clause-answer g c =
    let held : Fid = record {
      user = c.held.inside.user;
      trail = trail_of c.held.inside.channels;
      opened = c.held.inside.opened;
    } in
    let session : Session = record { msize = c.session.inside.msize; fids = c.session.inside.fids.fids } in
    let is = rw (← c.session.view_is) at c.requires.room in
    let its : Some held ≡ fid_at c.args.fid c.session.inside.fids.fids =
    ap (λ (h : Held). Some h.fid) c.held.view_is
    ∙ ap (λ o. option_map fid_of (option_copied o)) (sym c.unwrap-held.ensures)
    ∙ c.get.ensures.fid in
    let there =
    still-there c.args.setting.now.table c.args.fid c.args.newfid _ c.args.room session is in
    let same : is.v ≡ held = found-same held is.v _ its there in
    let before = unreserved (Some c.args.room) c.args.newfid session in
    let walk : c.walk_along-walked.result.walked
    ≡ walked c.args.setting.now c.args.forest.now is.v.user is.v.trail c.args.names.now =
    c.walk_along-walked.ensures.walked
    ∙ ap (λ (v : Fid). walked c.args.setting.now c.args.forest.now v.user v.trail c.args.names.now)
    (sym same) in
    let goes =
    walk_answer-goes c.args.setting.now c.args.forest.now before c.args.fid c.args.newfid
    c.args.names.now is.v is.v is.found (rw is.closed refl) is.free refl in
    rw (← c.session.view_is, goes, ← walk)
    (rw (← c.session.view_is) at (c.end_walk.ensures.answer is.v
    (rw (← c.session.view_is) is.found) c.args.forest.now))
