use Rattle.std.proofs.Common.{◌≡◌, ◌∙◌, List, [], Some, Ok, ap, inl, refl, sym, true}
use Rattle.std.specs.Option.{option_copied, option_map}
use Rattle.p9_wire.specs.Message.{Rattach}
use Rattle.p9_space.specs.Channel.{trail_of}
use Rattle.p9_fids.specs.Fid.{Fid, FidRow, changed_fid, fid_at, trailed}
use Rattle.p9_fids.specs.Held.{Held, fid_of}
use Rattle.p9_step.specs.Attach.{attach_answer, attached}
use Rattle.p9_step.specs.State.{Session}
use Rattle.p9_walks.specs.Reserved.{unkept}
use Rattle.p9_requests.proofs.Attaches.{attach-goes, attach-rests, attach-there}
use Rattle.p9_walks.proofs.Reserved.{found-same, found-some}
use Rattle.p9_requests.proofs.attach.attach_into.Goals as goal

pub unwrap-requires : goal.unwrap-requires
unwrap-requires g c =
    let there =
    rw (← c.session.view_is) at (attach-there c.args.setting.now c.args.forest.now
    c.args.session.now.session c.args.fid c.args.afid c.args.uname.now c.args.aname.now _
    c.requires.room) in
    found-some c.get.result _ (c.get.ensures.fid ∙ there)

pub follow-requires-clause-room : goal.follow-requires-clause-room
follow-requires-clause-room g c =
    let there =
    rw (← c.session.view_is) at (attach-there c.args.setting.now c.args.forest.now
    c.args.session.now.session c.args.fid c.args.afid c.args.uname.now c.args.aname.now _
    c.requires.room) in
    rw (there, c.at.ensures.trail) c.requires.room.keeps.room

pub returns-in-Ok-clause-answer : goal.returns-in-Ok-clause-answer
returns-in-Ok-clause-answer g c =
    let setting = c.args.setting.now in
    let forest = c.args.forest.now in
    let is = c.requires.room in
    let before = unkept true c.args.fid c.args.session.now.session in
    let held : Fid = record {
      user = c.behind-get.inside.user;
      trail = trail_of c.behind-get.inside.channels;
      opened = c.behind-get.inside.opened;
    } in
    let its : Some held ≡ fid_at c.args.fid c.session.inside.fids.fids =
    ap (λ (h : Held). Some h.fid) c.behind-get.view_is
    ∙ ap (λ o. option_map fid_of (option_copied o)) (sym c.unwrap.ensures)
    ∙ c.get.ensures.fid in
    let there =
    rw (← c.session.view_is) at (attach-there setting forest
    c.args.session.now.session c.args.fid c.args.afid c.args.uname.now c.args.aname.now _ is) in
    let user : is.user ≡ held.user =
    ap (λ (v : Fid). v.user) (found-same held _ _ its there) in
    let answer : attach_answer setting forest before c.args.fid c.args.afid c.args.uname.now c.args.aname.now
    ≡ Ok (record {
      changes = [];
      session = attached c.args.fid is.user c.in-Ok.place before;
      reply = Rattach c.in-Ok.qid;
    }) =
    attach-rests setting forest c.args.session.now.session c.args.fid c.args.afid c.args.uname.now
    c.args.aname.now _ is
    ∙ rw user (c.in-Ok.ensures.ok c.args.aname.now is.cleaned before c.args.fid) in
    let goes =
    rw (← c.session.view_is) at (attach-goes setting forest c.args.session.now.session
    c.args.fid c.args.afid c.args.uname.now c.args.aname.now _ is c.in-Ok.place) in
    let moved : record { msize = c.session.inside.msize; fids = c.follow.new.self.fids }
    ≡ attached c.args.fid is.user c.in-Ok.place before =
    ap (λ (fids : List FidRow). record { msize = c.session.inside.msize; fids = fids })
    (c.follow.ensures.moved
    ∙ ap (λ trail. changed_fid c.args.fid (trailed trail) c.session.inside.fids.fids)
    c.at.ensures.trail)
    ∙ rw (← c.session.view_is) goes in
    rw answer (
      ap (λ (s : Session). Ok (record { changes = []; session = s; reply = Rattach c.in-Ok.qid })) (sym moved),
      refl,
    )

pub returns-in-Err-clause-answer : goal.returns-in-Err-clause-answer
returns-in-Err-clause-answer g c =
    let setting = c.args.setting.now in
    let forest = c.args.forest.now in
    let is = c.requires.room in
    let before = unkept true c.args.fid c.args.session.now.session in
    let held : Fid = record {
      user = c.behind-get.inside.user;
      trail = trail_of c.behind-get.inside.channels;
      opened = c.behind-get.inside.opened;
    } in
    let its : Some held ≡ fid_at c.args.fid c.session.inside.fids.fids =
    ap (λ (h : Held). Some h.fid) c.behind-get.view_is
    ∙ ap (λ o. option_map fid_of (option_copied o)) (sym c.unwrap.ensures)
    ∙ c.get.ensures.fid in
    let there =
    rw (← c.session.view_is) at (attach-there setting forest
    c.args.session.now.session c.args.fid c.args.afid c.args.uname.now c.args.aname.now _ is) in
    let user : is.user ≡ held.user =
    ap (λ (v : Fid). v.user) (found-same held _ _ its there) in (
      inl (attach-rests setting forest c.args.session.now.session c.args.fid c.args.afid
          c.args.uname.now c.args.aname.now _ is
          ∙ rw user (c.in-Err.ensures.err c.args.aname.now is.cleaned before c.args.fid)),
      refl,
      rw (← c.session.view_is)
          (ap (λ (fids : List FidRow). record { msize = c.session.inside.msize; fids = fids })
          c.take.ensures.after),
    )
