use Rattle.std.proofs.Common.{◌≡◌, ◌∙◌, ◌++◌, ◌∷◌, [], inl, inr, refl, sym}
use Rattle.std.proofs.lemmas.Result.{err_from_is_err_and}
use Rattle.p9_tree.specs.New.{new_node}
use Rattle.p9_space.specs.Channel.{trail_of}
use Rattle.p9_step.specs.Create.{created}
use Rattle.p9_requests.proofs.Creates.{in-done, in-missing, in-refused, plan-adds, plan-is}
use Rattle.p9_requests.proofs.create.plan_in.Goals as goal

pub returns-clause-adds : goal.returns-clause-adds
returns-clause-adds g c =
    let forest = c.args.forest.now in
    let v = c.args.held.now.fid in
    let dir = c.in-Some.dir.now in
    let made : new_node 0 dir.number c.new_in.result
    ≡ created v.user c.args.clock 0 dir c.args.asked.name c.args.asked.mode = rw (← c.held.view_is)
    c.new_in.ensures in
    plan-adds c.args.setting.now forest v c.args.clock c.args.asked c.args.target dir c.in_ok-place.place
    c.new_in.result (sym c.in-Some.ensures) (sym c.in_ok-place.ensures) made

pub returns-clause-ok : goal.returns-clause-ok
returns-clause-ok g c =
    let forest = c.args.forest.now in
    let v = c.args.held.now.fid in
    let dir = c.in-Some.dir.now in
    let made : new_node 0 dir.number c.new_in.result
    ≡ created v.user c.args.clock 0 dir c.args.asked.name c.args.asked.mode = rw (← c.held.view_is)
    c.new_in.ensures in
    let longer : trail_of c.in_ok-channels.channels ≡ v.trail ++ c.in_ok-place.place ∷ [] =
    rw (← c.held.view_is) c.in_ok-channels.ensures.trail in
    plan-is c.args.setting.now forest v c.args.clock c.args.asked c.args.target dir c.in_ok-place.place
    c.new_in.result (sym c.in-Some.ensures) (sym c.in_ok-place.ensures) made
    (trail_of c.in_ok-channels.channels) longer

pub returns-in_default-clause-err : goal.returns-in_default-clause-err
returns-in_default-clause-err g c =
    λ session fid. inl (in-missing c.args.setting.now c.args.forest.now session c.args.clock fid
    c.args.held.now.fid c.args.asked c.args.target (sym c.in_default.ensures))

pub returns-in_err-place-clause-err : goal.returns-in_err-place-clause-err
returns-in_err-place-clause-err g c =
    let p = err_from_is_err_and c.from_residual.result c.from_residual.ensures.1 in
    λ session fid. rw (p.1, p.2)
    (inl (in-refused c.args.setting.now c.args.forest.now session c.args.clock fid
    c.args.held.now.fid c.args.asked c.args.target c.in-Some.dir.now (sym c.in-Some.ensures)
    c.in_err-place.field-0.0 (sym c.place_in.ensures ∙ c.in_err-place.was)))

pub returns-in_err-channels-clause-err : goal.returns-in_err-channels-clause-err
returns-in_err-channels-clause-err g c =
    let r = c.from_residual-in_err-channels in
    let p = err_from_is_err_and r.result r.ensures.1 in
    λ session fid. rw (p.1, p.2)
    (inr (
      refl,
      in-done c.args.setting.now c.args.forest.now session c.args.clock fid
          c.args.held.now.fid c.args.asked c.args.target c.in-Some.dir.now (sym c.in-Some.ensures)
          c.in_ok-place.place (sym c.in_ok-place.ensures),
    ))
