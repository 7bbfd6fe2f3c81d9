use Rattle.std.proofs.Common.{◌≡◌, Ok, Err, Some, None, true, false, refl, sym, subst, ap, ◌∙◌}
use Rattle.std.proofs.lemmas.Result.{err_from_is_err_and}
use Rattle.p9_base.specs.Results.{unless}
use Rattle.p9_space.specs.Rights.{Who}
use Rattle.p9_tree.specs.declared.change.Change.{Change}
use Rattle.p9_tree.specs.Change.{changed}
use Rattle.p9_tree.specs.Forest.{forest_changed_at}
use Rattle.p9_wire.specs.Stat.{StatFields, stat_view}
use Rattle.p9_wire.specs.Message.{Rwstat}
use Rattle.p9_fids.specs.Fid.{fid_at}
use Rattle.p9_step.specs.ForestChange.{all_applied}
use Rattle.p9_step.specs.End.{parent_marked}
use Rattle.p9_step.specs.Qid.{stat_of}
use Rattle.p9_step.specs.State.{who_of}
use Rattle.p9_requests.specs.Wstat.{touched_view}
use Rattle.p9_step.specs.Wstat.{Touched, is_any, node_change, touched_of}
use Rattle.p9_step.specs.Wstat.{touches_fixed, wstat_fault}
use Rattle.p9_walks.proofs.Places.{node_of-below}
use Rattle.p9_requests.proofs.Writes.{memory_refused}
use Rattle.p9_step.proofs.Permits.{can_change, nothing_refuses}
use Rattle.p9_requests.proofs.Wstats.{not_refused, passes, refuses, wstat-did, wstat-idle}
use Rattle.p9_requests.proofs.Wstats.{wstat-refused, wstat_answer-tested}
use Rattle.p9_requests.proofs.wstat.wstat.Goals as goal

pub stat_of-there-requires : goal.stat_of-there-requires
stat_of-there-requires g c =
    node_of-below _ c.file-at.result c.in-Some-node.file.now c.well_formed-2.ensures
    (sym c.in-Some-node.ensures)

pub change-requires : goal.change-requires
change-requires g c =
    let forest = c.args.forest.now in
    let n = c.in-Some-node.file.now in
    let at = c.file-at.result in
    let t : Touched = touched_view c.touched_of-touched.result in
    let told = subst (λ (w : Who). Ok c.in_ok-change.change ≡ unless (wstat_fault w forest at n t)
    (Ok (node_change w.user c.args.clock t))) c.who.ensures c.in_ok-change.ensures in
    let let_through = passes _ _ _ told in
    let permits =
    nothing_refuses (who_of c.args.setting.now c.held.inside.user) forest at n t let_through.0 in
    rw let_through.1
    (can_change (who_of c.args.setting.now c.held.inside.user) forest at n t permits c.args.clock c.well_formed-2.ensures
    (sym c.in-Some-node.ensures))

pub returns-in_err-change : goal.returns-in_err-change
returns-in_err-change g c =
    let forest = c.args.forest.now in
    let n = c.in-Some-node.file.now in
    let at = c.file-at.result in
    let t : Touched = touched_view c.touched_of-touched.result in
    let told = subst (λ (w : Who). Err c.in_err-change.field-0.0 ≡ unless (wstat_fault w forest at n t)
    (Ok (node_change w.user c.args.clock t))) c.who.ensures c.in_err-change.ensures in
    let v = c.in-Some.held.now.fid in
    let wanted : StatFields = stat_view c.args.wanted.now in
    let held : fid_at c.args.fid c.args.session.now.session.fids ≡ Some v =
    rw (← c.session.view_is) (sym c.in-Some.ensures.fid) in
    let fixed : touches_fixed (stat_of at n) wanted ≡ false =
    ap (λ (s : StatFields). touches_fixed s wanted) (sym c.stat_of-there.ensures.value)
    ∙ (sym c.touches_fixed.ensures ∙ c.if-touches_fixed.false) in
    let t_is : t ≡ touched_of (stat_of at n) wanted =
    c.touched_of-touched.ensures
    ∙ ap (λ (s : StatFields). touched_of s wanted) c.stat_of-there.ensures.value in
    let tested =
    wstat_answer-tested c.args.setting.now forest c.args.session.now.session c.args.clock c.args.fid wanted
    v n at t c.file-at.ensures held (sym c.in-Some-node.ensures) fixed t_is in
    let some : wstat_fault (who_of c.args.setting.now v.user) forest at n t
    ≡ Some c.in_err-change.field-0.0 = rw (← c.held.view_is) (refuses _ _ _ told) in
    let p = err_from_is_err_and c.from_residual.result c.from_residual.ensures.1 in
    wstat-refused _ _ _ forest c.args.session.now.session c.from_residual.result
    c.in_err-change.field-0.0 p.0 tested some p.1 p.2

pub returns-then-not-is_any : goal.returns-then-not-is_any
returns-then-not-is_any g c =
    let forest = c.args.forest.now in
    let n = c.in-Some-node.file.now in
    let at = c.file-at.result in
    let t : Touched = touched_view c.touched_of-touched.result in
    let told = subst (λ (w : Who). Ok c.in_ok-change.change ≡ unless (wstat_fault w forest at n t)
    (Ok (node_change w.user c.args.clock t))) c.who.ensures c.in_ok-change.ensures in
    let v = c.in-Some.held.now.fid in
    let wanted : StatFields = stat_view c.args.wanted.now in
    let held : fid_at c.args.fid c.args.session.now.session.fids ≡ Some v =
    rw (← c.session.view_is) (sym c.in-Some.ensures.fid) in
    let fixed : touches_fixed (stat_of at n) wanted ≡ false =
    ap (λ (s : StatFields). touches_fixed s wanted) (sym c.stat_of-there.ensures.value)
    ∙ (sym c.touches_fixed.ensures ∙ c.if-touches_fixed.false) in
    let t_is : t ≡ touched_of (stat_of at n) wanted =
    c.touched_of-touched.ensures
    ∙ ap (λ (s : StatFields). touched_of s wanted) c.stat_of-there.ensures.value in
    let tested =
    wstat_answer-tested c.args.setting.now forest c.args.session.now.session c.args.clock c.args.fid wanted
    v n at t c.file-at.ensures held (sym c.in-Some-node.ensures) fixed t_is in
    let free : wstat_fault (who_of c.args.setting.now v.user) forest at n t ≡ None =
    rw (← c.held.view_is) (passes _ _ _ told).0 in
    let done = not_refused _ _ _ tested free in
    wstat-idle _ forest c.args.session.now.session v.user c.args.clock at n t done
    (sym c.is_any.ensures ∙ c.if-not-is_any.true)

pub returns-in_err-change-2 : goal.returns-in_err-change-2
returns-in_err-change-2 g c =
    let forest = c.args.forest.now in
    let n = c.in-Some-node.file.now in
    let at = c.file-at.result in
    let t : Touched = touched_view c.touched_of-touched.result in
    let told = subst (λ (w : Who). Ok c.in_ok-change.change ≡ unless (wstat_fault w forest at n t)
    (Ok (node_change w.user c.args.clock t))) c.who.ensures c.in_ok-change.ensures in
    let v = c.in-Some.held.now.fid in
    let wanted : StatFields = stat_view c.args.wanted.now in
    let held : fid_at c.args.fid c.args.session.now.session.fids ≡ Some v =
    rw (← c.session.view_is) (sym c.in-Some.ensures.fid) in
    let fixed : touches_fixed (stat_of at n) wanted ≡ false =
    ap (λ (s : StatFields). touches_fixed s wanted) (sym c.stat_of-there.ensures.value)
    ∙ (sym c.touches_fixed.ensures ∙ c.if-touches_fixed.false) in
    let t_is : t ≡ touched_of (stat_of at n) wanted =
    c.touched_of-touched.ensures
    ∙ ap (λ (s : StatFields). touched_of s wanted) c.stat_of-there.ensures.value in
    let tested =
    wstat_answer-tested c.args.setting.now forest c.args.session.now.session c.args.clock c.args.fid wanted
    v n at t c.file-at.ensures held (sym c.in-Some-node.ensures) fixed t_is in
    let free : wstat_fault (who_of c.args.setting.now v.user) forest at n t ≡ None =
    rw (← c.held.view_is) (passes _ _ _ told).0 in
    let done = not_refused _ _ _ tested free in
    let r = c.from_residual-in_err-change-2 in
    let refused = err_from_is_err_and r.result r.ensures.1 in
    memory_refused (λ _. Rwstat) _ _ forest c.change.new.self
    c.args.session.now.session c.args.session.now.session r.result refused.0 done refused.1
    refused.2 c.in_err-change-2.ensures.err refl

pub returns : goal.returns
returns g c =
    let forest = c.args.forest.now in
    let n = c.in-Some-node.file.now in
    let at = c.file-at.result in
    let t : Touched = touched_view c.touched_of-touched.result in
    let told = subst (λ (w : Who). Ok c.in_ok-change.change ≡ unless (wstat_fault w forest at n t)
    (Ok (node_change w.user c.args.clock t))) c.who.ensures c.in_ok-change.ensures in
    let v = c.in-Some.held.now.fid in
    let wanted : StatFields = stat_view c.args.wanted.now in
    let held : fid_at c.args.fid c.args.session.now.session.fids ≡ Some v =
    rw (← c.session.view_is) (sym c.in-Some.ensures.fid) in
    let fixed : touches_fixed (stat_of at n) wanted ≡ false =
    ap (λ (s : StatFields). touches_fixed s wanted) (sym c.stat_of-there.ensures.value)
    ∙ (sym c.touches_fixed.ensures ∙ c.if-touches_fixed.false) in
    let t_is : t ≡ touched_of (stat_of at n) wanted =
    c.touched_of-touched.ensures
    ∙ ap (λ (s : StatFields). touched_of s wanted) c.stat_of-there.ensures.value in
    let tested =
    wstat_answer-tested c.args.setting.now forest c.args.session.now.session c.args.clock c.args.fid wanted
    v n at t c.file-at.ensures held (sym c.in-Some-node.ensures) fixed t_is in
    let free : wstat_fault (who_of c.args.setting.now v.user) forest at n t ≡ None =
    rw (← c.held.view_is) (passes _ _ _ told).0 in
    let done = not_refused _ _ _ tested free in
    let some : is_any t ≡ true = sym c.is_any.ensures ∙ c.if-not-is_any.false in
    let middle = c.change.new.self in
    let new = c.mark_parent.new.forest in
    let made : middle ≡ forest_changed_at at
    (changed (node_change c.held.inside.user c.args.clock t)) forest = c.in_ok-change-2.ensures.ok
    ∙ ap (λ (d : Change). forest_changed_at at (changed d) forest) (passes _ _ _ told).1 in
    let change : middle ≡ forest_changed_at at (changed (node_change v.user c.args.clock t)) forest =
    rw (← c.held.view_is) made in
    let marked : new ≡ all_applied (parent_marked c.held.inside.user c.args.clock at n.parent)
    middle = c.mark_parent.ensures
    ∙ ap (λ p. all_applied (parent_marked c.held.inside.user c.args.clock at p) middle)
    c.parent-parent.ensures in
    let mark : new ≡ all_applied (parent_marked v.user c.args.clock at n.parent) middle =
    rw (← c.held.view_is) marked in
    wstat-did _ forest middle new c.args.session.now.session v.user c.args.clock at n t done some change mark
