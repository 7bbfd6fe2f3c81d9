use Rattle.std.proofs.Common.{None, Some, refl, sym, ◌∙◌}
use Rattle.std.proofs.lemmas.Result.{err_from_is_err_and}
use Rattle.p9_space.specs.Rights.{who_view}
use Rattle.p9_requests.specs.Wstat.{touched_view}
use Rattle.p9_requests.proofs.Wstats.{behind-length, comes_refused, comes_through, length-refuses}
use Rattle.p9_requests.proofs.Wstats.{passes, refuses, same-change}
use Rattle.p9_requests.proofs.wstat.change_wanted.Goals as goal

pub returns-in_err-length : goal.returns-in_err-length
returns-in_err-length g c =
    let r = c.from_residual-in_err-length in
    let p = err_from_is_err_and r.result r.ensures.1 in
    comes_refused _ _ r.result c.in_err-length.field-0.0 p.0
    (length-refuses (who_view c.args.who) c.args.forest.now c.args.at c.args.file.now
    (touched_view c.args.touched.now) (passes _ _ _ c.in_ok-mode.ensures).0
    (passes _ _ _ c.in_ok-name.ensures).0 c.in_err-length.field-0.0
    (refuses _ _ _ c.in_err-length.ensures)) p.1 p.2

pub returns-in-Some : goal.returns-in-Some
returns-in-Some g c =
    comes_refused _ _ _ c.in-Some.fault c.in-Some.fault
    (behind-length (who_view c.args.who) c.args.forest.now c.args.at c.args.file.now
    (touched_view c.args.touched.now) (passes _ _ _ c.in_ok-mode.ensures).0
    (passes _ _ _ c.in_ok-name.ensures).0 (Some c.in-Some.fault)
    (passes _ _ _ c.in_ok-length.ensures).0 c.in-Some.ensures) refl refl

pub returns-in_err-gid : goal.returns-in_err-gid
returns-in_err-gid g c =
    let r = c.from_residual-in_err-gid in
    let p = err_from_is_err_and r.result r.ensures.1 in
    let tested =
    behind-length (who_view c.args.who) c.args.forest.now c.args.at c.args.file.now
    (touched_view c.args.touched.now) (passes _ _ _ c.in_ok-mode.ensures).0
    (passes _ _ _ c.in_ok-name.ensures).0 None (passes _ _ _ c.in_ok-length.ensures).0
    (sym c.in_default.is ∙ c.ruling_fault.ensures) in
    comes_refused _ _ r.result c.in_err-gid.field-0.0 p.0
    (tested ∙ refuses _ _ _ c.in_err-gid.ensures) p.1 p.2

pub returns : goal.returns
returns g c =
    let mode = passes _ _ _ c.in_ok-mode.ensures in
    let name = passes _ _ _ c.in_ok-name.ensures in
    let length = passes _ _ _ c.in_ok-length.ensures in
    let gid = passes _ _ _ c.in_ok-gid.ensures in
    let tested =
    behind-length (who_view c.args.who) c.args.forest.now c.args.at c.args.file.now
    (touched_view c.args.touched.now) mode.0 name.0 None length.0
    (sym c.in_default.is ∙ c.ruling_fault.ensures) in
    comes_through _ _ _ (tested ∙ gid.0)
    (same-change _ _ _ _ _ _ _ _ _ _ _ name.1 mode.1 gid.1 length.1)
