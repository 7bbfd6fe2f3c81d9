use Rattle.std.proofs.Common.{◌≡◌, Some, true, refl, sym, ap, ◌∙◌}
use Rattle.std.proofs.lemmas.Result.{err_from_is_err_and}
use Rattle.p9_tree.specs.Bytes.{overwritten}
use Rattle.p9_tree.specs.Forest.{forest_changed_at, node_of}
use Rattle.p9_tree.specs.Node.{marked, with_bytes}
use Rattle.p9_wire.specs.Message.{Rwrite}
use Rattle.p9_fids.specs.Fid.{fid_at}
use Rattle.p9_step.specs.State.{fid_ref}
use Rattle.p9_step.specs.Write.{is_writable}
use Rattle.p9_step.proofs.Fids.{AreWellOpen-fid_at}
use Rattle.p9_requests.proofs.Writes.{memory_refused, writable_file, write-did, write_answer-done}
use Rattle.p9_requests.proofs.write.write.Goals as goal

pub write-requires-clause-file : goal.write-requires-clause-file
write-requires-clause-file g c =
    let forest = c.args.forest.now in
    let v = c.in-Some.held.now.fid in
    let found : fid_at c.args.fid c.args.session.now.session.fids ≡ Some v =
    rw (← c.session.view_is) (sym c.in-Some.ensures.fid) in
    let there : node_of (fid_ref c.args.setting.now.table v) forest ≡ Some c.in-Some-node.file.now =
    rw (← c.file-at.ensures) (sym c.in-Some-node.ensures) in
    let opens : is_writable v ≡ true = sym c.is_writable.ensures ∙ c.if-not-is_writable.false in
    rw c.file-at.ensures
    (writable_file c.args.setting.now.table forest v c.in-Some-node.file.now there
    (AreWellOpen-fid_at c.args.setting.now.table forest c.args.session.now.session.fids c.args.fid v
    c.requires.opened found) opens)

pub returns-in_err-write : goal.returns-in_err-write
returns-in_err-write g c =
    let forest = c.args.forest.now in
    let v = c.in-Some.held.now.fid in
    let found : fid_at c.args.fid c.args.session.now.session.fids ≡ Some v =
    rw (← c.session.view_is) (sym c.in-Some.ensures.fid) in
    let opens : is_writable v ≡ true = sym c.is_writable.ensures ∙ c.if-not-is_writable.false in
    let done =
    write_answer-done c.args.setting.now forest c.args.session.now.session c.args.clock c.args.fid
    c.args.offset c.args.bytes.now v c.in-Some-node.file.now c.file-at.result
    c.write_offset-place.result c.file-at.ensures c.write_offset-place.ensures found opens
    (sym c.in-Some-node.ensures) (sym c.is_empty.ensures ∙ c.if-is_empty.false)
    (sym c.fits_file.ensures ∙ c.if-not-fits_file.false) in
    let refused = err_from_is_err_and c.from_residual.result c.from_residual.ensures.1 in
    memory_refused Rwrite _ _ forest c.write.new.self
    c.args.session.now.session c.args.session.now.session c.from_residual.result refused.0 done refused.1
    refused.2 c.in_err-write.ensures.err refl

pub returns : goal.returns
returns g c =
    let forest = c.args.forest.now in
    let v = c.in-Some.held.now.fid in
    let found : fid_at c.args.fid c.args.session.now.session.fids ≡ Some v =
    rw (← c.session.view_is) (sym c.in-Some.ensures.fid) in
    let opens : is_writable v ≡ true = sym c.is_writable.ensures ∙ c.if-not-is_writable.false in
    let done =
    write_answer-done c.args.setting.now forest c.args.session.now.session c.args.clock c.args.fid
    c.args.offset c.args.bytes.now v c.in-Some-node.file.now c.file-at.result
    c.write_offset-place.result c.file-at.ensures c.write_offset-place.ensures found opens
    (sym c.in-Some-node.ensures) (sym c.is_empty.ensures ∙ c.if-is_empty.false)
    (sym c.fits_file.ensures ∙ c.if-not-fits_file.false) in
    let new = c.bump.new.self in
    let bumped =
    c.bump.ensures
    ∙ ap (forest_changed_at c.file-at.result (marked c.held.inside.user c.args.clock))
    c.in_ok-write.ensures.ok in
    let changed : new ≡ forest_changed_at c.file-at.result (marked v.user c.args.clock)
    (forest_changed_at c.file-at.result
    (with_bytes (overwritten c.write_offset-place.result c.args.bytes.now)) forest) = rw
    (← c.held.view_is) bumped in
    write-did _ forest new c.args.session.now.session c.args.clock c.args.bytes.now v c.file-at.result
    c.write_offset-place.result done changed
