use Rattle.std.proofs.Common.{◌≡◌, ◌≤◌, ◌++◌, List, ℕ, arith, length, take, drop, min, sym, ap}
use Rattle.std.proofs.Common.{append_assoc, refl, ◌∙◌}
use Rattle.std.proofs.lemmas.List.{length-take-le, take_at}
use Rattle.std.proofs.lemmas.Result.{err_from_is_err_and}
use Rattle.p9_base.specs.declared.node_ref.NodeRef.{NodeRef}
use Rattle.p9_tree.specs.Bytes.{put_front, read_from}
use Rattle.p9_tree.specs.Forest.{forest_changed_at, node_of}
use Rattle.p9_tree.specs.Node.{touched}
use Rattle.p9_fids.specs.Fid.{changed_fid, fid_at, opened_as}
use Rattle.p9_step.specs.State.{iounit_of}
use Rattle.p9_step.specs.Read.{readable}
use Rattle.p9_walks.proofs.DirectoryReads.{IsReadable, dir_read, dir_refused, reads_file}
use Rattle.p9_walks.proofs.read.read.Goals as goal

-- what was put at the front of a buffer, before what stands behind it
front-read : (given sub rest : List ℕ) (size : ℕ) (buffer : List ℕ) → size ≡ length given
    → buffer ≡ put_front given sub → take size (buffer ++ rest) ≡ given
front-read given sub rest size buffer is filled =
    rw (filled, append_assoc) (take_at given (drop (length given) sub ++ rest) size (sym is))

pub returns-in_err-listed-clause-answer : goal.returns-in_err-listed-clause-answer
returns-in_err-listed-clause-answer g c =
    let forest = c.args.forest.now in
    let s = c.args.session.now.session in
    let r : IsReadable c.args.setting.now forest s c.args.wanted.fid c.in-Some.held.now.fid
    c.in-Some-readable.opened c.in-Some-node.file.now = record {
      there = sym (ap (λ s. fid_at c.args.wanted.fid s.session.fids) c.session.view_is) ∙ sym c.in-Some.ensures.fid;
      open_as = sym (ap (λ w. readable w.fid.opened) c.held.view_is) ∙ sym c.in-Some-readable.ensures;
      alive =
          sym (ap (λ (at : NodeRef). node_of at forest) c.file-at.ensures)
          ∙ sym c.in-Some-node.ensures;
    } in
    let room_is : c.min-room.result ≡ min c.args.wanted.count (iounit_of s) =
    c.min-room.ensures ∙ ap (min c.args.wanted.count) c.iounit.ensures in
    let enough = c.requires.room in
    let fits : c.min-room.result ≤ length c.args.buffer.now = omega (arith, room_is, enough) in
    let long : length (take c.min-room.result c.args.buffer.now) ≡ c.min-room.result =
    length-take-le c.min-room.result c.args.buffer.now fits in
    let size = length (take c.min-room.result c.args.buffer.now) in
    let p = err_from_is_err_and c.from_residual.result c.from_residual.ensures.1 in
    dir_refused c.args.setting.now forest s c.args.clock c.args.wanted.fid c.args.wanted.offset
    c.args.wanted.count c.in-Some.held.now.fid c.in-Some-readable.opened c.in-Some-node.file.now r
    size p.0 c.from_residual.result
    (c.list_of.new.buffer ++ drop c.min-room.result c.args.buffer.now)
    (sym c.is_dir.ensures ∙ c.if-is_dir.true) (long ∙ room_is)
    (rw p.2 (c.in_err-listed.ensures.err s c.args.wanted.fid)) p.1

pub returns-in_ok-listed-clause-answer : goal.returns-in_ok-listed-clause-answer
returns-in_ok-listed-clause-answer g c =
    let forest = c.args.forest.now in
    let s = c.args.session.now.session in
    let r : IsReadable c.args.setting.now forest s c.args.wanted.fid c.in-Some.held.now.fid
    c.in-Some-readable.opened c.in-Some-node.file.now = record {
      there = sym (ap (λ s. fid_at c.args.wanted.fid s.session.fids) c.session.view_is) ∙ sym c.in-Some.ensures.fid;
      open_as = sym (ap (λ w. readable w.fid.opened) c.held.view_is) ∙ sym c.in-Some-readable.ensures;
      alive =
          sym (ap (λ (at : NodeRef). node_of at forest) c.file-at.ensures)
          ∙ sym c.in-Some-node.ensures;
    } in
    let room_is : c.min-room.result ≡ min c.args.wanted.count (iounit_of s) =
    c.min-room.ensures ∙ ap (min c.args.wanted.count) c.iounit.ensures in
    let enough = c.requires.room in
    let fits : c.min-room.result ≤ length c.args.buffer.now = omega (arith, room_is, enough) in
    let long : length (take c.min-room.result c.args.buffer.now) ≡ c.min-room.result =
    length-take-le c.min-room.result c.args.buffer.now fits in
    let size = length (take c.min-room.result c.args.buffer.now) in
    let short = c.in_ok-listed.ensures.size in
    let kept = c.list_of.auto.buffer in
    let within : c.in_ok-listed.listed.size ≤ length c.list_of.new.buffer = omega (arith, short, kept) in
    let fids_are : c.set_opened.new.self.fids
    ≡ changed_fid c.args.wanted.fid (opened_as c.in_ok-listed.listed.opened) c.session.inside.fids.fids =
    c.set_opened.ensures.opened in
    let went : record { msize = c.session.inside.msize; fids = c.set_opened.new.self.fids }
    ≡ record s { fids = changed_fid c.args.wanted.fid (opened_as c.in_ok-listed.listed.opened) s.fids } =
    rw (← c.session.view_is, fids_are) refl in
    dir_read c.args.setting.now forest s c.args.clock c.args.wanted.fid c.args.wanted.offset
    c.args.wanted.count c.in-Some.held.now.fid c.in-Some-readable.opened c.in-Some-node.file.now r
    size c.in_ok-listed.listed.size c.in_ok-listed.listed.opened c.list_of.new.buffer
    (drop c.min-room.result c.args.buffer.now) _
    (sym c.is_dir.ensures ∙ c.if-is_dir.true) (long ∙ room_is) within
    (c.in_ok-listed.ensures.ok s c.args.wanted.fid) went

pub returns-else-is_dir-clause-answer : goal.returns-else-is_dir-clause-answer
returns-else-is_dir-clause-answer g c =
    let forest = c.args.forest.now in
    let r : IsReadable c.args.setting.now forest c.args.session.now.session c.args.wanted.fid c.in-Some.held.now.fid
    c.in-Some-readable.opened c.in-Some-node.file.now = record {
      there = sym (ap (λ s. fid_at c.args.wanted.fid s.session.fids) c.session.view_is) ∙ sym c.in-Some.ensures.fid;
      open_as = sym (ap (λ w. readable w.fid.opened) c.held.view_is) ∙ sym c.in-Some-readable.ensures;
      alive =
          sym (ap (λ (at : NodeRef). node_of at forest) c.file-at.ensures)
          ∙ sym c.in-Some-node.ensures;
    } in
    let room_is : c.min-room.result ≡ min c.args.wanted.count (iounit_of c.args.session.now.session) =
    c.min-room.ensures ∙ ap (min c.args.wanted.count) c.iounit.ensures in
    let enough = c.requires.room in
    let fits : c.min-room.result ≤ length c.args.buffer.now = omega (arith, room_is, enough) in
    let long : length (take c.min-room.result c.args.buffer.now) ≡ c.min-room.result =
    length-take-le c.min-room.result c.args.buffer.now fits in
    let given = read_from c.args.wanted.offset (length (take c.min-room.result c.args.buffer.now))
    c.in-Some-node.file.now.bytes in
    reads_file c.args.setting.now forest c.args.session.now.session c.args.clock c.args.wanted.fid c.args.wanted.offset
    c.args.wanted.count c.in-Some.held.now.fid c.in-Some-readable.opened c.in-Some-node.file.now r
    (length (take c.min-room.result c.args.buffer.now)) c.read_into-size.result
    (c.read_into-size.new.buffer ++ drop c.min-room.result c.args.buffer.now)
    c.touch.new.self
    (sym c.is_dir.ensures ∙ c.if-is_dir.false) (long ∙ room_is)
    (front-read given (take c.min-room.result c.args.buffer.now) _ _ _
    c.read_into-size.ensures.count c.read_into-size.ensures.filled)
    (c.touch.ensures
    ∙ ap (λ (at : NodeRef). forest_changed_at at (touched c.args.clock) forest) c.file-at.ensures)
