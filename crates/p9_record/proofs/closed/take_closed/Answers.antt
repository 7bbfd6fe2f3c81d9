use Rattle.std.proofs.Common.{◌≡◌, true, false, Some, sym, ap, ◌∙◌, arith}
use Rattle.std.specs.Str.{bytes_eq}
use Rattle.std.proofs.lemmas.Bool.{not-false, not-true}
use Rattle.p9_tree.specs.ForestChange.{forest_edit_of}
use Rattle.p9_wire.specs.Frame.{IsBytes}
use Rattle.p9_record.proofs.Checksums.{all_bytes, closed_if, read_front}
use Rattle.p9_record.proofs.closed.take_closed.Goals as goal

pub slice_bounds-spelling-count : goal.slice_bounds-spelling-count
slice_bounds-spelling-count c =
    let bytes : IsBytes c.args.bytes.now = all_bytes c.args.bytes.now c.type_inv.bytes in
    (read_front c.args.bytes.now (forest_edit_of c.in-Some.change) c.in-Some.rest.now bytes c.in-Some.ensures).0

pub returns-then-ne : goal.returns-then-ne
returns-then-ne c =
    let bytes : IsBytes c.args.bytes.now = all_bytes c.args.bytes.now c.type_inv.bytes in
    let other : bytes_eq c.split_at.result.0.now c.as_slice.result.now ≡ false =
    not-true _ (sym c.ne.ensures ∙ c.if-ne.true) in
    closed_if c.args.bytes.now (forest_edit_of c.in-Some.change) c.in-Some.rest.now c.split_at.result.0.now
    c.as_slice.result.now false bytes c.in-Some.ensures (omega (arith, c.if-rest-lt-CHECKSUM_LEN.false))
    c.split_at.ensures.front (c.as_slice.ensures ∙ c.checksum.ensures) other

pub returns : goal.returns
returns c =
    let bytes : IsBytes c.args.bytes.now = all_bytes c.args.bytes.now c.type_inv.bytes in
    let same : bytes_eq c.split_at.result.0.now c.as_slice.result.now ≡ true =
    not-false _ (sym c.ne.ensures ∙ c.if-ne.false) in
    closed_if c.args.bytes.now (forest_edit_of c.in-Some.change) c.in-Some.rest.now c.split_at.result.0.now
    c.as_slice.result.now true bytes c.in-Some.ensures (omega (arith, c.if-rest-lt-CHECKSUM_LEN.false))
    c.split_at.ensures.front (c.as_slice.ensures ∙ c.checksum.ensures) same
    ∙ ap (λ after. Some (forest_edit_of c.in-Some.change, after)) (sym c.split_at.ensures.back)
