use Rattle.std.proofs.Common.{◌≡◌, sym, ap, ◌∙◌}
use Rattle.std.proofs.lemmas.Slice.Eq.{bytes_eq-Decides}
use Rattle.p9_tree.specs.ForestChange.{forest_edit_of}
use Rattle.p9_wire.specs.Frame.{IsBytes}
use Rattle.p9_record.specs.Closed.{earlier_checksum}
use Rattle.p9_record.proofs.Checksums.{all_bytes, read_front}
use Rattle.p9_record.proofs.closed.is_earlier.Goals as goal

pub slice_bounds-spelling-count : goal.slice_bounds-spelling-count
slice_bounds-spelling-count c =
    let bytes : IsBytes c.args.bytes.now = all_bytes c.args.bytes.now c.type_inv.bytes in
    (read_front c.args.bytes.now (forest_edit_of c.in-Some._change) c.in-Some.rest.now bytes c.in-Some.ensures).0

pub returns : goal.returns
returns c = λ yes.
    let bytes : IsBytes c.args.bytes.now = all_bytes c.args.bytes.now c.type_inv.bytes in
    let same : c.split_at.result.0.now ≡ c.as_slice.result.now =
    (bytes_eq-Decides c.split_at.result.0.now c.as_slice.result.now).0 (sym c.eq.ensures ∙ yes) in
    record {
      edit = forest_edit_of c.in-Some._change;
      rest = c.in-Some.rest.now;
      read = c.in-Some.ensures;
      sum =
          sym c.split_at.ensures.front ∙ same ∙ c.as_slice.ensures ∙ c.earlier_checksum.ensures
          ∙ ap earlier_checksum
          (read_front c.args.bytes.now (forest_edit_of c.in-Some._change) c.in-Some.rest.now bytes c.in-Some.ensures).1;
    }
