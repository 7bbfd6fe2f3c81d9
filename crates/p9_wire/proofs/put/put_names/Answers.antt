use Rattle.std.proofs.Common.{[], length, arith}
use Rattle.std.proofs.lemmas.Option.{get_or_from_slice_get, slice_get_within}
use Rattle.p9_wire.specs.Fields.{number, text}
use Rattle.p9_wire.proofs.Items.{names-more, puts_more, text_at_index}
use Rattle.p9_wire.proofs.put.put_names.Goals as goal

pub put_text-end-requires-clause-room : goal.put_text-end-requires-clause-room
put_text-end-requires-clause-room c =
    let more =
    names-more c.args.names.now c.loop-name.name-index _
    (text_at_index c.as_slice-items.result.now c.args.names.now c.loop-name.name-index
    c.as_slice-items.ensures.names c.loop-name-test.true) in
    omega (arith, more.0, more.1, c.loop-name.invariant.next, c.requires.room)

pub put_text-end-requires-clause-short : goal.put_text-end-requires-clause-short
put_text-end-requires-clause-short c =
    let found =
    text_at_index c.as_slice-items.result.now c.args.names.now c.loop-name.name-index
    c.as_slice-items.ensures.names c.loop-name-test.true in
    let within = slice_get_within c.args.names.now c.loop-name.name-index _ found in
    rw (get_or_from_slice_get c.args.names.now c.loop-name.name-index _ [] found)
    at (c.requires.short c.loop-name.name-index [] within)

pub loop-name-preserved : goal.loop-name-preserved
loop-name-preserved c =
    let found =
    text_at_index c.as_slice-items.result.now c.args.names.now c.loop-name.name-index
    c.as_slice-items.ensures.names c.loop-name-test.true in
    let more = names-more c.args.names.now c.loop-name.name-index _ found in
    record {
      counted = c.loop-name.invariant.counted;
      next = omega (arith, more.0, c.loop-name.invariant.next, c.put_text-end.ensures.next);
      puts =
          puts_more text (number 2 (length c.args.names.now)) c.args.names.now
          c.loop-name.name-index _ _ _ _ _ _ _ found c.loop-name.invariant.puts
          c.put_text-end.ensures.bytes;
    }
