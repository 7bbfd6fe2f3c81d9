use Rattle.std.proofs.Common.{◌+◌, length, arith}
use Rattle.std.proofs.lemmas.List.Sums.{sum_by-take-le}
use Rattle.p9_wire.proofs.Items.{names-more, text_at_index}
use Rattle.p9_wire.proofs.Lengths.{length-names-fits}
use Rattle.p9_wire.proofs.fits.names_size.Goals as goal

pub overflow_add-size-in-loop-name : goal.overflow_add-size-in-loop-name
overflow_add-size-in-loop-name c =
    let more =
    names-more c.args.names.now c.loop-name.name-index _
    (text_at_index c.as_slice-name-items.result.now c.args.names.now c.loop-name.name-index
    c.as_slice-name-items.ensures.names c.loop-name-test.true) in
    omega (
      arith,
      more.0,
      more.1,
      c.loop-name.invariant,
      length-names-fits c.args.names.now
          c.requires.each,
      c.requires.few,
    )

pub loop-name-preserved : goal.loop-name-preserved
loop-name-preserved c =
    let more =
    names-more c.args.names.now c.loop-name.name-index _
    (text_at_index c.as_slice-name-items.result.now c.args.names.now c.loop-name.name-index
    c.as_slice-name-items.ensures.names c.loop-name-test.true) in
    omega (arith, more.0, c.loop-name.invariant)

pub returns-clause-small : goal.returns-clause-small
returns-clause-small c =
    omega (
      arith,
      sum_by-take-le (λ n. 2 + length n) c.args.names.now c.loop-name.name-index,
      c.loop-name.invariant,
      length-names-fits c.args.names.now c.requires.each,
      c.requires.few,
    )
