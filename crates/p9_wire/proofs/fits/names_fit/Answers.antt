use Rattle.std.proofs.Common.{rules, sym, ◌∙◌}
use Rattle.p9_wire.specs.Fields.{FitsText}
use Rattle.p9_wire.proofs.Items.{each_at, each_more, text_at_index}
use Rattle.p9_wire.proofs.fits.names_fit.Goals as goal

pub returns-then-not-text_fits : goal.returns-then-not-text_fits
returns-then-not-text_fits c = (
  λ no. absurd (cc),
  λ fits. sym c.if-not-text_fits.true
      ∙ c.text_fits.ensures.1
      (each_at FitsText c.args.names.now c.loop-name.name-index _
      (text_at_index c.as_slice-name-items.result.now c.args.names.now c.loop-name.name-index
      c.as_slice-name-items.ensures.names c.loop-name-test.true) fits.each),
)

pub loop-name-preserved : goal.loop-name-preserved
loop-name-preserved c =
    each_more FitsText c.args.names.now c.loop-name.name-index _
    (text_at_index c.as_slice-name-items.result.now c.args.names.now c.loop-name.name-index
    c.as_slice-name-items.ensures.names c.loop-name-test.true) c.loop-name.invariant
    (c.text_fits.ensures.0 (search rules))
