use Rattle.std.proofs.Common.{◌∙◌}
use Rattle.p9_base.proofs.Texts.{kept_text}
use Rattle.p9_base.proofs.text.Text.new.Goals as goal

pub invariant_of-result : goal.invariant_of-result
invariant_of-result g c =
    kept_text g.row.N c.args.text.now c.copy_from_slice.new.self c.requires.fits c.requires.text
    (c.copy_from_slice.ensures.after ∙ c.as_bytes.ensures.value)
