use Rattle.std.proofs.Common.{◌∙◌}
use Rattle.p9_wire.proofs.Items.{text_at_index}
use Rattle.p9_words.specs.Words.{name_words}
use Rattle.p9_words.proofs.Printing.{one_more}
use Rattle.p9_words.proofs.print.print_indexed_names.Goals as goal

pub loop-i-preserved : goal.loop-i-preserved
loop-i-preserved g c =
    one_more name_words c.args.names.now c.loop-i.i _ c.loop-i.out.items _ _
    (text_at_index c.as_slice-name-items.result.now c.args.names.now c.loop-i.i
    c.as_slice-name-items.ensures.names c.loop-i-test.true) c.in_ok-print_index.ensures
    (rw (← c.as_bytes.ensures.value) c.in_ok-print_name.ensures)
    ∙ c.loop-i.invariant
