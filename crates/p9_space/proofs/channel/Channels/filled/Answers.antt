use Rattle.std.proofs.Common.{◌++◌, ◌-◌, ap, sym, take, ◌∙◌}
use Rattle.std.specs.Prelude.{replicate, vec_len}
use Rattle.p9_space.specs.Channel.{rows_of}
use Rattle.p9_space.proofs.ChannelRows.{rows-filled}
use Rattle.p9_space.proofs.channel.Channels.filled.Goals as goal

pub returns-clause-fits : goal.returns-clause-fits
returns-clause-fits g c =
    c.in_ok-resize.ensures.items
    ∙ ap (λ row. take c.args.count c.new-rows.result.items
    ++ replicate (c.args.count - vec_len c.new-rows.result) row) c.position.ensures
    ∙ rows-filled c.args.table.now c.args.place c.args.count (vec_len c.new-rows.result)
    c.new-rows.result.items c.new-rows.ensures.items c.new-rows.ensures.len
    ∙ ap (rows_of c.args.table.now) (sym c.in_ok-trail.ensures)
