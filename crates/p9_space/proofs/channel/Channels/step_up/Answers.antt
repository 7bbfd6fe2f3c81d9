use Rattle.std.proofs.Common.{◌≡◌, ap, sym, ◌∙◌, length, take}
use Rattle.p9_space.specs.Channel.{rows_of}
use Rattle.p9_space.proofs.ChannelRows.{rows-upward}
use Rattle.p9_space.proofs.channel.Channels.step_up.Goals as goal

pub returns-clause-fits : goal.returns-clause-fits
returns-clause-fits g c =
    λ table fits.
    let fits' : c.self.inside.rows.items ≡ rows_of table c.self.inside.trail =
    rw (← c.self.view_is) at fits in
    let trail = c.step_up.ensures in
    c.truncate.ensures.items
    ∙ ap (λ n. take n c.self.inside.rows.items) (c.len.ensures ∙ ap length trail)
    ∙ rows-upward table c.self.inside.trail c.self.inside.rows.items fits'
    ∙ ap (rows_of table) (sym trail)
