use Rattle.std.proofs.Common.{◌++◌, ◌∷◌, [], ap, ap₂, sym, ◌∙◌}
use Rattle.std.proofs.lemmas.List.{map-append}
use Rattle.p9_table.specs.Table.{row_position}
use Rattle.p9_space.specs.Channel.{Channels, rows_of, trail_of}
use Rattle.p9_space.proofs.channel.Channels.push_with_row.Goals as goal

pub returns-clause-ok : goal.returns-clause-ok
returns-clause-ok g c =
    c.in_ok-push.ensures.ok
    ∙ ap (λ (channels : Channels). channels.trail ++ c.args.place ∷ []) c.self.view_is

pub returns-clause-fits : goal.returns-clause-fits
returns-clause-fits g c =
    λ table row fits.
    let before =
    c.in_ok-reserve.ensures.items
    ∙ (ap (λ (channels : Channels). channels.rows) c.self.view_is ∙ fits) in
    let trail =
    c.in_ok-push.ensures.ok
    ∙ ap (λ (channels : Channels). channels.trail ++ c.args.place ∷ []) c.self.view_is in
    c.in_ok-push-2.ensures.items
    ∙ ap₂ (λ rows row. rows ++ row ∷ []) before row
    ∙ sym (map-append (λ key. row_position key table) (trail_of c.args.self.now)
    (c.args.place ∷ []))
    ∙ ap (rows_of table) (sym trail)
