use Rattle.std.proofs.Common.{◌++◌, ◌∷◌, [], ap, ap₂, sym, ◌∙◌}
use Rattle.std.proofs.lemmas.List.{map-append}
use Rattle.p9_table.specs.Table.{row_position}
use Rattle.p9_space.specs.Channel.{rows_of, trail_of}
use Rattle.p9_table.specs.Trail.{here, stepped}
use Rattle.p9_space.proofs.Arrivals.{here-pushed}
use Rattle.p9_space.proofs.way.Way.take.Goals as goal

pub returns-in-To-clause-fits : goal.returns-in-To-clause-fits
returns-in-To-clause-fits c =
    λ table row fits.
    let trail = trail_of c.args.self.now in
    let last =
    ap (λ step. here (stepped trail step)) c.in-To.is ∙ here-pushed trail c.in-To.place in
    c.push.ensures.rows
    ∙ ap₂ (λ rows row. rows ++ row ∷ []) fits (row ∙ ap (λ place. row_position place table) last)
    ∙ sym (map-append (λ key. row_position key table) trail (c.in-To.place ∷ []))
    ∙ ap (rows_of table) (sym c.push.ensures.trail)
