use Rattle.std.proofs.Common.{◌++◌, map, option_map, slice_get, ap, ◌∙◌}
use Rattle.p9_base.specs.Statement.{statement_view}
use Rattle.p9_policy.specs.Faults.{bad_lines_among}
use Rattle.p9_policy.proofs.BadLines.{first-bad}
use Rattle.p9_policy.proofs.faults.bad_lines.Goals as goal

pub returns-clause-first : goal.returns-clause-first
returns-clause-first g c =
    let all =
    c.in_ok-push_bad_lines.ensures
    ∙ ap (λ found. found ++ bad_lines_among (map statement_view c.as_slice.result.now))
    c.new-found.ensures.items
    ∙ ap (λ statements. bad_lines_among (map statement_view statements)) c.as_slice.ensures.value
    ∙ ap bad_lines_among c.in_ok-statements.ensures in
    ap (λ found. option_map (λ bad. bad.line) (slice_get found 0)) all
    ∙ first-bad c.args.text.now
