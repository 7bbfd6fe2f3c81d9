use Rattle.std.proofs.Common.{◌∙◌, rules, tests}
use Rattle.std.proofs.lemmas.List.Sorted.{IsPartitionPoint-from_clause}
use Rattle.p9_policy.specs.Rows.{is_below}
use Rattle.p9_policy.proofs.Searched.{partitioned, searched-at, searched-past}
use Rattle.p9_policy.proofs.rows.is_row.Goals as goal

pub returns-in-Some : goal.returns-in-Some
returns-in-Some c =
    let point =
    IsPartitionPoint-from_clause (λ row. is_below row c.args.at) c.args.rows.now
    c.partition_point-place.result c.partition_point-place.ensures.partitioned
    (partitioned c.args.rows.now c.args.at c.requires) (λ a r f k. search (rules, tests)) in
    c.eq.ensures
    ∙ searched-at c.args.rows.now c.args.at c.requires c.partition_point-place.result point
    c.in-Some.row.now c.in-Some.row.now c.in-Some.ensures.lookup.3.0 c.in-Some.ensures.lookup.1

pub returns-in-None : goal.returns-in-None
returns-in-None c =
    let point =
    IsPartitionPoint-from_clause (λ row. is_below row c.args.at) c.args.rows.now
    c.partition_point-place.result c.partition_point-place.ensures.partitioned
    (partitioned c.args.rows.now c.args.at c.requires) (λ a r f k. search (rules, tests)) in
    searched-past c.args.rows.now c.args.at c.requires c.partition_point-place.result point
    c.in-None.ensures.lookup.3
