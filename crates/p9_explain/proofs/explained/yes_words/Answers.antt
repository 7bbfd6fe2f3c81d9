use Rattle.std.proofs.Common.{ap, length, subst}
use Rattle.std.specs.String.{string_bytes}
use Rattle.p9_prepared.specs.Prepared.{Prepared}
use Rattle.p9_explain.specs.Change.{IsKindTold}
use Rattle.p9_explain.proofs.Changes.{reach-told}
use Rattle.p9_explain.proofs.explained.yes_words.Goals as goal

pub returns : goal.returns
returns g c =
    let kind = string_bytes c.in_ok-kind.kind in
    reach-told c.args.prepared.now.space c.args.least.now (length c.rows.result.now)
    (string_bytes c.in_ok-format.field-0) (string_bytes c.in_ok-reach.reach) kind
    (string_bytes c.push_free.new.text) (string_bytes c.new-hints.result) c.as_str.result.now
    (ap length c.rows.ensures.rows) c.in_ok-reach.ensures c.new-hints.ensures.bytes
    c.in_ok-push_free.ensures
    (subst (λ (p : Prepared). IsKindTold p.space c.args.least.now kind) c.prepared.view_is
    c.in_ok-kind.ensures)
    c.in_ok-format.ensures.ok
