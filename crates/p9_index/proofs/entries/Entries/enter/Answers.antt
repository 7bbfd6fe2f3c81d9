use Rattle.std.proofs.Common.{Some, ap, arith}
use Rattle.std.proofs.lemmas.Grind.{common_steps}
use Rattle.std.specs.BTreeMap.{is_at}
use Rattle.std.specs.BTreeSet.{IsUnchanged}
use Rattle.std.specs.List.{list_any}
use Rattle.p9_index.specs.Entries.{child_cmp}
use Rattle.p9_index.proofs.TakenBack.{named_back}
use Rattle.p9_index.proofs.entries.Entries.enter.Goals as goal

pub returns-then-is_err-clause-err : goal.returns-then-is_err-clause-err
returns-then-is_err-clause-err g c =
    let unchanged : IsUnchanged c.args.self.now.children c.insert-2.new.self =
    grind (arith, common_steps, c.insert-2.ensures.err, c.is_err.ensures.value, c.if-is_err.true) in (
      (λ q. ap (list_any (is_at (child_cmp q))) unchanged),
      named_back c.args.self.now.numbers c.insert.new.self c.remove.new.self c.args.entry
          (Some c.args.number) c.in_ok-insert.ensures.ok c.remove.ensures c.requires.unnamed,
    )
