use Rattle.std.proofs.Common.{ap}
use Rattle.p9_pack.specs.Account.{group_in, group_row}
use Rattle.p9_pack.proofs.Rows.{rows-one, rows-same}
use Rattle.p9_pack.proofs.account.group_accounts.Goals as goal
use Rattle.p9_pack.proofs.account.group_accounts.Goals.{in-Some+in_ok-push, in_default}

pub loop-line-preserved : goal.loop-line-preserved
loop-line-preserved g c =
    let lines = c.deref-line-items.result.now in
    let i = c.loop-line.line-index in
    let fields = c.in_ok-fields.field-0.items in
    let slice = c.as_slice.result.now in
    let found = c.group_in.result in
    let groups = c.loop-line.groups.items in
    let after = c.match-group_in.groups.items in
    elim c.match-group_in.branch [
      | in-Some+in_ok-push w ↦
          rows-one group_row group_in lines i _ fields slice found groups _ w.in-Some.group
          w.push.new.self.items after c.loop-line-test.true c.in_ok-fields.ensures
          c.as_slice.ensures.value c.group_in.ensures w.in-Some.is (ap (λ xs. xs.items) w.groups-is)
          w.in_ok-push.ensures.items c.loop-line.invariant
      | in_default w ↦
          rows-same group_row group_in lines i _ fields slice found groups _ after c.loop-line-test.true
          c.in_ok-fields.ensures c.as_slice.ensures.value c.group_in.ensures w.in_default.is
          (ap (λ xs. xs.items) w.groups-is) c.loop-line.invariant
    ]
