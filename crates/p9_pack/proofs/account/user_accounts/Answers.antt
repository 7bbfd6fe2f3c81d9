use Rattle.std.proofs.Common.{ap}
use Rattle.p9_pack.specs.Account.{user_in, user_row}
use Rattle.p9_pack.proofs.Rows.{rows-one, rows-same}
use Rattle.p9_pack.proofs.account.user_accounts.Goals as goal
use Rattle.p9_pack.proofs.account.user_accounts.Goals.{in-Some+in_ok-push, in_default}

pub loop-line-preserved : goal.loop-line-preserved
loop-line-preserved g c =
    let lines = c.deref-line-items.result.now in
    let i = c.loop-line.line-index in
    let fields = c.in_ok-fields.field-0.items in
    let slice = c.as_slice.result.now in
    let found = c.user_in.result in
    let users = c.loop-line.users.items in
    let after = c.match-user_in.users.items in
    elim c.match-user_in.branch [
      | in-Some+in_ok-push w ↦
          rows-one user_row user_in lines i _ fields slice found users _ w.in-Some.user
          w.push.new.self.items after c.loop-line-test.true c.in_ok-fields.ensures
          c.as_slice.ensures.value c.user_in.ensures w.in-Some.is (ap (λ xs. xs.items) w.users-is)
          w.in_ok-push.ensures.items c.loop-line.invariant
      | in_default w ↦
          rows-same user_row user_in lines i _ fields slice found users _ after c.loop-line-test.true
          c.in_ok-fields.ensures c.as_slice.ensures.value c.user_in.ensures w.in_default.is
          (ap (λ xs. xs.items) w.users-is) c.loop-line.invariant
    ]
