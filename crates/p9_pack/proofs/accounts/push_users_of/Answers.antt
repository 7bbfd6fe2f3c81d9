use Rattle.std.proofs.Common.{ap}
use Rattle.p9_pack.proofs.Rows.{names-one, names-same}
use Rattle.p9_pack.proofs.accounts.push_users_of.Goals as goal
use Rattle.p9_pack.proofs.accounts.push_users_of.Goals.{then-user-gid+in_ok-push, else-user-gid}

pub loop-user-preserved : goal.loop-user-preserved
loop-user-preserved g c =
    let users = c.args.users.now in
    let i = c.loop-user.user-index in
    let names = c.loop-user.names.items in
    let after = c.if-user-gid.names.items in
    elim c.if-user-gid.branch [
      | then-user-gid+in_ok-push w ↦
          names-one c.args.gid users i _ names w.push.new.self.items after _ c.loop-user-test.true
          w.if-user-gid.true (ap (λ xs. xs.items) w.names-is) w.in_ok-push.ensures.items
          c.loop-user.invariant
      | else-user-gid w ↦
          names-same c.args.gid users i _ names after _ c.loop-user-test.true w.if-user-gid.false
          (ap (λ xs. xs.items) w.names-is) c.loop-user.invariant
    ]
