use Rattle.std.proofs.Common.{◌∷◌, ◌++◌, ◌∙◌, ap}
use Rattle.p9_world.proofs.Loops.{text-all, text-more}
use Rattle.p9_world.proofs.put.put_users.Goals as goal

pub loop-user-preserved : goal.loop-user-preserved
loop-user-preserved g c =
    text-more c.args.users.now c.loop-user.user-index c.user-item.result _ (λ user. 32 ∷ user)
    c.loop-user.text.items c.put_word.new.text.items _ c.loop-user-test.true c.user-item.is
    (c.in_ok-put_word.ensures
    ∙ ap (λ word. c.loop-user.text.items ++ 32 ∷ word) c.as_str.ensures.text)
    c.loop-user.invariant

pub returns : goal.returns
returns g c =
    text-all (λ user. 32 ∷ user) c.args.users.now c.loop-user.user-index c.loop-user.text.items _
    c.loop-user-test.false c.loop-user.invariant
