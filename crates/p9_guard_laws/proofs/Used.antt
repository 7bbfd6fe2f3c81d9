-- What a listed user may use isn't hidden.
use Rattle.std.proofs.Common.{◌≡◌, List, ℕ, Some, true, false}
use Rattle.p9_base.specs.declared.node_ref.NodeRef.{NodeRef}
use Rattle.p9_base.specs.User.{is_listed_user}
use Rattle.p9_tree.specs.Forest.{node_of}
use Rattle.p9_tree.specs.Inside.{is_barred, is_hidden}
use Rattle.p9_tree.specs.Node.{Node}
use Rattle.p9_inside.proofs.Facts.{clash, not_true}
use Rattle.p9_inside.proofs.Looks.{not_barred}
use Rattle.p9_step.specs.State.{who_of}
use Rattle.p9_cert.specs.Listed.{is_open, may_use}
use Rattle.p9_guard_laws.proofs.Basics.{some_may}
use Rattle.p9_guard_laws.proofs.Scene.{Scene}
use Rattle.p9_guard_laws.proofs.Walks.{SafeMember}

module _ (scene : Scene) (at : NodeRef) (n : Node) (user : List ℕ) (safe : SafeMember scene at)
    (there : node_of at scene.forest ≡ Some n)
    (listed : is_listed_user scene.setting.users user ≡ true)
    (can : may_use n (who_of scene.setting user) ≡ true) where
  pub used_shown : is_hidden at scene.hidden ≡ false
  unfolding is_open
  used_shown =
      not_true (is_hidden at scene.hidden) (λ hid.
      clash (is_open scene.setting.users scene.setting.groups n)
      (some_may (λ u. may_use n (who_of scene.setting u)) scene.setting.users user listed can)
      (safe.shut hid n there).unused)

  -- nor is it inside
  pub used_open : is_barred at scene.hidden scene.forest ≡ false
  used_open =
      not_barred scene.hidden scene.forest scene.good.ordered at used_shown safe.outside
