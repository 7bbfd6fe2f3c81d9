-- The texts of a new server's root are texts.
use Rattle.std.proofs.Common.{IsTrue, codes, refl}
use Rattle.p9_base.specs.Text.{is_text}
use Rattle.p9_base.specs.User.{is_user}
use Rattle.p9_base.proofs.Texts.{is_text-ascii}
use Rattle.p9_tree.specs.Node.{root_name}

-- the root's name is a text
pub is_text-root_name : IsTrue (is_text root_name)
is_text-root_name = is_text-ascii root_name refl refl

-- the root's owner is a user
pub is_user-sys : IsTrue (is_user (codes "sys"))
is_user-sys = is_text-ascii (codes "sys") refl refl
