-- The names in the world `small` are names.
use Rattle.std.proofs.Common.{IsTrue, codes, refl}
use Rattle.p9_base.specs.Name.{is_name}
use Rattle.p9_base.specs.User.{is_user}
use Rattle.p9_base.proofs.Texts.{is_text-ascii}

pub is_user-glenda : IsTrue (is_user (codes "glenda"))
is_user-glenda = rw (is_text-ascii (codes "glenda") refl refl) refl

pub is_name-a : IsTrue (is_name (codes "a"))
is_name-a = rw (is_text-ascii (codes "a") refl refl) refl

pub is_name-b : IsTrue (is_name (codes "b"))
is_name-b = rw (is_text-ascii (codes "b") refl refl) refl

pub is_name-f : IsTrue (is_name (codes "f"))
is_name-f = rw (is_text-ascii (codes "f") refl refl) refl
