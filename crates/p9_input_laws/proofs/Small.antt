-- The sample world is well-formed.
use Rattle.std.proofs.Common.{◌≡◌, ℕ, zero, suc, true, List, [], Some, IsTrue, refl, subst}
use Rattle.std.proofs.Common.{arith}
use Rattle.std.specs.Prelude.{codes, slice_get}
use Rattle.std.proofs.lemmas.Bool.{and_from}
use Rattle.std.proofs.lemmas.List.Elements.{All-nil}
use Rattle.p9_base.specs.Name.{is_name}
use Rattle.p9_base.specs.User.{is_user}
use Rattle.p9_base.proofs.Texts.{is_text-ascii}
use Rattle.p9_base.specs.declared.mode.Mode.{Mode}
use Rattle.p9_tree.specs.Node.{IsTellable, Node}
use Rattle.p9_tree.specs.Server.{Server, WellFormed, added, rooted}
use Rattle.p9_tree.proofs.Added.{WellFormed-added}
use Rattle.p9_tree.proofs.Rooted.{WellFormed-rooted}
use Rattle.p9_prepared.specs.Small.{directory_mode, file_mode, glendas, small, small_world}
use Rattle.p9_input_laws.proofs.Worlds.{IsRead}

is_user-glenda : IsTrue (is_user (codes "glenda"))
is_user-glenda = rw (is_text-ascii (codes "glenda") refl refl) refl

is_name-a : IsTrue (is_name (codes "a"))
is_name-a = rw (is_text-ascii (codes "a") refl refl) refl

is_name-b : IsTrue (is_name (codes "b"))
is_name-b = rw (is_text-ascii (codes "b") refl refl) refl

is_name-f : IsTrue (is_name (codes "f"))
is_name-f = rw (is_text-ascii (codes "f") refl refl) refl

-- a stat can tell what is glenda's
told : (number parent : ℕ) (name : List ℕ) (mode : Mode) (bytes : List ℕ)
    → IsTellable (glendas number parent name mode bytes)
told number parent name mode bytes =
    ((is_user-glenda, is_user-glenda, is_user-glenda), (omega arith, omega arith, omega arith))

-- /a, /a/b and /a/f
node-a : Node
node-a = glendas 1 0 (codes "a") directory_mode []

node-b : Node
node-b = glendas 2 1 (codes "b") directory_mode []

node-f : Node
node-f = glendas 3 1 (codes "f") file_mode (codes "hi")

well-a : WellFormed (added rooted node-a)
unfolding node-a
well-a =
    WellFormed-added rooted 0 node-a WellFormed-rooted (record {
      number_left = omega arith;
      into = refl;
      free = refl;
      small = omega arith;
      empty_dir = λ d. refl;
    }) refl refl is_name-a (told 1 0 (codes "a") directory_mode [])

well-b : WellFormed (added (added rooted node-a) node-b)
unfolding node-a node-b
well-b =
    WellFormed-added (added rooted node-a) 1 node-b well-a (record {
      number_left = omega arith;
      into = refl;
      free = refl;
      small = omega arith;
      empty_dir = λ d. refl;
    }) refl refl is_name-b (told 2 1 (codes "b") directory_mode [])

well-f : WellFormed (added (added (added rooted node-a) node-b) node-f)
unfolding node-a node-b node-f
well-f =
    WellFormed-added (added (added rooted node-a) node-b) 1 node-f well-b (record {
      number_left = omega arith;
      into = refl;
      free = refl;
      small = omega arith;
      empty_dir = λ d. absurd (cc);
    }) refl refl is_name-f (told 3 1 (codes "f") file_mode (codes "hi"))

small-well : WellFormed small
unfolding node-a node-b node-f
small-well = well-f

each-well : (k : ℕ) (s : Server) → slice_get small_world.forest k ≡ Some s → WellFormed s
each-well zero s at = let same : small ≡ s = cc in subst WellFormed same small-well
each-well (suc k) s at = absurd (cc)

pub small-read : IsRead small_world
small-read = record {
  world = record {
    named = refl;
    few = omega arith;
    distinct = λ i j d lt within. absurd (omega arith);
    below = All-nil _;
  };
  forest = record { few = omega arith; servers = each-well };
  users = and_from (is_user (codes "glenda")) true is_user-glenda refl;
  groups = refl;
}
