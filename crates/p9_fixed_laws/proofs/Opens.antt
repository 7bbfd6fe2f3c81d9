-- What an open may do that a listed user is granted: it writes nothing, and no other fid decides it.
use Rattle.std.proofs.Common.{◌≡◌, ◌∙◌, ℕ, Bool, true, false, not, ◌&&◌, ◌||◌, List, Option, Some}
use Rattle.std.proofs.Common.{None, refl, ap}
use Rattle.std.proofs.lemmas.Bool.{and_from, and_parts, or_left, or_parts, or_right}
use Rattle.p9_base.specs.Results.{need, obtain}
use Rattle.p9_base.specs.Rights.{has_right, is_granted}
use Rattle.p9_base.specs.User.{is_listed_user}
use Rattle.p9_base.specs.declared.fault.Fault.{Fault}
use Rattle.p9_base.specs.declared.mode.Permissions.{Permissions}
use Rattle.p9_base.specs.declared.mode.Rights.{Rights}
use Rattle.p9_base.specs.declared.node_ref.NodeRef.{NodeRef}
use Rattle.p9_tree.specs.Node.{Node}
use Rattle.p9_space.specs.Rights.{may, to_execute, to_read, to_write}
use Rattle.p9_fids.specs.Opened.{writes}
use Rattle.p9_fids.specs.declared.opened.OpenMode.{OpenMode}
use Rattle.p9_fids.specs.declared.opened.OpenMode.TheVariants.{Execute, Read, ReadWrite, Write}
use Rattle.p9_step.specs.Answer.{Answer}
use Rattle.p9_step.specs.Open.{is_exclusive, may_open}
use Rattle.p9_step.specs.Opening.{mode_rights, wanted_by}
use Rattle.p9_step.specs.Rights.{may_write_parent}
use Rattle.p9_step.specs.State.{who_of}
use Rattle.p9_step.specs.declared.opening.Opening.{Opening}
use Rattle.p9_inside.proofs.Facts.{clash, not_true}
use Rattle.p9_cert.specs.Listed.{is_open, may_use}
use Rattle.p9_guard_laws.proofs.Basics.{some_may}
use Rattle.p9_fixed_laws.proofs.Nodes.{IsStill, Scene, not-written, parent-not-written}

-- a right that is wanted is had, where each wanted right is
had : (has wanted : Bool) → wanted ≡ true → (has || not wanted) ≡ true → has ≡ true
had true wanted w e = refl
had false true w e = e
had false false w e = w

-- who is granted these rights is granted each one of them alone
module _ (p : Permissions) (owner member : Bool) (wanted : Rights)
    (can : is_granted p owner member wanted ≡ true) where
  abbrev r : Bool
  r = has_right (λ x. x.read) p owner member

  abbrev w : Bool
  w = has_right (λ x. x.write) p owner member

  abbrev x : Bool
  x = has_right (λ y. y.execute) p owner member

  first : ((r || not wanted.read) && (w || not wanted.write)) ≡ true
  first =
      (and_parts ((r || not wanted.read) && (w || not wanted.write)) (x || not wanted.execute) can).0

  three : (a b c : Bool) → a ≡ true → b ≡ true → c ≡ true → (a && b && c) ≡ true
  three a b c f g h = and_from (a && b) c (and_from a b f g) h

  read_granted : wanted.read ≡ true → is_granted p owner member to_read ≡ true
  read_granted e =
      let has : r ≡ true =
      had r wanted.read e (and_parts (r || not wanted.read) (w || not wanted.write) first).0 in
      three (r || false) (w || true) (x || true) (or_left r false has) (or_right w true refl)
      (or_right x true refl)

  write_granted : wanted.write ≡ true → is_granted p owner member to_write ≡ true
  write_granted e =
      let has : w ≡ true =
      had w wanted.write e (and_parts (r || not wanted.read) (w || not wanted.write) first).1 in
      three (r || true) (w || false) (x || true) (or_right r true refl) (or_left w false has)
      (or_right x true refl)

  execute_granted : wanted.execute ≡ true → is_granted p owner member to_execute ≡ true
  execute_granted e =
      let has : x ≡ true =
      had x wanted.execute e
      (and_parts ((r || not wanted.read) && (w || not wanted.write)) (x || not wanted.execute) can).1
      in
      three (r || true) (w || true) (x || false) (or_right r true refl) (or_right w true refl)
      (or_left x false has)

-- a mode that writes asks to write
mode-writes : (m : OpenMode) → writes m ≡ (mode_rights m).write
mode-writes Read = refl
mode-writes Write = refl
mode-writes ReadWrite = refl
mode-writes Execute = refl

module _ (scene : Scene) (user : List ℕ) (listed : is_listed_user scene.setting.users user ≡ true)
    (at : NodeRef) (n : Node) (its : IsStill scene at n) (o : Opening)
    (can : may_open (who_of scene.setting user) scene.forest at n o ≡ true) where
  granted : may (who_of scene.setting user) n (wanted_by o) ≡ true
  granted = (and_parts (may (who_of scene.setting user) n (wanted_by o)) _ can).0

  wants_no_write : (wanted_by o).write ≡ false
  wants_no_write =
      not_true (wanted_by o).write (λ wants.
      clash (may (who_of scene.setting user) n to_write)
      (write_granted n.mode.permissions _ _ (wanted_by o) granted wants)
      (not-written scene user listed at n its))

  -- it does not write
  pub opens_no_write : writes o.mode ≡ false
  opens_no_write =
      mode-writes o.mode ∙ (or_parts (mode_rights o.mode).write o.truncates wants_no_write).0

  -- nor truncate
  pub truncates_not : o.truncates ≡ false
  truncates_not = (or_parts (mode_rights o.mode).write o.truncates wants_no_write).1

  -- nor remove on close
  pub removes_not : o.remove_on_close ≡ false
  removes_not = go o.remove_on_close (and_parts (may (who_of scene.setting user) n (wanted_by o)) _ can).1
    where
      go : (b : Bool)
          → (not b || may_write_parent (who_of scene.setting user) scene.forest at n) ≡ true
          → b ≡ false
      go false e = refl
      go true e =
          clash (may_write_parent (who_of scene.setting user) scene.forest at n) e
          (parent-not-written scene user listed at n its)

  -- the user may use it
  used : may_use n (who_of scene.setting user) ≡ true
  used = go o.mode refl
    where
      writing : (wanted_by o).write ≡ true → may_use n (who_of scene.setting user) ≡ true
      writing e = clash (wanted_by o).write e wants_no_write

      go : (m : OpenMode) → o.mode ≡ m → may_use n (who_of scene.setting user) ≡ true
      go Read e =
          let who = who_of scene.setting user in
          or_left (may who n to_read || may who n to_write) (may who n to_execute)
          (or_left (may who n to_read) (may who n to_write)
          (read_granted n.mode.permissions _ _ (wanted_by o) granted
          (ap (λ mode. (mode_rights mode).read) e)))
      go Write e = writing (ap (λ mode. (mode_rights mode).write || o.truncates) e)
      go ReadWrite e = writing (ap (λ mode. (mode_rights mode).write || o.truncates) e)
      go Execute e =
          let who = who_of scene.setting user in
          or_right (may who n to_read || may who n to_write) (may who n to_execute)
          (execute_granted n.mode.permissions _ _ (wanted_by o) granted
          (ap (λ mode. (mode_rights mode).execute) e))

  -- it is of no exclusive use
  pub exclusive_not : is_exclusive n ≡ false
  unfolding is_open
  exclusive_not =
      not_true (is_exclusive n) (λ exclusive.
      clash (is_open scene.setting.users scene.setting.groups n)
      (some_may (λ u. may_use n (who_of scene.setting u)) scene.setting.users user listed used)
      (its.shared exclusive))

-- Two answers that are the same after the tests are the same.

pub same-given : {X : Type 0} (o : Option X) (fault : Fault) (x y : X → Answer)
    → ((v : X) → o ≡ Some v → x v ≡ y v) → obtain o fault x ≡ obtain o fault y
unfolding obtain
same-given (Some v) fault x y h = h v refl
same-given None fault x y h = refl

pub same-need : (b : Bool) (fault : Fault) (x y : Answer) → (b ≡ true → x ≡ y)
    → need b fault x ≡ need b fault y
unfolding need
same-need true fault x y h = h refl
same-need false fault x y h = refl

pub same-test : (b c : Bool) (fault : Fault) (x : Answer) → b ≡ c → need b fault x ≡ need c fault x
same-test b c fault x e = ap (λ t. need t fault x) e

pub same-not : (b x y : Bool) → b ≡ false → (b && x) ≡ (b && y)
same-not true x y e = clash true refl e
same-not false x y e = refl
