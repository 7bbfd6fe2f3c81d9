-- A user is of some class exactly where he may do one of what is wanted.
use Rattle.std.proofs.Common.{◌≡◌, Bool, true, false, ◌&&◌, ◌||◌, Some, None, refl, sym, ap, ◌∙◌, arith}
use Rattle.std.specs.Prelude.{if◌then◌else◌, is_some}
use Rattle.std.specs.Str.{bytes_eq}
use Rattle.p9_base.specs.declared.mode.Permissions.{Permissions}
use Rattle.p9_base.specs.declared.mode.Rights.{Rights}
use Rattle.p9_base.specs.Group.{is_member}
use Rattle.p9_base.specs.Rights.{is_granted}
use Rattle.p9_tree.specs.Node.{Node}
use Rattle.p9_space.specs.Rights.{Who, may, rules, to_execute, to_read, to_write}
use Rattle.p9_cert.specs.Listed.{may_alter}
use Rattle.p9_right.specs.declared.class.Class.{Class}
use Rattle.p9_right.specs.Class.{class_of, gives_one, may_one}
use Rattle.p9_right.specs.declared.class.Class.TheVariants.{Member, Others, Owner}

module _ (p : Permissions) (o m : Bool) where
  granted-read : is_granted p o m to_read
      ≡ ((o && p.owner.read) || ((m && p.group.read) || p.others.read))
  granted-read = grind (arith)

  granted-write : is_granted p o m to_write
      ≡ ((o && p.owner.write) || ((m && p.group.write) || p.others.write))
  granted-write = grind (arith)

  granted-execute : is_granted p o m to_execute
      ≡ ((o && p.owner.execute) || ((m && p.group.execute) || p.others.execute))
  granted-execute = grind (arith)

  -- a right, if it is wanted, class by class
  share : (w a b c : Bool)
      → (w && ((o && a) || ((m && b) || c))) ≡ ((o && (w && a)) || (((w && b) && m) || (w && c)))
  share w a b c = grind (arith)

  -- one of three rights, class by class
  three : (a b c d e f g h i : Bool)
      → ((((o && a) || ((b && m) || c)) || ((o && d) || ((e && m) || f)))
      || ((o && g) || ((h && m) || i)))
      ≡ ((((c || f) || i) || (o && ((a || d) || g))) || (((b || e) || h) && m))
  three a b c d e f g h i = grind (arith)

  one_held : (w : Rights)
      → ((gives_one p.others w || (o && gives_one p.owner w)) || (gives_one p.group w && m))
      ≡ (((w.read && is_granted p o m to_read) || (w.write && is_granted p o m to_write))
      || (w.execute && is_granted p o m to_execute))
  one_held w =
      rw (
        granted-read,
        granted-write,
        granted-execute,
        share w.read p.owner.read p.group.read p.others.read,
        share w.write p.owner.write p.group.write p.others.write,
        share w.execute p.owner.execute p.group.execute p.others.execute,
      )
      (sym (three (w.read && p.owner.read) (w.read && p.group.read) (w.read && p.others.read)
      (w.write && p.owner.write) (w.write && p.group.write) (w.write && p.others.write)
      (w.execute && p.owner.execute) (w.execute && p.group.execute) (w.execute && p.others.execute)))

-- there is one of three
some_of : (a b c : Bool) (x y z : Class)
    → is_some (if a then Some x else if b then Some y else if c then Some z else None) ≡ ((a || b) || c)
some_of true b c x y z = refl
some_of false true c x y z = refl
some_of false false true x y z = refl
some_of false false false x y z = refl

pub is_some-class_of : (who : Who) (n : Node) (wanted : Rights)
    → is_some (class_of who n wanted) ≡ may_one who n wanted
is_some-class_of who n wanted =
    let p = n.mode.permissions in
    let o = bytes_eq n.uid who.user in
    let m = is_member who.groups n.gid who.user in
    some_of (gives_one p.others wanted) (o && gives_one p.owner wanted) (gives_one p.group wanted && m)
    Others Owner Member
    ∙ one_held p o m wanted

or-false : (a : Bool) → (a || false) ≡ a
or-false true = refl
or-false false = refl

pub may_one-to_write : (who : Who) (n : Node)
    → (may_one who n to_write || rules who n) ≡ may_alter n who
may_one-to_write who n = ap (λ b. b || rules who n) (or-false (may who n to_write))
