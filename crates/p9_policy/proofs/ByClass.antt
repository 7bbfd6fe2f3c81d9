-- Which classes of a node's users may do what, and lists of users.
use Rattle.std.proofs.Common.{◌≡◌, ℕ, Bool, true, false, ◌&&◌, ◌||◌, List, [], ◌∷◌, refl, sym, ap}
use Rattle.std.proofs.Common.{◌∙◌, arith}
use Rattle.std.specs.Prelude.{◌==◌, length, not}
use Rattle.std.specs.List.{list_any}
use Rattle.std.proofs.lemmas.Bool.Decides.{nat_tests}
use Rattle.p9_base.specs.declared.mode.Permissions.{Permissions}
use Rattle.p9_base.specs.Group.{GroupRow}
use Rattle.p9_base.specs.Rights.{is_granted}
use Rattle.p9_tree.specs.Node.{Node, is_dir}
use Rattle.p9_table.specs.Rights.{Who, may, rules, to_execute, to_read, to_write}
use Rattle.p9_policy.specs.declared.classes.Classes.{Classes}
use Rattle.p9_policy.specs.Classes.{gives_some, is_of}
use Rattle.p9_policy.specs.Listed.{is_open, is_owned, is_passable, may_pass, may_use, some_listed}

-- What a mode gives to an owner, a member and a leader.

module _ (p : Permissions) (o m l : Bool) where
  pub pass-by-classes : (p.others.execute || (o || ((p.group.execute && m) || l)))
      ≡ (is_granted p o m to_execute || (o || l))
  pass-by-classes = grind (arith)

  pub alter-by-classes : (p.others.write || (o || ((p.group.write && m) || l)))
      ≡ (is_granted p o m to_write || (o || l))
  alter-by-classes = grind (arith)

  granted-read : is_granted p o m to_read
      ≡ ((o && p.owner.read) || ((m && p.group.read) || p.others.read))
  granted-read = grind (arith)

  granted-write : is_granted p o m to_write
      ≡ ((o && p.owner.write) || ((m && p.group.write) || p.others.write))
  granted-write = grind (arith)

  granted-execute : is_granted p o m to_execute
      ≡ ((o && p.owner.execute) || ((m && p.group.execute) || p.others.execute))
  granted-execute = grind (arith)

  -- some right of three, class by class
  three : (a b c d e f g h i : Bool)
      → ((((o && a) || ((m && b) || c)) || ((o && d) || ((m && e) || f)))
      || ((o && g) || ((m && h) || i)))
      ≡ ((c || (f || i)) || (((a || (d || g)) && o) || (((b || (e || h)) && m) || false)))
  three a b c d e f g h i = grind (arith)

  pub use-by-classes :
      (gives_some p.others || ((gives_some p.owner && o) || ((gives_some p.group && m) || false)))
      ≡ ((is_granted p o m to_read || is_granted p o m to_write) || is_granted p o m to_execute)
  use-by-classes =
      rw (granted-read, granted-write, granted-execute)
      (sym (three p.owner.read p.group.read p.others.read p.owner.write p.group.write
      p.others.write p.owner.execute p.group.execute p.others.execute))

  -- who rules needs no right as an owner
  ruled : (others owner group : Bool)
      → ((others || ((owner && o) || ((group && m) || false))) || (o || l))
      ≡ (others || (o || ((group && m) || l)))
  ruled others owner group = grind (arith)

  pub use-or-rule-by-classes :
      (gives_some p.others || (o || ((gives_some p.group && m) || l)))
      ≡ (((is_granted p o m to_read || is_granted p o m to_write) || is_granted p o m to_execute)
      || (o || l))
  use-or-rule-by-classes =
      sym (ruled (gives_some p.others) (gives_some p.owner) (gives_some p.group))
      ∙ ap (λ b. b || (o || l)) use-by-classes

-- Lists of users.

module _ {X : Type 0} where
  -- one of two tests
  pub any_or : (f g : X → Bool) (xs : List X)
      → list_any (λ x. f x || g x) xs ≡ (list_any f xs || list_any g xs)
  any_or f g [] = refl
  any_or f g (x ∷ xs) = grind (arith, any_or f g xs)

  -- a test that all pass
  pub any_true : (xs : List X) → list_any (λ x. true) xs ≡ not (length xs == 0)
  any_true [] = refl
  any_true (x ∷ xs) = grind (arith, nat_tests)

  -- where nobody passes the other, nobody passes the test that asks more
  pub any_none : (f g : X → Bool) → ((x : X) → f x ≡ true → g x ≡ true) → (xs : List X)
      → list_any g xs ≡ false → list_any f xs ≡ false
  any_none f g h [] e = refl
  any_none f g h (x ∷ xs) e = go (f x) (g x) refl refl e (any_none f g h xs)
    where
      go : (a b : Bool) → f x ≡ a → g x ≡ b → (b || list_any g xs) ≡ false
          → (list_any g xs ≡ false → list_any f xs ≡ false) → (a || list_any f xs) ≡ false
      go a true p q e later = let no : true ≡ false = e in absurd (cc)
      go true false p q e later = let no : true ≡ false = sym (h x p) ∙ q in absurd (cc)
      go false false p q e later = later e

module _ (users : List (List ℕ)) (groups : List GroupRow) where
  -- everybody is of the others
  pub some-others : (classes : Classes) (n : Node) → classes.others ≡ true
      → some_listed users groups (is_of classes n) ≡ not (length users == 0)
  some-others classes n e =
      ap (λ b. some_listed users groups (λ who. is_of (record classes { others = b }) n who)) e
      ∙ any_true users

  -- tests that agree
  pub some-same : (f g : Who → Bool) → ((who : Who) → f who ≡ g who)
      → some_listed users groups f ≡ some_listed users groups g
  some-same f g h = λ i. some_listed users groups (λ who. h who i)

  -- who may pass may use or rules
  pass-use : (n : Node) (who : Who) → may_pass n who ≡ true → (may_use n who || rules who n) ≡ true
  pass-use n who t =
      go (may who n to_read) (may who n to_write) (may who n to_execute) (rules who n) t
    where
      go : (r w x l : Bool) → (x || l) ≡ true → (((r || w) || x) || l) ≡ true
      go r w x l t = grind (arith)

  pub open_or_owned : (n : Node) → some_listed users groups (λ who. may_use n who || rules who n)
      ≡ (is_open users groups n || is_owned users groups n)
  unfolding is_open is_owned
  open_or_owned n =
      any_or (λ user. may_use n (record { user = user; groups = groups }))
      (λ user. rules (record { user = user; groups = groups }) n) users

  -- what nobody may use or rules nobody may pass
  pub shut-not-passable : (n : Node) → (is_open users groups n || is_owned users groups n) ≡ false
      → is_passable users groups n ≡ false
  unfolding is_passable
  shut-not-passable n e =
      ap (λ b. is_dir n && b)
      (any_none (λ user. may_pass n (record { user = user; groups = groups }))
      (λ user. may_use n (record { user = user; groups = groups })
      || rules (record { user = user; groups = groups }) n)
      (λ user. pass-use n (record { user = user; groups = groups })) users (open_or_owned n ∙ e))
      ∙ never (is_dir n)
    where
      never : (b : Bool) → (b && false) ≡ false
      never true = refl
      never false = refl
