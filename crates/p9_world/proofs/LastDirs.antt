-- Where names lead, when more names follow or the nodes change.
use Rattle.std.proofs.Common.{◌≡◌, ℕ, Bool, true, false, List, [], ◌∷◌, ◌++◌, Option, Some, None, refl}
use Rattle.std.proofs.Common.{sym, ap, ◌∙◌, arith, option_map, if◌then◌else◌}
use Rattle.std.specs.Option.{option_and_then, option_or}
use Rattle.std.proofs.lemmas.Bool.Decides.{nat_tests}
use Rattle.std.proofs.lemmas.List.Folds.{find-append}
use Rattle.p9_base.specs.declared.mode.Permissions.{Permissions}
use Rattle.p9_clean.specs.Path.{Component}
use Rattle.p9_tree.specs.Node.{Node, is_child, with_owner}
use Rattle.p9_tree.specs.Server.{Server, added, changed_at, child_of, is_dir_at}
use Rattle.p9_world.specs.declared.last_dir.LastDir.{LastDir}
use Rattle.p9_world.specs.LastDir.{dir_from}
use Rattle.p9_world.specs.Path.{dir_number, dir_of, number_from}

-- names after others lead on from where those lead
pub number_from-append : (k j : ℕ) (xs ys : List Component) (nodes : List Node)
    → number_from k xs nodes ≡ Some j → number_from k (xs ++ ys) nodes ≡ number_from j ys nodes
number_from-append k j [] ys nodes led =
    let same : k ≡ j = cc in ap (λ i. number_from i ys nodes) same
number_from-append k j (x ∷ xs) ys nodes led =
    elim (child_of k x nodes) as (λ o.
    option_and_then (λ (n : Node). number_from n.number xs nodes) o ≡ Some j
    → option_and_then (λ (n : Node). number_from n.number (xs ++ ys) nodes) o
    ≡ number_from j ys nodes) [
      | None ↦ λ none. absurd (cc)
      | Some n ↦ λ rest. number_from-append n.number j xs ys nodes rest
    ] led

-- the directory that names lead to, from where the first of them lead on
pub dir_of-behind : (names first rest : List Component) (number : ℕ) (s : Server)
    → names ≡ first ++ rest → number_from 0 first s.nodes ≡ Some number
    → dir_from number rest s ≡ dir_of names s
dir_of-behind names first rest number s split led =
    ap (option_and_then (dir_number s.nodes))
    (sym (ap (λ xs. number_from 0 xs s.nodes) split
    ∙ number_from-append 0 number first rest s.nodes led))

-- where a node joins, names lead to where they led
pub number_from-joined : (k j : ℕ) (xs : List Component) (nodes : List Node) (new : Node)
    → number_from k xs nodes ≡ Some j → number_from k xs (nodes ++ new ∷ []) ≡ Some j
number_from-joined k j [] nodes new led = led
number_from-joined k j (x ∷ xs) nodes new led =
    ap (option_and_then (λ (n : Node). number_from n.number xs (nodes ++ new ∷ [])))
    (find-append (is_child k x) nodes (new ∷ []))
    ∙ elim (child_of k x nodes) as (λ o.
    option_and_then (λ (n : Node). number_from n.number xs nodes) o ≡ Some j
    → option_and_then (λ (n : Node). number_from n.number xs (nodes ++ new ∷ []))
    (option_or o (child_of k x (new ∷ []))) ≡ Some j) [
      | None ↦ λ none. absurd (cc)
      | Some n ↦ λ rest. number_from-joined n.number j xs nodes new rest
    ] led

-- where the root gets another owner, a child keeps its number
child-owned : (permissions : Permissions) (uid gid : List ℕ) (k : ℕ) (x : Component)
    (nodes : List Node)
    → option_map (λ (n : Node). n.number)
    (child_of k x (changed_at 0 (with_owner permissions uid gid) nodes))
    ≡ option_map (λ (n : Node). n.number) (child_of k x nodes)
child-owned permissions uid gid k x [] = refl
child-owned permissions uid gid k x (n ∷ nodes) =
    grind (arith, nat_tests, child-owned permissions uid gid k x nodes)

-- a look-up goes on from the number alone
by_number : {U : Type 0} (f : ℕ → Option U) (o : Option Node)
    → option_and_then (λ (n : Node). f n.number) o
    ≡ option_and_then f (option_map (λ (n : Node). n.number) o)
by_number f None = refl
by_number f (Some n) = refl

-- and names lead to where they led
pub number_from-owned : (permissions : Permissions) (uid gid : List ℕ) (k j : ℕ)
    (xs : List Component) (nodes : List Node) → number_from k xs nodes ≡ Some j
    → number_from k xs (changed_at 0 (with_owner permissions uid gid) nodes) ≡ Some j
number_from-owned permissions uid gid k j [] nodes led = led
number_from-owned permissions uid gid k j (x ∷ xs) nodes led =
    let changed : List Node = changed_at 0 (with_owner permissions uid gid) nodes in
    by_number (λ i. number_from i xs changed) (child_of k x changed)
    ∙ ap (option_and_then (λ i. number_from i xs changed))
    (child-owned permissions uid gid k x nodes)
    ∙ sym (by_number (λ i. number_from i xs changed) (child_of k x nodes))
    ∙ elim (child_of k x nodes) as (λ o.
    option_and_then (λ (n : Node). number_from n.number xs nodes) o ≡ Some j
    → option_and_then (λ (n : Node). number_from n.number xs changed) o ≡ Some j) [
      | None ↦ λ none. absurd (cc)
      | Some n ↦ λ rest. number_from-owned permissions uid gid n.number j xs nodes rest
    ] led

-- the names of a directory that is found lead to it
pub led-dir_of : (names : List Component) (s : Server) (k : ℕ) → Some k ≡ dir_of names s
    → number_from 0 names s.nodes ≡ Some k
led-dir_of names s k found = go (number_from 0 names s.nodes) found
  where
    test : (j : ℕ) (b : Bool) → Some k ≡ (if b then Some j else None) → Some j ≡ Some k
    test j true at = sym at
    test j false at = absurd (cc)

    go : (o : Option ℕ) → Some k ≡ option_and_then (dir_number s.nodes) o → o ≡ Some k
    go None at = absurd (cc)
    go (Some j) at = test j (is_dir_at j s.nodes) at

-- they still do where a node joins
pub led-joined : (names : List Component) (s : Server) (k : ℕ) (new : Node)
    → Some k ≡ dir_of names s → number_from 0 names (added s new).nodes ≡ Some k
led-joined names s k new found =
    number_from-joined 0 k names s.nodes new (led-dir_of names s k found)

-- no names lead to the root
pub led-root : {Z : Type 0} (dir : LastDir Z) (nodes : List Node) → dir.names.items ≡ []
    → dir.number ≡ 0 → number_from 0 dir.names.items nodes ≡ Some dir.number
led-root dir nodes none root = rw (none, root) refl
