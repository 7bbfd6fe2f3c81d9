-- Walks along names, one after another, and what is found in members, one after another.
use Rattle.std.proofs.Common.{◌≡◌, ℕ, suc, ◌+◌, ◌<◌, ◌≤◌, ◌&&◌, ◌||◌, Bool, true}
use Rattle.std.proofs.Common.{false, cond, is_some, List, ◌∷◌, Option}
use Rattle.std.proofs.Common.{Some, None, Result, Ok, Err, IfErr, IsErrAnd, Bor, map, drop, get_or, true≢false}
use Rattle.std.proofs.Common.{[], length, not, refl, sym, ap, ap₂, ◌∙◌, subst, add-one, drop-cons}
use Rattle.std.specs.Prelude.{if◌then◌else◌}
use Rattle.std.specs.List.{list_any}
use Rattle.std.specs.Option.{option_and_then, option_map, option_map_or, option_or}
use Rattle.std.proofs.lemmas.Bool.{and_parts}
use Rattle.std.proofs.lemmas.List.{drop_all}
use Rattle.p9_base.specs.declared.fault.Fault.{Fault}
use Rattle.p9_base.specs.declared.fault.Fault.TheVariants.{NotDirectory, PhaseError}
use Rattle.p9_base.specs.declared.node_ref.NodeRef.{NodeRef}
use Rattle.p9_base.specs.Results.{and_then}
use Rattle.p9_tree.specs.Node.{Node, is_dir}
use Rattle.p9_tree.specs.Server.{Server}
use Rattle.p9_tree.specs.Forest.{node_of}
use Rattle.p9_table.specs.Rights.{Who}
use Rattle.p9_table.specs.Table.{MountRow}
use Rattle.p9_table.specs.Trail.{stepped}
use Rattle.p9_space.specs.Walk.{child_among, child_ref, dir_fault, is_alive, is_alive_dir}
use Rattle.p9_space.specs.Walk.{is_searched, may_search, named_among, named_child, step_of, walk}
use Rattle.p9_table.specs.declared.row.Member.{Member}
use Rattle.p9_table.specs.declared.trail.Step.{Step}

pub or-true : (b : Bool) → (b || true) ≡ true
or-true true = refl
or-true false = refl

pub or-false : (b : Bool) → b ≡ (b || false)
or-false true = refl
or-false false = refl

-- what is true of the error that a `?` passes on
pub passed_on : {T E : Type 0} (r : Result T E) (e : E) (P : E → Type 0) → IsErrAnd r (λ y. y ≡ e)
    → P e → IfErr r P
passed_on (Ok x) e P same holds = absurd same
passed_on (Err y) e P same holds = subst P (sym same) holds

-- a value that is viewed is there or not, as it was
pub some-viewed : {X Y : Type 0} (view : X → Y) (o : Option X) (seen : Option Y)
    → option_map view o ≡ seen → true ≡ is_some o → is_some seen ≡ true
some-viewed view None seen same some = absurd (true≢false some)
some-viewed view (Some x) seen same some = ap is_some (sym same)

pub none-viewed : {X Y : Type 0} (view : X → Y) (o : Option X) (seen : Option Y)
    → option_map view o ≡ seen → false ≡ is_some o → seen ≡ None
none-viewed view None seen same none = sym same
none-viewed view (Some x) seen same none = absurd (true≢false (sym none))

module _ (forest : List Server) (table : List MountRow) (who : Option Who) where
  -- after a step by the next name, the walk along those that are left has the same end
  pub walk-on : (trail next : List NodeRef) (names : List (Bor (List ℕ))) (i : ℕ)
      (d : Bor (List ℕ)) (step : Step) (end : Result (List NodeRef) Fault) → i < length names
      → step_of forest table who trail (get_or names i d).now ≡ Ok step → next ≡ stepped trail step
      → walk forest table who trail (map (λ n. n.now) (drop i names)) ≡ end
      → walk forest table who next (map (λ n. n.now) (drop (i + 1) names)) ≡ end
  walk-on trail next names i d step end within found taken is =
      let rest = map (λ (n : Bor (List ℕ)). n.now) (drop (suc i) names) in
      ap (λ k. walk forest table who next (map (λ n. n.now) (drop k names))) (add-one i)
      ∙ ap (λ trail. walk forest table who trail rest) taken
      ∙ sym (ap (λ s. and_then s (λ step. walk forest table who (stepped trail step) rest)) found)
      ∙ sym (ap (λ left. walk forest table who trail (map (λ n. n.now) left))
      (drop-cons names i d within))
      ∙ is

  -- a step that is refused ends the walk
  pub walk-refused : (trail : List NodeRef) (names : List (Bor (List ℕ))) (i : ℕ)
      (d : Bor (List ℕ)) (fault : Fault) (end : Result (List NodeRef) Fault) → i < length names
      → step_of forest table who trail (get_or names i d).now ≡ Err fault
      → walk forest table who trail (map (λ n. n.now) (drop i names)) ≡ end → end ≡ Err fault
  walk-refused trail names i d fault end within refused is =
      let rest = map (λ (n : Bor (List ℕ)). n.now) (drop (suc i) names) in
      sym is
      ∙ ap (λ left. walk forest table who trail (map (λ n. n.now) left))
      (drop-cons names i d within)
      ∙ ap (λ s. and_then s (λ step. walk forest table who (stepped trail step) rest)) refused

  -- where no name is left the walk ends
  pub walk-done : (trail : List NodeRef) (names : List (Bor (List ℕ))) (i : ℕ)
      (end : Result (List NodeRef) Fault) → length names ≤ i
      → walk forest table who trail (map (λ n. n.now) (drop i names)) ≡ end → end ≡ Ok trail
  walk-done trail names i end past is =
      sym is ∙ ap (λ left. walk forest table who trail (map (λ n. n.now) left))
      (drop_all i names past)

module _ {X : Type 0} (p : X → Bool) where
  -- what passes so far or among the items that are left, after one more item
  pub any-on : (xs : List X) (i : ℕ) (d : X) (some here next all : Bool) → i < length xs
      → here ≡ p (get_or xs i d) → next ≡ (some || here) → (some || list_any p (drop i xs)) ≡ all
      → (next || list_any p (drop (i + 1) xs)) ≡ all
  any-on xs i d some here next all within is joined before =
      ap (λ b. b || list_any p (drop (i + 1) xs)) joined ∙ by some before
    where
      left : list_any p (drop i xs) ≡ (here || list_any p (drop (i + 1) xs))
      left =
          ap (list_any p) (drop-cons xs i d within)
          ∙ ap (λ b. b || list_any p (drop (suc i) xs)) (sym is)
          ∙ ap (λ k. here || list_any p (drop k xs)) (sym (add-one i))

      by : (some : Bool) → (some || list_any p (drop i xs)) ≡ all
          → ((some || here) || list_any p (drop (i + 1) xs)) ≡ all
      by true before = before
      by false before = sym left ∙ before

  -- an item that passes settles it
  pub any-here : (xs : List X) (i : ℕ) (d : X) (some all : Bool) → i < length xs
      → p (get_or xs i d) ≡ true → (some || list_any p (drop i xs)) ≡ all → all ≡ true
  any-here xs i d some all within passes is =
      sym is ∙ ap (λ left. some || list_any p left) (drop-cons xs i d within)
      ∙ ap (λ b. some || (b || list_any p (drop (suc i) xs))) passes ∙ or-true some

  -- where no item is left
  pub any-done : (xs : List X) (i : ℕ) (some all : Bool) → length xs ≤ i
      → (some || list_any p (drop i xs)) ≡ all → some ≡ all
  any-done xs i some all past is =
      or-false some ∙ ap (λ left. some || list_any p left) (sym (drop_all i xs past)) ∙ is

module _ (forest : List Server) (who : Option Who) where
  -- a member without a child of the name is passed over
  pub named-on : (name : Option (List ℕ)) (ms : List Member) (i : ℕ) (d : Member)
      (all : Option NodeRef) → i < length ms → named_child forest who name (get_or ms i d) ≡ None
      → named_among forest who name (drop i ms) ≡ all
      → named_among forest who name (drop (i + 1) ms) ≡ all
  named-on name ms i d all within none is =
      ap (λ k. named_among forest who name (drop k ms)) (add-one i)
      ∙ sym (by name none)
      ∙ sym (ap (named_among forest who name) (drop-cons ms i d within))
      ∙ is
    where
      by : (name : Option (List ℕ)) → named_child forest who name (get_or ms i d) ≡ None
          → named_among forest who name (get_or ms i d ∷ drop (suc i) ms)
          ≡ named_among forest who name (drop (suc i) ms)
      by None none = refl
      by (Some n) none = ap (λ o. option_or o (child_among forest who n (drop (suc i) ms))) none

  -- the first member with a child of the name has the one that is found
  pub named-here : (name : Option (List ℕ)) (ms : List Member) (i : ℕ) (d : Member)
      (all : Option NodeRef) → i < length ms
      → is_some (named_child forest who name (get_or ms i d)) ≡ true
      → named_among forest who name (drop i ms) ≡ all
      → named_child forest who name (get_or ms i d) ≡ all
  named-here name ms i d all within found is =
      sym (by name found)
      ∙ sym (ap (named_among forest who name) (drop-cons ms i d within))
      ∙ is
    where
      nothing : (b : Bool) → is_some {T = NodeRef} (cond b None None) ≡ true → ⊥
      nothing true is = true≢false (sym is)
      nothing false is = true≢false (sym is)

      first : (o other : Option NodeRef) → is_some o ≡ true → option_or o other ≡ o
      first None other is = absurd (true≢false (sym is))
      first (Some child) other is = refl

      by : (name : Option (List ℕ)) → is_some (named_child forest who name (get_or ms i d)) ≡ true
          → named_among forest who name (get_or ms i d ∷ drop (suc i) ms)
          ≡ named_child forest who name (get_or ms i d)
      by None found = absurd (nothing (is_searched forest who (get_or ms i d)) found)
      by (Some n) found =
          first (named_child forest who (Some n) (get_or ms i d))
          (child_among forest who n (drop (suc i) ms)) found

  -- where no member is left none is found
  pub named-done : (name : Option (List ℕ)) (ms : List Member) (i : ℕ) (all : Option NodeRef)
      → length ms ≤ i → named_among forest who name (drop i ms) ≡ all → None ≡ all
  named-done name ms i all past is =
      sym (by name) ∙ ap (named_among forest who name) (sym (drop_all i ms past)) ∙ is
    where
      by : (name : Option (List ℕ)) → named_among forest who name [] ≡ None
      by None = refl
      by (Some n) = refl

  -- a member with a child of the name may be searched, is a directory and exists
  named-searched : (name : Option (List ℕ)) (m : Member)
      → is_some (named_child forest who name m) ≡ true → is_searched forest who m ≡ true
  named-searched name m found = by (is_searched forest who m) found
    where
      by : (b : Bool)
          → is_some (cond b (option_and_then (child_ref forest m.node) name) None) ≡ true
          → b ≡ true
      by true found = refl
      by false found = absurd (true≢false (sym found))

  searched-dir : (m : Member) → is_searched forest who m ≡ true → is_alive_dir forest m ≡ true
  searched-dir m searched = by (node_of m.node forest) searched
    where
      by : (n : Option Node) → option_map_or (λ n. is_dir n && may_search who n) n false ≡ true
          → option_map_or is_dir n false ≡ true
      by None searched = searched
      by (Some n) searched = (and_parts (is_dir n) (may_search who n) searched).0

  dir-alive : (m : Member) → is_alive_dir forest m ≡ true → is_alive forest m ≡ true
  dir-alive m dir = by (node_of m.node forest) dir
    where
      by : (n : Option Node) → option_map_or is_dir n false ≡ true → is_some n ≡ true
      by None dir = dir
      by (Some n) dir = refl

  -- so what is found in it is what is found among all
  pub found-searched : (name : Option (List ℕ)) (ms : List Member) (i : ℕ) (d : Member)
      (here some all : Bool) → i < length ms
      → is_some (named_child forest who name (get_or ms i d)) ≡ true
      → here ≡ is_searched forest who (get_or ms i d)
      → (some || list_any (is_searched forest who) (drop i ms)) ≡ all → here ≡ all
  found-searched name ms i d here some all within found is before =
      let passes = named-searched name (get_or ms i d) found in
      is ∙ passes ∙ sym (any-here (is_searched forest who) ms i d some all within passes before)

  pub found-dir : (name : Option (List ℕ)) (ms : List Member) (i : ℕ) (d : Member)
      (here some all : Bool) → i < length ms
      → is_some (named_child forest who name (get_or ms i d)) ≡ true
      → here ≡ is_alive_dir forest (get_or ms i d)
      → (some || list_any (is_alive_dir forest) (drop i ms)) ≡ all → here ≡ all
  found-dir name ms i d here some all within found is before =
      let m = get_or ms i d in
      let passes = searched-dir m (named-searched name m found) in
      is ∙ passes ∙ sym (any-here (is_alive_dir forest) ms i d some all within passes before)

  pub found-alive : (name : Option (List ℕ)) (ms : List Member) (i : ℕ) (d : Member)
      (here some all : Bool) → i < length ms
      → is_some (named_child forest who name (get_or ms i d)) ≡ true
      → here ≡ is_alive forest (get_or ms i d)
      → (some || list_any (is_alive forest) (drop i ms)) ≡ all → here ≡ all
  found-alive name ms i d here some all within found is before =
      let m = get_or ms i d in
      let passes = dir-alive m (searched-dir m (named-searched name m found)) in
      is ∙ passes ∙ sym (any-here (is_alive forest) ms i d some all within passes before)

module _ (forest : List Server) (ms : List Member) where
  -- why no walk goes on from members
  pub fault-dead : list_any (is_alive forest) ms ≡ false → Some PhaseError ≡ dir_fault forest ms
  fault-dead dead =
      sym (ap (λ alive. if not alive then Some PhaseError
      else if not (list_any (is_alive_dir forest) ms) then Some NotDirectory else None) dead)

  pub fault-files : list_any (is_alive forest) ms ≡ true → list_any (is_alive_dir forest) ms ≡ false
      → Some NotDirectory ≡ dir_fault forest ms
  fault-files alive files =
      sym (ap₂ (λ alive dir. if not alive then Some PhaseError
      else if not dir then Some NotDirectory else None) alive files)

  pub fault-none : list_any (is_alive forest) ms ≡ true → list_any (is_alive_dir forest) ms ≡ true
      → None ≡ dir_fault forest ms
  fault-none alive dir =
      sym (ap₂ (λ alive dir. if not alive then Some PhaseError
      else if not dir then Some NotDirectory else None) alive dir)
