-- What the search keeps, where it begins and where it passes a member.
use Rattle.std.proofs.Common.{◌≡◌, ℕ, zero, suc, ◌+◌, ◌<◌, ◌≤◌, Bool, true, false, ◌&&◌, ◌||◌, List}
use Rattle.std.proofs.Common.{[], ◌∷◌, ◌++◌, length, Option, Some, None, refl, sym, ap, ◌∙◌, subst}
use Rattle.std.proofs.Common.{arith}
use Rattle.std.proofs.Common.{◌⊎◌, inl, inr, get_or, take}
use Rattle.std.specs.Prelude.{is_some, slice_get, if◌then◌else◌}
use Rattle.std.specs.Option.{option_map_or}
use Rattle.std.specs.List.{AllByRecursion, list_any}
use Rattle.std.proofs.lemmas.Bool.{or_left, or_right}
use Rattle.std.proofs.lemmas.List.{take_more}
use Rattle.std.proofs.lemmas.List.Folds.{list_any_at}
use Rattle.std.proofs.lemmas.Option.{slice_get-get_or}
use Rattle.p9_base.specs.declared.node_ref.NodeRef.{NodeRef}
use Rattle.p9_base.specs.NodeRef.{beside, same_node}
use Rattle.p9_tree.specs.Node.{Node, is_dir}
use Rattle.p9_tree.specs.Server.{Server}
use Rattle.p9_tree.specs.Forest.{IsForest, children_of, node_of, server_at}
use Rattle.p9_tree.specs.Inside.{is_hidden}
use Rattle.p9_tree.proofs.Lookups.{number-node_at}
use Rattle.p9_table.specs.declared.row.Member.{Member}
use Rattle.p9_space.specs.Place.{root_place}
use Rattle.p9_space.specs.Rights.{may, rules, to_execute, to_read, to_write}
use Rattle.p9_space.specs.Table.{MountRow, members_of}
use Rattle.p9_cert.specs.Closed.{IsClosed, IsShown}
use Rattle.p9_cert.specs.Listed.{is_open, is_owned, is_passable, may_use}
use Rattle.p9_cert.specs.Policy.{Policy}
use Rattle.p9_cert.specs.Rows.{is_row}
use Rattle.p9_cert.specs.Safe.{IsSafe, IsSafeMember, IsShut, Set}
use Rattle.p9_policy.proofs.Basics.{clash, each_weaker, not_some, same_ref, same_self, some_same}
use Rattle.p9_judge.specs.declared.search.Origin.{Origin}
use Rattle.p9_judge.specs.declared.search.Place.{Place}
use Rattle.p9_judge.specs.Breach.{IsPassed, breach_kind, is_listed, is_member_of_place, may_be_passed_by}
use Rattle.p9_judge.specs.Breach.{passer_of, place_breach}
use Rattle.p9_judge.specs.Search.{IsAmong, IsAt, IsGrown, IsReached, IsSearch, child_place}
use Rattle.p9_judge.specs.Search.{child_places, discovered}
use Rattle.p9_judge.proofs.Found.{at_child, child_at, named_child}
use Rattle.p9_judge.proofs.Lists.{all_at, at-within, at_map, kept_at, map_at, new_at, some_may}
use Rattle.p9_judge.proofs.Lists.{split_at}
use Rattle.p9_judge.proofs.Members.{member_found, member_safe, no_fault, passable-passer}
use Rattle.p9_judge.proofs.Members.{passer-node, passer-parts, passer-passable, safer}

-- The root place alone.

abbrev pub root_alone : List Place
root_alone = record { key = root_place; origin = None } ∷ []

module _ (policy : Policy) (f : List Server) (table : List MountRow) where
  at_root : (P : ℕ → Place → Type 0) → P 0 (record { key = root_place; origin = None })
      → (i : ℕ) (p : Place) → slice_get root_alone i ≡ Some p → P i p
  at_root P h zero p e = subst (P 0) (some_same (record { key = root_place; origin = None }) p e) h
  at_root P h (suc i) p e = not_some p e

  search-root : IsSearch policy f table root_alone []
  search-root = record {
    root = (0, (record { key = root_place; origin = None }, refl, refl));
    reached =
        at_root (λ i p. IsReached policy f table root_alone [] i p.key p.origin) refl;
    shown = λ at t. let no : false ≡ true = t in absurd (cc);
    children = λ at k n t there parent. let no : false ≡ true = t in absurd (cc);
    safe =
        λ other closed. at_root (λ i p. IsSafe policy f table other p.key) closed.root;
    needed = λ other closed at t. let no : false ≡ true = t in absurd (cc);
  }

  pub search_begins : (places : List Place) (passed : List NodeRef) → places ≡ root_alone
      → passed ≡ [] → IsSearch policy f table places passed
  search_begins places passed a b =
      subst (λ ps. IsSearch policy f table ps passed) (sym a)
      (subst (λ rs. IsSearch policy f table root_alone rs) (sym b) search-root)

  -- Growth.

  pub reached_more : (places more : List Place) (passed further : List NodeRef)
      → IsGrown places more passed further → (i : ℕ) (key : NodeRef) (o : Option Origin)
      → IsReached policy f table places passed i key o
      → IsReached policy f table more further i key o
  reached_more places more passed further g i key None r = r
  reached_more places more passed further g i key (Some o) r = (
    r.0,
    r.1,
    r.2,
    (r.3.0, g.kept o.from r.3.0 r.3.1, r.3.2),
    r.4,
    r.5,
    g.still o.member r.6,
  )

  pub among_more : (places more : List Place) (passed further : List NodeRef)
      → IsGrown places more passed further → (key : NodeRef) → IsAmong places key
      → IsAmong more key
  among_more places more passed further g key a =
      (a.0, (a.1.0, g.kept a.0 a.1.0 a.1.1, a.1.2))

-- nothing is lost in two turns
pub grown_twice : (a b c : List Place) (p q r : List NodeRef) → IsGrown a b p q → IsGrown b c q r
    → IsGrown a c p r
grown_twice a b c p q r g h = record {
  kept = λ i x e. h.kept i x (g.kept i x e);
  still = λ at t. h.still at (g.still at t);
}

module _ (policy : Policy) (f : List Server) (table : List MountRow) (sound : IsForest f) where
  -- The same places and directories, listed otherwise.

  same_grown : (places more : List Place) (passed further : List NodeRef) → more ≡ places
      → ((r : NodeRef) → is_row further r ≡ is_row passed r) → IsGrown places more passed further
  same_grown places more passed further a b = record {
    kept = λ i p e. ap (λ ps. slice_get ps i) a ∙ e;
    still = λ r t. b r ∙ t;
  }

  search_same : (places more : List Place) (passed further : List NodeRef) → more ≡ places
      → ((r : NodeRef) → is_row further r ≡ is_row passed r)
      → IsSearch policy f table places passed → IsSearch policy f table more further
  search_same places more passed further a b s =
      let g = same_grown places more passed further a b in
      record {
        root = among_more policy f table places more passed further g root_place s.root;
        reached =
            λ i p e. reached_more policy f table places more passed further g i p.key p.origin
            (s.reached i p (back i p e));
        shown = λ r t. s.shown r (sym (b r) ∙ t);
        children =
            λ r k n t there parent. among_more policy f table places more passed further g
            (beside r k) (s.children r k n (sym (b r) ∙ t) there parent);
        safe = λ other closed i p e. s.safe other closed i p (back i p e);
        needed = λ other closed r t. s.needed other closed r (sym (b r) ∙ t);
      }
    where
      back : (i : ℕ) (p : Place) → slice_get more i ≡ Some p → slice_get places i ≡ Some p
      back i p e = ap (λ ps. slice_get ps i) (sym a) ∙ e

  -- A member that some listed user may pass, and that has no fault.

  module _ (member : NodeRef) (fine : breach_kind policy f member ≡ None) (user : List ℕ)
      (passer : passer_of policy f member ≡ Some user) where
    safe : IsSafeMember policy f (λ r. true) member
    safe = member_safe policy f (λ r. true) member fine (λ n w pass. refl)

    -- who may pass it may use it, or rules it
    not_shut : (n : Node) → is_listed policy user ≡ true → may_be_passed_by policy n user ≡ true
        → IsShut policy n → ⊥
    unfolding is_open is_owned
    not_shut n listed passes shut =
        go (may who n to_execute) refl passes
      where
        who : Rattle.p9_space.specs.Rights.Who
        who = record { user = user; groups = policy.groups }

        go : (b : Bool) → may (record { user = user; groups = policy.groups }) n to_execute ≡ b
            → (b || rules (record { user = user; groups = policy.groups }) n) ≡ true → ⊥
        go true t h =
            clash (is_open policy.users policy.groups n)
            (some_may (λ u. may_use n (record { user = u; groups = policy.groups })) policy.users
            user listed
            (or_right
            (may (record { user = user; groups = policy.groups }) n to_read
            || may (record { user = user; groups = policy.groups }) n to_write)
            (may (record { user = user; groups = policy.groups }) n to_execute) t))
            shut.unused
        go false t h =
            clash (is_owned policy.users policy.groups n)
            (some_may (λ u. rules (record { user = u; groups = policy.groups }) n) policy.users
            user listed h)
            shut.unruled

    pub member-shown : IsShown policy f member
    member-shown =
        let found = passer-node policy f member user passer in
        let parts = passer-parts policy f found.0 user found.2 in
        record {
          dir = ap (λ o. option_map_or is_dir o false) found.1 ∙ parts.0;
          not_hidden = go found.0 found.1 parts.1 parts.2 (is_hidden member policy.hidden) refl;
          outside = safe.outside;
        }
      where
        go : (n : Node) → node_of member f ≡ Some n → is_listed policy user ≡ true
            → may_be_passed_by policy n user ≡ true → (b : Bool)
            → is_hidden member policy.hidden ≡ b → is_hidden member policy.hidden ≡ false
        go n w listed passes true hid = absurd (not_shut n listed passes (safe.shut hid n w))
        go n w listed passes false hid = hid

    -- It is among the members of a place, and is passed for the first time.

    module _ (places more : List Place) (passed further : List NodeRef)
        (s : IsSearch policy f table places passed) (from : ℕ) (key : NodeRef)
        (at : IsAt places from key) (is_held : is_member_of_place table key member ≡ true)
        (grew : more ≡ places ++ child_places f from member)
        (rows : (r : NodeRef) → is_row further r ≡ (is_row passed r || same_node member r)) where
      new_grown : IsGrown places more passed further
      new_grown = record {
        kept =
            λ i p e. ap (λ ps. slice_get ps i) grew
            ∙ kept_at places (child_places f from member) i p e;
        still = λ r t. rows r ∙ or_left (is_row passed r) (same_node member r) t;
      }

      -- a row was there, or is the member
      new_row : (r : NodeRef) → is_row further r ≡ true
          → (is_row passed r ≡ true) ⊎ (member ≡ r)
      new_row r t = go (is_row passed r) refl (sym (rows r) ∙ t)
        where
          go : (b : Bool) → is_row passed r ≡ b → (b || same_node member r) ≡ true
              → (is_row passed r ≡ true) ⊎ (member ≡ r)
          go true e h = inl e
          go false e h = inr (same_ref member r h)

      -- a place was there, or is a child's
      new_place : (i : ℕ) (p : Place) → slice_get more i ≡ Some p
          → (slice_get places i ≡ Some p)
          ⊎ ((n : Node) × (child_place from member n ≡ p) × (length places ≤ i)
          × (node_of (beside member n.number) f ≡ Some n) × (n.parent ≡ Some member.number))
      new_place i p e =
          elim (split_at places (child_places f from member) i p
          (ap (λ ps. slice_get ps i) (sym grew) ∙ e)) [
            | inl there ↦ inl there
            | inr new ↦ (let image = map_at (child_place from member) (children_of member f)
                new.0 p new.2 in
                let child = child_at f sound member new.0 image.0 image.1 in
                let past : length places ≤ i = at_past (length places) new.0 i new.1 in
                inr (image.0, image.2, past, child.0, child.1))
          ]
        where
          at_past : (m j i : ℕ) → i ≡ m + j → m ≤ i
          at_past m j i e = omega arith

      row_member : is_row further member ≡ true
      row_member =
          rows member
          ∙ or_right (is_row passed member) (same_node member member) (same_self member)

      -- each closed certificate has the member
      member-needed : (other : Set) → IsClosed policy f table other → other member ≡ true
      member-needed other closed =
          let found = passer-node policy f member user passer in
          let here =
          subst (λ k. IsSafe policy f table other k) at.2 (s.safe other closed from at.0 at.1) in
          let m =
          member_found (IsSafeMember policy f other) (members_of key table) here member is_held in
          m.covered found.0 found.1 (passer-passable policy f found.0 user found.2)

      step_passed : (n : Node) → node_of (beside member n.number) f ≡ Some n
          → n.parent ≡ Some member.number
          → IsPassed policy f table key
          (record { name = n.name; member = member; user = user }) n
      step_passed n there parent =
          let found = passer-node policy f member user passer in
          let parts = passer-parts policy f found.0 user found.2 in
          record {
            member = is_held;
            listed = parts.1;
            dir = found.0;
            there = found.1;
            is_directory = parts.0;
            passes = parts.2;
            named = named_child f sound member n there parent;
          }

      search_new : IsSearch policy f table more further
      search_new = record {
        root = among_more policy f table places more passed further new_grown root_place s.root;
        reached = λ i p e. elim (new_place i p e) [
          | inl there ↦ reached_more policy f table places more passed further new_grown i p.key
              p.origin (s.reached i p there)
          | inr new ↦ (let lt : from < i = before (at-within places from at.0 at.1) new.2 in
              subst (λ (q : Place). IsReached policy f table more further i q.key q.origin) new.1 (
                key,
                new.0,
                lt,
                (at.0, new_grown.kept from at.0 at.1, at.2),
                (
                  record { name = new.0.name; member = member; user = user },
                  record { name = refl; member = refl; user = passer },
                  step_passed new.0 new.3 new.4,
                ),
                refl,
                row_member,
              ))
        ];
        shown = λ r t. elim (new_row r t) [
          | inl old ↦ s.shown r old
          | inr same ↦ subst (IsShown policy f) same member-shown
        ];
        children = λ r k n t there parent. elim (new_row r t) [
          | inl old ↦ among_more policy f table places more passed further new_grown (beside r k)
              (s.children r k n old there parent)
          | inr same ↦ subst (λ q. node_of (beside q k) f ≡ Some n → n.parent ≡ Some q.number
              → IsAmong more (beside q k)) same (children_new k n) there parent
        ];
        safe = λ other closed i p e. elim (new_place i p e) [
          | inl there ↦ s.safe other closed i p there
          | inr new ↦ subst (λ (q : Place). IsSafe policy f table other q.key) new.1
              (closed.children member new.0.number new.0 (member-needed other closed) new.3 new.4)
        ];
        needed = λ other closed r t. elim (new_row r t) [
          | inl old ↦ s.needed other closed r old
          | inr same ↦ subst (λ q. other q ≡ true) same (member-needed other closed)
        ];
      }
        where
          before : {m i : ℕ} → from < m → m ≤ i → from < i
          before a b = omega arith

          children_new : (k : ℕ) (n : Node) → node_of (beside member k) f ≡ Some n
              → n.parent ≡ Some member.number → IsAmong more (beside member k)
          children_new k n there parent =
              let j = at_child f sound member k n there parent in
              let image =
              at_map (child_place from member) (children_of member f) j.0 n j.1 in
              let number = number-node_at k (server_at member.server f).nodes n there in (
                length places + j.0,
                (
                  child_place from member n,
                  ap (λ ps. slice_get ps (length places + j.0)) grew
                      ∙ new_at places (child_places f from member) j.0
                      (child_place from member n) image,
                  ap (beside member) number,
                ),
              )

  -- A member without a fault, whoever may pass it.

  module _ (places more : List Place) (passed further : List NodeRef)
      (s : IsSearch policy f table places passed) (from : ℕ) (key : NodeRef)
      (at : IsAt places from key) (member : NodeRef) (is_held : is_member_of_place table key member ≡ true)
      (fine : breach_kind policy f member ≡ None)
      (grew : more ≡ places ++ discovered policy f from passed member)
      (rows : (r : NodeRef) → is_row further r
      ≡ (is_row passed r || (is_some (passer_of policy f member) && same_node member r))) where
    abbrev Wanted : Type 0
    Wanted = IsSearch policy f table more further × IsGrown places more passed further

    nothing_new : more ≡ places ++ [] → ((r : NodeRef) → is_row further r ≡ is_row passed r)
        → Wanted
    nothing_new a b =
        let e : more ≡ places = a ∙ append_nil places in
        (search_same places more passed further e b s, same_grown places more passed further e b)
      where
        append_nil : (xs : List Place) → xs ++ [] ≡ xs
        append_nil [] = refl
        append_nil (x ∷ xs) = ap (λ ys. x ∷ ys) (append_nil xs)

    pub search_member : Wanted
    search_member = go (passer_of policy f member) refl grew rows
      where
        or_false : (b : Bool) → (b || false) ≡ b
        or_false true = refl
        or_false false = refl

        absorbed : is_row passed member ≡ true → (r : NodeRef)
            → (is_row passed r || same_node member r) ≡ is_row passed r
        absorbed t r = by (is_row passed r) (same_node member r) refl refl
          where
            by : (a b : Bool) → is_row passed r ≡ a → same_node member r ≡ b → (a || b) ≡ a
            by true b p q = refl
            by false false p q = refl
            by false true p q =
                clash (is_row passed r)
                (subst (λ z. is_row passed z ≡ true) (same_ref member r q) t) p

        again : (user : List ℕ) → passer_of policy f member ≡ Some user → (b : Bool)
            → is_row passed member ≡ b
            → more ≡ places ++ (if b then [] else child_places f from member)
            → ((r : NodeRef) → is_row further r ≡ (is_row passed r || same_node member r))
            → Wanted
        again user w true t a b = nothing_new a (λ r. b r ∙ absorbed t r)
        again user w false t a b = (
          search_new member fine user w places more passed further s from key at is_held a b,
          new_grown member fine user w places more passed further s from key at is_held a b,
        )

        go : (o : Option (List ℕ)) → passer_of policy f member ≡ o
            → more ≡ places ++ option_map_or
            (λ _. if is_row passed member then [] else child_places f from member) o []
            → ((r : NodeRef)
            → is_row further r ≡ (is_row passed r || (is_some o && same_node member r)))
            → Wanted
        go None w a b = nothing_new a (λ r. b r ∙ or_false (is_row passed r))
        go (Some user) w a b = again user w (is_row passed member) refl a b

    -- the member is safe now
    pub member_tested : IsSafeMember policy f (is_row further) member
    member_tested =
        member_safe policy f (is_row further) member fine (λ n w pass. stand n w pass)
      where
        stand : (n : Node) → node_of member f ≡ Some n
            → is_passable policy.users policy.groups n ≡ true → is_row further member ≡ true
        stand n w pass =
            let user = passable-passer policy f n pass in
            let found : passer_of policy f member ≡ Some user.0 =
            ap (λ o. Rattle.std.proofs.Common.option_and_then
            (Rattle.p9_judge.specs.Breach.first_passer policy) o) w ∙ user.1 in
            rows member
            ∙ ap (λ o. is_row passed member || (is_some o && same_node member member)) found
            ∙ or_right (is_row passed member) (same_node member member) (same_self member)

-- Member after member.

pub all_push : {X : Type 0} (P : X → Type 0) (xs : List X) (x : X) → AllByRecursion P xs → P x
    → AllByRecursion P (xs ++ x ∷ [])
all_push P [] x all h = (h, tt)
all_push P (y ∷ ys) x all h = (all.0, all_push P ys x all.1 h)

module _ (policy : Policy) (f : List Server) (table : List MountRow) (sound : IsForest f) where
  module _ (places more : List Place) (passed further : List NodeRef)
      (s : IsSearch policy f table places passed) (from : ℕ) (key : NodeRef)
      (at : IsAt places from key) (members : List Member) (all : members ≡ members_of key table)
      (fine : place_breach policy f table key ≡ None) (i : ℕ) (d : Member)
      (within : i < length members)
      (grew : more ≡ places ++ discovered policy f from passed (get_or members i d).node)
      (rows : (r : NodeRef) → is_row further r
      ≡ (is_row passed r
      || (is_some (passer_of policy f (get_or members i d).node)
      && same_node (get_or members i d).node r)))
      (safe : AllByRecursion (λ m. IsSafeMember policy f (is_row passed) m.node)
      (take i members)) where
    abbrev here : Member
    here = get_or members i d

    is_held : is_member_of_place table key here.node ≡ true
    is_held =
        ap (λ ms. list_any (λ m. same_node m.node here.node) ms) (sym all)
        ∙ list_any_at (λ m. same_node m.node here.node) members i d within
        (same_self here.node)

    no_breach : breach_kind policy f here.node ≡ None
    no_breach =
        all_at (λ m. breach_kind policy f m.node ≡ None) members i here
        (subst (AllByRecursion (λ m. breach_kind policy f m.node ≡ None)) (sym all)
        (no_fault policy f table key fine))
        (slice_get-get_or members i d within)

    both : IsSearch policy f table more further × IsGrown places more passed further
    both =
        search_member policy f table sound places more passed further s from key at here.node is_held
        no_breach grew rows

    pub next_search : IsSearch policy f table more further
    next_search = both.0

    pub next_grown : IsGrown places more passed further
    next_grown = both.1

    pub next_safe : AllByRecursion (λ m. IsSafeMember policy f (is_row further) m.node)
        (take (i + 1) members)
    next_safe =
        subst (AllByRecursion (λ m. IsSafeMember policy f (is_row further) m.node))
        (sym (take_more members i d within))
        (all_push (λ m. IsSafeMember policy f (is_row further) m.node) (take i members) here
        (each_weaker (λ (m : Member). IsSafeMember policy f (is_row passed) m.node)
        (λ (m : Member). IsSafeMember policy f (is_row further) m.node)
        (λ (m : Member) w. safer policy f (is_row passed) (is_row further) next_grown.still m.node
        w)
        (take i members) safe)
        (member_tested policy f table sound places more passed further s from key at here.node
        is_held no_breach grew rows))
