-- What the search's end says.
use Rattle.std.proofs.Common.{◌≡◌, ℕ, ◌+◌, ◌<◌, Bool, true, false, ◌||◌, List, [], ◌∷◌, length}
use Rattle.std.proofs.Common.{Option, Some, None, refl, sym, ap, ◌∙◌, subst, arith, inl, inr}
use Rattle.std.specs.Prelude.{slice_get, option_and_then, option_map, is_some, MatchOption, IsTrue}
use Rattle.std.specs.List.{AllByRecursion}
use Rattle.std.proofs.lemmas.Bool.{cases_lt}
use Rattle.p9_base.specs.declared.node_ref.NodeRef.{NodeRef}
use Rattle.p9_base.specs.NodeRef.{beside, same_node}
use Rattle.p9_tree.specs.Server.{Server, next_max}
use Rattle.p9_tree.specs.Forest.{IsForest}
use Rattle.p9_tree.specs.Inside.{is_barred}
use Rattle.p9_inside.proofs.Forests.{barred_is_hidden_or_inside}
use Rattle.p9_table.specs.declared.row.Member.{Member}
use Rattle.p9_space.specs.Given.{is_table_given}
use Rattle.p9_space.specs.Place.{root_place}
use Rattle.p9_space.specs.Table.{MountRow, members_of}
use Rattle.p9_policy.specs.Barred.{AreNotBarred}
use Rattle.p9_cert.specs.Closed.{IsClosed}
use Rattle.p9_cert.specs.Policy.{Policy}
use Rattle.p9_cert.specs.Rows.{is_row}
use Rattle.p9_cert.specs.Safe.{IsSafe, IsSafeMember, Set}
use Rattle.p9_policy.proofs.Basics.{each_weaker, not_some, same_ref, some_same}
use Rattle.p9_cert.proofs.Firsts.{none-past}
use Rattle.p9_cert.proofs.Gaps.{no_gap_is_closed}
use Rattle.p9_judge.specs.declared.breach.BreachKind.{BreachKind}
use Rattle.p9_judge.specs.declared.breach.Step.{Step}
use Rattle.p9_judge.specs.declared.search.Origin.{Origin}
use Rattle.p9_judge.specs.declared.search.Place.{Place}
use Rattle.p9_judge.specs.Breach.{IsBreach, IsByFirst, IsPassed, Lead}
use Rattle.p9_judge.specs.Breach.{passer_of, place_breach}
use Rattle.p9_judge.specs.Search.{ArePassed, AreTested, IsAmong, IsGrown, IsReached, IsSearch}
use Rattle.p9_judge.specs.Search.{IsStepFrom, IsWay, IsWayTo}
use Rattle.p9_judge.specs.Verdict.{IsLeast}
use Rattle.p9_judge.proofs.Found.{dir-small}
use Rattle.p9_judge.proofs.Lists.{at-within, within-at}
use Rattle.p9_judge.proofs.Members.{fault_found, safer}

-- what a place was discovered from

pub discovered-from : (places : List Place) (i : ℕ) (origin : Origin)
    → Some origin ≡ option_and_then (λ (p : Place). p.origin) (slice_get places i)
    → (p : Place) × (slice_get places i ≡ Some p) × (p.origin ≡ Some origin)
discovered-from places i origin e = go (slice_get places i) refl e
  where
    go : (o : Option Place) → slice_get places i ≡ o
        → Some origin ≡ option_and_then (λ (p : Place). p.origin) o
        → (p : Place) × (slice_get places i ≡ Some p) × (p.origin ≡ Some origin)
    go None there e = not_some origin (sym e)
    go (Some p) there e = (p, there, sym e)

pub discovered-nowhere : (places : List Place) (i : ℕ) (p : Place) → slice_get places i ≡ Some p
    → None ≡ option_and_then (λ (p : Place). p.origin) (slice_get places i) → p.origin ≡ None
discovered-nowhere places i p there e =
    sym (e ∙ ap (option_and_then (λ (p : Place). p.origin)) there)

module _ (policy : Policy) (f : List Server) (table : List MountRow) where
  place_safer : (less more : Set) → ((at : NodeRef) → IsTrue (less at) → IsTrue (more at))
      → (place : NodeRef) → IsSafe policy f table less place → IsSafe policy f table more place
  place_safer less more h place =
      each_weaker (λ (m : Member). IsSafeMember policy f less m.node)
      (λ (m : Member). IsSafeMember policy f more m.node)
      (λ (m : Member) s. safer policy f less more h m.node s) (members_of place table)

  -- a place more is tested
  pub tested_more : (places more : List Place) (passed further : List NodeRef)
      → IsGrown places more passed further → (n : ℕ) (p : Place) → slice_get places n ≡ Some p
      → IsSafe policy f table (is_row further) p.key
      → AreTested policy f table n places passed
      → AreTested policy f table (n + 1) more further
  tested_more places more passed further g n p at safe tested i q lt there =
      elim (cases_lt i n) [
        | inl below ↦ earlier below (within-at places i (past below (at-within places n p at)))
        | inr above ↦ (let same : n ≡ i = omega arith in
            let one : Some p ≡ Some q =
            sym (g.kept n p at) ∙ ap (slice_get more) same ∙ there in
            subst (λ (r : Place). IsSafe policy f table (is_row further) r.key)
            (some_same p q one) safe)
      ]
    where
      past : {m : ℕ} → i < n → n < m → i < m
      past a b = omega arith

      earlier : i < n → (x : Place) × (slice_get places i ≡ Some x)
          → IsSafe policy f table (is_row further) q.key
      earlier below x =
          let one : Some x.0 ≡ Some q = sym (g.kept i x.0 x.1) ∙ there in
          subst (λ (r : Place). IsSafe policy f table (is_row further) r.key)
          (some_same x.0 q one)
          (place_safer (is_row passed) (is_row further) g.still x.0.key
          (tested i x.0 below x.1))

  module _ (sound : IsForest f) (places : List Place) (passed : List NodeRef)
      (s : IsSearch policy f table places passed) where
    -- a passed directory is not hidden or inside
    not_barred : (at : NodeRef) → is_row passed at ≡ true → is_barred at policy.hidden f ≡ false
    not_barred at t =
        let w = s.shown at t in
        barred_is_hidden_or_inside policy.hidden f at sound ∙ rw (w.not_hidden, w.outside) refl

    -- nor is the directory that a place was discovered in
    pub parent_shown : (i : ℕ) (p : Place) → slice_get places i ≡ Some p
        → (parent : Option NodeRef)
        → parent ≡ option_map (λ (o : Origin). o.member) p.origin → (nodes : List NodeRef)
        → MatchOption parent (nodes ≡ []) (λ x. nodes ≡ x ∷ [])
        → AreNotBarred policy.hidden f nodes
    parent_shown i p at parent e nodes m = record {
      each = go parent p.origin e (s.reached i p at) m;
    }
      where
        none : (ns : List NodeRef) → ns ≡ [] → (r : NodeRef) → is_row ns r ≡ true
            → is_barred r policy.hidden f ≡ false
        none ns e r t = let no : false ≡ true = ap (λ xs. is_row xs r) (sym e) ∙ t in absurd (cc)

        alone : (x : NodeRef) (ns : List NodeRef) → ns ≡ x ∷ []
            → is_barred x policy.hidden f ≡ false → (r : NodeRef) → is_row ns r ≡ true
            → is_barred r policy.hidden f ≡ false
        alone x ns e out r t = by (same_node x r) refl (ap (λ xs. is_row xs r) (sym e) ∙ t)
          where
            by : (b : Bool) → same_node x r ≡ b → (b || false) ≡ true
                → is_barred r policy.hidden f ≡ false
            by true q h = subst (λ y. is_barred y policy.hidden f ≡ false) (same_ref x r q) out
            by false q h = let no : false ≡ true = h in absurd (cc)

        go : (x : Option NodeRef) (o : Option Origin)
            → x ≡ option_map (λ (o : Origin). o.member) o
            → IsReached policy f table places passed i p.key o
            → MatchOption x (nodes ≡ []) (λ y. nodes ≡ y ∷ [])
            → (r : NodeRef) → is_row nodes r ≡ true → is_barred r policy.hidden f ≡ false
        go None o e r m = none nodes m
        go (Some x) None e r m = not_some x (sym e)
        go (Some x) (Some o) e r m =
            alone x nodes m
            (subst (λ y. is_barred y policy.hidden f ≡ false)
            (sym (some_same x o.member e)) (not_barred o.member r.6))

    -- The way to a breach.

    -- a place that was discovered from nowhere is the root place
    from_nowhere : (i : ℕ) (key : NodeRef) (o : Option Origin) → o ≡ None
        → IsReached policy f table places passed i key o → key ≡ root_place
    from_nowhere i key None e r = r
    from_nowhere i key (Some o) e r = let no : Some o ≡ None = e in absurd (cc)

    -- two steps from one place to one name by the first user are one
    one_step : (o : Origin) (a b : Step) → IsStepFrom policy f o a → IsStepFrom policy f o b → a ≡ b
    one_step o a b first second =
        let name : a.name ≡ b.name = first.name ∙ sym second.name in
        let member : a.member ≡ b.member = first.member ∙ sym second.member in
        let user : a.user ≡ b.user = some_same a.user b.user (sym first.user ∙ second.user) in
        λ i. record { name = name i; member = member i; user = user i }

    by_first : (o : Origin) (step : Step) → IsStepFrom policy f o step → IsByFirst policy f step
    by_first o step first = ap (passer_of policy f) first.member ∙ first.user

    way_leads : (last : ℕ) (q : Place) → slice_get places last ≡ Some q → (steps : List Step)
        (i : ℕ) (p : Place) → slice_get places i ≡ Some p → IsWay policy f places i steps last
        → Lead policy f table p.key steps q.key × AllByRecursion (IsByFirst policy f) steps
    way_leads last q there [] i p at w =
        let one : Some p ≡ Some q = sym at ∙ ap (slice_get places) w ∙ there in
        (ap (λ (r : Place). r.key) (some_same p q one), tt)
    way_leads last q there (step ∷ steps) i p at w =
        go w.0 w.1 w.2 w.3 w.4 w.5 w.6 (way_leads last q there steps w.0 w.1 w.3 w.7)
      where
        turned : (next : ℕ) (pn : Place) (origin : Origin)
            → IsReached policy f table places passed next pn.key (Some origin) → origin.from ≡ i
            → IsStepFrom policy f origin step
            → Lead policy f table pn.key steps q.key
            → AllByRecursion (IsByFirst policy f) steps
            → Lead policy f table p.key (step ∷ steps) q.key
            × AllByRecursion (IsByFirst policy f) (step ∷ steps)
        turned next pn origin r back by lead first =
            let one : Some r.3.0 ≡ Some p = sym r.3.1 ∙ ap (slice_get places) back ∙ at in
            let from : r.0 ≡ p.key =
            sym r.3.2 ∙ ap (λ (x : Place). x.key) (some_same r.3.0 p one) in
            let same : r.4.0 ≡ step = one_step origin r.4.0 step r.4.1 by in
            let passes =
            subst (λ k. IsPassed policy f table k step r.1) from
            (subst (λ x. IsPassed policy f table r.0 x r.1) same r.4.2) in
            let key : pn.key ≡ beside step.member r.1.number =
            r.5 ∙ ap (λ m. beside m r.1.number) (sym by.member) in
            let on = subst (λ k. Lead policy f table k steps q.key) key lead in
            ((r.1, passes, on), (by_first origin step by, first))

        go : (next : ℕ) (pn : Place) (origin : Origin) → slice_get places next ≡ Some pn
            → pn.origin ≡ Some origin → origin.from ≡ i → IsStepFrom policy f origin step
            → Lead policy f table pn.key steps q.key × AllByRecursion (IsByFirst policy f) steps
            → Lead policy f table p.key (step ∷ steps) q.key
            × AllByRecursion (IsByFirst policy f) (step ∷ steps)
        go next pn origin here come back by later =
            let r =
            subst (λ o. IsReached policy f table places passed next pn.key o) come
            (s.reached next pn here) in
            turned next pn origin r back by later.0 later.1

    -- each place was discovered through a member that somebody may pass
    pub are_passed : ArePassed policy f places
    are_passed i p origin at e =
        let r =
        subst (λ o. IsReached policy f table places passed i p.key o) e (s.reached i p at) in
        (r.2, ap is_some r.4.1.user)

    pub found_breach : (i : ℕ) (p : Place) → slice_get places i ≡ Some p → (steps : List Step)
        → IsWayTo policy f places steps i → (member : NodeRef) (kind : BreachKind)
        → place_breach policy f table p.key ≡ Some (member, kind)
        → IsBreach policy f table steps member kind × AllByRecursion (IsByFirst policy f) steps
    found_breach i p at steps w member kind e =
        let way = way_leads i p at steps w.0 w.1 w.2 w.4 in
        let root = from_nowhere w.0 w.1.key w.1.origin w.3 (s.reached w.0 w.1 w.2) in
        let fault = fault_found policy f (members_of p.key table) member kind e in (
          record {
            place = p.key;
            way = subst (λ k. Lead policy f table k steps p.key) root way.0;
            member_of_place = fault.0;
            fault = fault.1;
          },
          way.1,
        )

    -- Where no place is left.

    -- a passed directory has a number that a server may give
    pub passed-small : (at : NodeRef) → is_row passed at ≡ true → at.number < next_max
    passed-small at t = dir-small f sound at (s.shown at t).dir

    module _ (n : ℕ) (none : slice_get places n ≡ None)
        (tested : AreTested policy f table n places passed) where
      all_safe : (key : NodeRef) → IsAmong places key
          → IsSafe policy f table (is_row passed) key
      all_safe key a =
          subst (λ k. IsSafe policy f table (is_row passed) k) a.1.2
          (tested a.0 a.1.0 (before (at-within places a.0 a.1.0 a.1.1)) a.1.1)
        where
          before : a.0 < length places → a.0 < n
          before lt = elim (cases_lt a.0 n) [
            | inl below ↦ below
            | inr above ↦ absurd (none-past places n none (omega arith))
          ]

      closed : is_table_given f table ≡ true → IsClosed policy f table (is_row passed)
      closed given = record {
        given = given;
        rows = s.shown;
        root = all_safe root_place s.root;
        children =
            λ at k m t there parent. all_safe (beside at k) (s.children at k m t there parent);
      }

      pub least : IsLeast policy f table passed
      least = record {
        closed = λ given. (no_gap_is_closed policy f table passed sound).1 (closed given);
        least = s.needed;
      }
