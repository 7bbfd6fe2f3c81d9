-- A file that was created is found by a walk, and listed.
use Rattle.std.proofs.Common.{◌≡◌, ℕ, ◌<◌, Bool, true, false, List, [], ◌∷◌, ◌++◌, Option, Some}
use Rattle.std.proofs.Common.{None, Ok, Err, refl, ap, sym, ◌∙◌, subst, arith, length, is_some, filter}
use Rattle.std.specs.Prelude.{◌==◌, ◌&&◌, ◌||◌, codes, nat_le, not}
use Rattle.std.specs.Str.{bytes_eq}
use Rattle.std.specs.List.{AllByRecursion, list_any}
use Rattle.std.proofs.lemmas.Bool.{and_parts}
use Rattle.std.proofs.lemmas.Bool.Decides.{nat_tests}
use Rattle.std.proofs.lemmas.List.Elements.{recursion_from_All}
use Rattle.std.proofs.lemmas.List.Folds.{find-append}
use Rattle.std.proofs.lemmas.Slice.Eq.{bytes_eq-Decides}
use Rattle.p9_base.specs.declared.node_ref.NodeRef.{NodeRef}
use Rattle.p9_base.specs.Name.{is_name, is_slash, name_max}
use Rattle.p9_base.specs.NodeRef.{beside}
use Rattle.p9_base.specs.Text.{is_text}
use Rattle.p9_tree.specs.Forest.{IsForest, child_in, children_of, forest_changed_at, next_of, node_of}
use Rattle.p9_tree.specs.Forest.{server_at, tree_changed_at}
use Rattle.p9_tree.specs.Node.{Node, has_number, is_child, is_dir, is_in, marked}
use Rattle.p9_tree.specs.Server.{Server, WellFormed, added, child_of, node_at, with_changed}
use Rattle.p9_tree.proofs.Changed.{KeepsPlace, keeps-marked, node_at-changed_at}
use Rattle.p9_tree.proofs.Lookups.{All-node_at, node_at-past, number-node_at}
use Rattle.p9_table.specs.declared.row.Member.{Member}
use Rattle.p9_space.specs.Place.{file_of}
use Rattle.p9_space.specs.Rights.{Who}
use Rattle.p9_space.specs.Table.{MountRow, members_of}
use Rattle.p9_space.specs.Trail.{here, places_max}
use Rattle.p9_space.specs.Walk.{child_ref, is_alive, is_alive_dir, is_searched, may_search, walk}
use Rattle.p9_wire.specs.Message.{Rcreate, Tcreate}
use Rattle.p9_fids.specs.Fid.{Fid}
use Rattle.p9_step.specs.Answer.{Answer, Outcome, outcome_of}
use Rattle.p9_step.specs.ForestChange.{ForestChange, all_applied, applied, edited}
use Rattle.p9_step.specs.Create.{create_answer, created, permitting}
use Rattle.p9_step.specs.Listing.{entries_from, listing}
use Rattle.p9_step.specs.State.{changed_session}
use Rattle.p9_step.proofs.Done.{OnDone}
use Rattle.p9_step.proofs.Evolves.{server_well}
use Rattle.p9_step.proofs.Found.{node_at-added, node_of-changed, server_at-tree_changed_at}
use Rattle.p9_step.proofs.Members.{found-member}
use Rattle.p9_step.proofs.NodeRefs.{here-pushed, new-file}
use Rattle.p9_step.proofs.Passed.{CreateDone, create-done}
use Rattle.p9_manual_laws.specs.Asked.{Asked, after_outcome, asked}
use Rattle.p9_manual_laws.specs.Creates.{CreatedIsFound, IsMade, IsPassedBy, Lists}
use Rattle.p9_manual_laws.specs.Modes.{IsMasked}
use Rattle.p9_manual_laws.proofs.Children.{joined_child, joined_children}
use Rattle.p9_manual_laws.proofs.Masks.{mode_of-bits, new_mode_is_masked}
use Rattle.p9_manual_laws.proofs.Unions.{any_behind, child_behind, lists_behind}

-- a forest after a node joined a directory, which was changed in its place
abbrev joined : List Server → NodeRef → Node → List Server
joined forest target n = tree_changed_at target.server (λ s. added s n) forest

abbrev after : List Server → NodeRef → Node → (Node → Node) → List Server
after forest target n f = forest_changed_at target f (joined forest target n)

-- where the directory existed, and had no child of the name
module _ (forest : List Server) (sound : IsForest forest) (target : NodeRef) (dir n : Node)
    (there : node_of target forest ≡ Some dir) (number : n.number ≡ next_of target.server forest)
    (parent : n.parent ≡ Some target.number) (free : child_in target n.name forest ≡ None)
    (f : Node → Node) (keeps : KeepsPlace f) where
  abbrev old : Server
  old = server_at target.server forest

  well : WellFormed old
  well =
      server_well forest target.server dir sound
      (found-member (has_number target.number) old.nodes dir there).0

  dir_joined : node_of target (joined forest target n) ≡ Some dir
  dir_joined =
      ap (λ (s : Server). node_at target.number s.nodes)
      (server_at-tree_changed_at target (λ s. added s n) forest dir there)
      ∙ find-append (has_number target.number) old.nodes (n ∷ []) ∙ rw there refl

  server_after : server_at target.server (after forest target n f) ≡ with_changed target.number f (added old n)
  server_after =
      server_at-tree_changed_at target (with_changed target.number f) (joined forest target n) dir dir_joined
      ∙ ap (with_changed target.number f)
      (server_at-tree_changed_at target (λ s. added s n) forest dir there)

  dir_after : node_of target (after forest target n f) ≡ Some (f dir)
  dir_after = node_of-changed target f (joined forest target n) dir keeps dir_joined

  other : has_number target.number n ≡ false
  other =
      let below : dir.number < old.next =
      All-node_at (λ m. m.number < old.next) target.number old.nodes dir well.below there in
      let same : dir.number ≡ target.number = number-node_at target.number old.nodes dir there in
      grind (arith, nat_tests, below, same, number)

  child_after_join : child_in target n.name (after forest target n f) ≡ Some n
  child_after_join =
      let its : is_child target.number n.name n ≡ true =
      let same = (bytes_eq-Decides n.name n.name).1 refl in
      let itself : (target.number == target.number) ≡ true = grind (arith, nat_tests) in
      rw (parent, itself, same) refl in
      ap (λ (s : Server). child_of target.number n.name s.nodes) server_after
      ∙ joined_child target.number f keeps target.number n.name old.nodes n other free its

  outside : (x : Node) → node_at target.number old.nodes ≡ Some x → is_in target.number x ≡ false
  outside x found = go x.parent refl
    where
      go : (o : Option ℕ) → x.parent ≡ o → is_in target.number x ≡ false
      go None e = rw e refl
      go (Some p) e =
          let below : p < target.number = well.parent_below target.number p x found e in
          rw e (grind (arith, nat_tests, below))

  children_after : children_of target (after forest target n f) ≡ children_of target forest ++ n ∷ []
  children_after =
      let itself : (target.number == target.number) ≡ true = grind (arith, nat_tests) in
      ap (λ (s : Server). filter (is_in target.number) s.nodes) server_after
      ∙ joined_children target.number f keeps target.number old.nodes n other outside
      (rw (parent, itself) refl)

  new_there : node_of (beside target n.number) (after forest target n f) ≡ Some n
  new_there =
      let absent = node_at-past old.next old.nodes well.below in
      let here : node_at n.number (added old n).nodes ≡ Some n =
      ap (λ k. node_at k (added old n).nodes) number ∙ node_at-added old n absent number in
      let kept =
      node_at-changed_at target.number f keeps.in_dir n.number (added old n).nodes in
      let away = other in
      ap (λ (s : Server). node_at n.number s.nodes) server_after
      ∙ grind (arith, nat_tests, kept, away, here)

second_false : (a b : Bool) → not (a || b) ≡ true → b ≡ false
second_false true b e = let no : false ≡ true = e in absurd (cc)
second_false false true e = let no : false ≡ true = e in absurd (cc)
second_false false false e = refl

-- no name is '..'
not_dots : (name : List ℕ) → is_name name ≡ true → bytes_eq name (codes "..") ≡ false
not_dots name valid =
    second_false (bytes_eq name (codes ".")) (bytes_eq name (codes ".."))
    (and_parts (nat_le 1 (length name) && nat_le (length name) name_max && is_text name
    && not (list_any is_slash name))
    (not (bytes_eq name (codes ".") || bytes_eq name (codes ".."))) valid).1

-- a walk by a name from a place, where a member has a child of the name, and those before it are
-- passed by
walks_down : (forest : List Server) (table : List MountRow) (who : Option Who)
    (trail : List NodeRef) (name : List ℕ) (earlier later : List Member) (m : Member) (d n : Node)
    → members_of (here trail) table ≡ earlier ++ m ∷ later
    → AllByRecursion (IsPassedBy forest who name) earlier → node_of m.node forest ≡ Some d
    → is_dir d ≡ true → may_search who d ≡ true → child_in m.node name forest ≡ Some n
    → bytes_eq name (codes "..") ≡ false → length trail < places_max
    → is_some (file_of (here (trail ++ beside m.node n.number ∷ [])) table forest) ≡ true
    → walk forest table who trail (name ∷ []) ≡ Ok (trail ++ beside m.node n.number ∷ [])
walks_down forest table who trail name earlier later m d n mounted passed there dir search child
    plain short alive =
    let room : (length trail == 64) ≡ false = grind (arith, nat_tests, short) in
    let searched : is_searched forest who m ≡ true = rw (there, dir) search in
    let place : child_ref forest m.node name ≡ Some (beside m.node n.number) = rw child refl in
    let some = any_behind (is_alive forest) earlier later m (rw there refl) in
    let some_dir = any_behind (is_alive_dir forest) earlier later m (rw there dir) in
    let some_searched = any_behind (is_searched forest who) earlier later m searched in
    let child_is =
    child_behind forest who name earlier later m (beside m.node n.number) passed searched place in
    rw (mounted, some, some_dir, plain, some_searched, child_is, room, alive) refl

abbrev changes_in : Answer → List ForestChange
changes_in (Ok o) = o.changes
changes_in (Err fault) = []

pub created_is_found : CreatedIsFound
unfolding OnDone applied edited
created_is_found state name session fid now v new perm mode qid iounit sound has =
    let o : Outcome =
    outcome_of session
    (create_answer state.setting state.forest session now fid new perm mode) in
    let is : asked state name now (Tcreate fid new perm mode) ≡ after_outcome state name o =
    rw has.session_is refl in
    subst (λ (a : Asked). a.reply ≡ Some (Rcreate qid iounit) → IsMade state a.state v new perm)
    (sym is) (λ accepted.
    let told : o.reply ≡ Rcreate qid iounit = cc in
    go (create_answer state.setting state.forest session now fid new perm mode)
    (create-done state.setting state.forest session now fid new perm mode) told)
  where
    go : (a : Answer)
        → OnDone (CreateDone state.setting state.forest session now fid new perm) a
        → (outcome_of session a).reply ≡ Rcreate qid iounit
        → IsMade state (after_outcome state name (outcome_of session a)).state v new perm
    go (Err fault) done told = absurd (cc)
    go (Ok p) done told =
        let target = done.member.node in
        let dir = done.dir in
        let n : Node =
        created done.v.user now (next_of target.server state.forest) dir new done.asked in
        let mark : Node → Node = marked done.v.user now in
        let one : Some done.v ≡ Some v = sym done.found ∙ has.fid_is in
        let same : done.v ≡ v = cc in
        let can = done.can in
        let free : child_in target new state.forest ≡ None = can.free in
        let parent : n.parent ≡ Some target.number =
        ap (λ k. Some k)
        (number-node_at target.number (server_at target.server state.forest).nodes dir done.there) in
        let keeps = keeps-marked done.v.user now in
        let forest_is : all_applied p.changes state.forest ≡ after state.forest target n mark =
        ap (λ cs. all_applied cs state.forest) (ap changes_in done.is) in
        let dir_is = dir_after state.forest sound.forest target dir n done.there refl parent free
        mark keeps in
        let child =
        child_after_join state.forest sound.forest target dir n done.there refl parent free mark
        keeps in
        let last =
        children_after state.forest sound.forest target dir n done.there refl parent free mark keeps in
        let made =
        new_there state.forest sound.forest target dir n done.there refl parent free mark keeps in
        subst (λ forest. IsMade state (record {
          setting = state.setting;
          forest = forest;
          sessions = changed_session name p.session state.sessions;
        }) v new perm) (sym forest_is) (record {
          member = done.member;
          dir = dir;
          node = n;
          chosen =
              subst (λ (w : Fid). permitting (members_of (here w.trail) state.setting.table)
              ≡ Some done.member) same done.chosen;
          within = done.there;
          mode =
              subst (λ p. IsMasked n.mode dir.mode p) (mode_of-bits perm done.asked done.means)
              (new_mode_is_masked dir.mode done.asked);
          owner = ap (λ (w : Fid). w.user) same;
          group = refl;
          empty = refl;
          found = child;
          last = last;
          listed = λ who place earlier its reads.
              let table = state.setting.table in
              let forest = after state.forest target n mark in
              let m : Member = its.member in
              let there : node_of m.node forest ≡ Some (mark dir) =
              ap (λ r. node_of r forest) its.is ∙ dir_is in
              let files = children_of target state.forest ++ n ∷ [] in
              let children : children_of m.node forest ≡ files =
              ap (λ r. children_of r forest) its.is ∙ last in
              let of_members =
              lists_behind forest who earlier its.later m (mark dir) files there can.into reads
              children in
              let at_member : Lists (listing table forest who place) (length earlier) m.node files =
              subst (λ ms. Lists (entries_from forest who 0 ms) (length earlier) m.node files)
              (sym its.all) of_members in
              subst (λ r. Lists (listing table forest who place) (length earlier) r files) its.is
              at_member;
          reached = λ who trail earlier its passed search short.
              let table = state.setting.table in
              let forest = after state.forest target n mark in
              let m : Member = its.member in
              let there : node_of m.node forest ≡ Some (mark dir) =
              ap (λ r. node_of r forest) its.is ∙ dir_is in
              let child_m : child_in m.node new forest ≡ Some n =
              ap (λ r. child_in r new forest) its.is ∙ child in
              let place = beside target n.number in
              let place_m : beside m.node n.number ≡ place = ap (λ r. beside r n.number) its.is in
              let alive : is_some (file_of (here (trail ++ beside m.node n.number ∷ [])) table forest)
              ≡ true =
              ap (λ r. is_some (file_of r table forest))
              (here-pushed trail (beside m.node n.number) ∙ place_m)
              ∙ ap (λ r. is_some (node_of r forest))
              (new-file state.forest table place sound.served.given refl)
              ∙ ap is_some made in
              let passed_by =
              recursion_from_All (IsPassedBy forest who new) earlier passed in
              walks_down forest table who trail new earlier its.later m (mark dir) n its.all
              passed_by there can.into search child_m (not_dots new done.valid) short alive
              ∙ ap (λ r. Ok (trail ++ r ∷ [])) place_m;
        })
