-- Changes of a forest outside its insides.
use Rattle.std.proofs.Common.{◌≡◌, ℕ, zero, suc, Bool, List, [], ◌∷◌, Option, Some, None}
use Rattle.std.proofs.Common.{slice_get, set, IsTrue, refl, sym, ap, ◌∙◌, subst, inl, inr, ◌⊎◌}
use Rattle.std.specs.Prelude.{unwrap_or}
use Rattle.p9_base.specs.declared.node_ref.NodeRef.{NodeRef}
use Rattle.p9_tree.specs.Bytes.{cut_to, overwritten}
use Rattle.p9_tree.specs.Change.{changed}
use Rattle.p9_tree.specs.New.{new_node}
use Rattle.p9_tree.specs.Node.{marked, touched, with_owner, with_bytes}
use Rattle.p9_tree.specs.Server.{Server, is_dir_at, added, with_changed, with_dropped}
use Rattle.p9_tree.specs.Forest.{no_server, server_at, tree_changed_at, next_of, is_dir_of}
use Rattle.p9_tree.specs.Inside.{is_among, barred_from, is_inside_at, hidden_on, is_hidden}
use Rattle.p9_tree.specs.Inside.{is_barred, is_inside, outer_server, outer, inner_nodes, inner}
use Rattle.p9_inside.specs.Changes.{KeepsParent, with_new, ServerSpares, Spares, ChangeSpares}
use Rattle.p9_inside.specs.Changes.{MarkSpares, TouchSpares, OwnerSpares, WriteSpares, CutSpares}
use Rattle.p9_inside.specs.Changes.{WstatSpares, DropSpares, AddSpares, NewSpares, InTurnSpares}
use Rattle.p9_inside.specs.Changes.{ParentDecides, NextIsFree}
use Rattle.p9_inside.proofs.EachServer.{each_server-kept, each_server-set}
use Rattle.p9_inside.proofs.Forests.{server_at-outer, server_below, server_ordered}
use Rattle.p9_inside.proofs.Spared.{server_change_spares, drop_spares_ordered, server_add_spares}
use Rattle.p9_inside.proofs.Spared.{server_parent_decides, next_is_free_ordered}

-- a server after a change of one
server_at-set : (server t : ℕ) (forest : List Server) (new : Server)
    → (server_at t (set forest server new) ≡ server_at t forest)
    ⊎ ((t ≡ server) × (server_at t (set forest server new) ≡ new))
server_at-set server t [] new = inl refl
server_at-set zero zero (s ∷ ss) new = inr (refl, refl)
server_at-set zero (suc t) (s ∷ ss) new = inl refl
server_at-set (suc server) zero (s ∷ ss) new = inl refl
server_at-set (suc server) (suc t) (s ∷ ss) new = go (server_at-set server t ss new)
  where
    go : (server_at t (set ss server new) ≡ server_at t ss)
        ⊎ ((t ≡ server) × (server_at t (set ss server new) ≡ new))
        → (server_at t (set ss server new) ≡ server_at t ss)
        ⊎ ((suc t ≡ suc server) × (server_at t (set ss server new) ≡ new))
    go (inl e) = inl e
    go (inr e) = inr (ap suc e.0, e.1)

-- a server that is there can be replaced
server_at-set_there : (server : ℕ) (forest : List Server) (s new : Server)
    → slice_get forest server ≡ Some s → server_at server (set forest server new) ≡ new
server_at-set_there server [] s new e = absurd (cc)
server_at-set_there zero (t ∷ ts) s new e = refl
server_at-set_there (suc server) (t ∷ ts) s new e = server_at-set_there server ts s new e

-- what holds of a server's nodes after a change of one server, if it is the same before and after
told-set : (P : ℕ → Server → Bool) (server t : ℕ) (forest : List Server) (new : Server)
    → P server new ≡ P server (server_at server forest)
    → P t (server_at t (set forest server new)) ≡ P t (server_at t forest)
told-set P server t forest new same = go (server_at-set server t forest new)
  where
    go : (server_at t (set forest server new) ≡ server_at t forest)
        ⊎ ((t ≡ server) × (server_at t (set forest server new) ≡ new))
        → P t (server_at t (set forest server new)) ≡ P t (server_at t forest)
    go (inl e) = ap (P t) e
    go (inr e) = ap (P t) e.1 ∙ subst (λ q. P q new ≡ P q (server_at q forest)) (sym e.0) same

-- a change of a server that spares its insides spares those of the forest
pub spares-server : (hidden : List NodeRef) (forest : List Server) (server : ℕ)
    (change : Server → Server)
    → ServerSpares (hidden_on server hidden) change (server_at server forest)
    → Spares hidden (tree_changed_at server change) forest
unfolding outer inner is_barred is_inside
spares-server hidden forest server change spared = record {
  commutes =
      each_server-set (λ k s. outer_server (hidden_on k hidden) s) server forest
      (change (server_at server forest))
      ∙ ap (λ s. set (outer hidden forest) server s)
      (spared.commutes ∙ ap change (sym (server_at-outer server hidden forest)));
  insides =
      each_server-kept (λ k s. inner_nodes (hidden_on k hidden) s.nodes) server forest
      (change (server_at server forest)) spared.insides;
  barred =
      λ r. told-set (λ t s. is_among (barred_from (hidden_on t hidden) s.nodes) r.number) server
      r.server forest (change (server_at server forest)) (spared.barred r.number);
  inside =
      λ r. told-set (λ t s. is_inside_at r.number (hidden_on t hidden) s.nodes) server r.server
      forest (change (server_at server forest)) (spared.inside r.number);
}

pub change_spares : ChangeSpares
unfolding is_inside
change_spares hidden forest r f keeps out =
    spares-server hidden forest r.server (with_changed r.number f)
    (server_change_spares (hidden_on r.server hidden) (server_at r.server forest) r.number f
    keeps out)

pub mark_spares : MarkSpares
mark_spares hidden forest r user now out =
    change_spares hidden forest r (marked user now) (record {
      number = λ n. refl;
      parent = λ n. refl;
    }) out

pub touch_spares : TouchSpares
touch_spares hidden forest r now out =
    change_spares hidden forest r (touched now) (record { number = λ n. refl; parent = λ n. refl })
    out

pub owner_spares : OwnerSpares
owner_spares hidden forest r permissions uid gid out =
    change_spares hidden forest r (with_owner permissions uid gid) (record {
      number = λ n. refl;
      parent = λ n. refl;
    }) out

-- a change of its bytes leaves a node where it is
keeps-with_bytes : (f : List ℕ → List ℕ) → KeepsParent (with_bytes f)
keeps-with_bytes f = record { number = λ n. refl; parent = λ n. refl }

pub write_spares : WriteSpares
write_spares hidden forest r offset bytes out =
    change_spares hidden forest r (with_bytes (overwritten offset bytes))
    (keeps-with_bytes (overwritten offset bytes)) out

pub cut_spares : CutSpares
cut_spares hidden forest r size out =
    change_spares hidden forest r (with_bytes (cut_to size)) (keeps-with_bytes (cut_to size)) out

pub wstat_spares : WstatSpares
wstat_spares hidden forest r change out =
    change_spares hidden forest r
    (changed change) (record { number = λ n. refl; parent = λ n. refl }) out

pub add_spares : AddSpares
unfolding is_barred
add_spares hidden forest dir make in_dir out =
    spares-server hidden forest dir.server (with_new make)
    (server_add_spares (hidden_on dir.server hidden) (server_at dir.server forest) dir.number
    make in_dir out)

pub new_spares : NewSpares
new_spares hidden forest dir new out =
    add_spares hidden forest dir (λ k. new_node k dir.number new) (λ k. refl) out

pub in_turn_spares : InTurnSpares
in_turn_spares hidden forest first second a b = record {
  commutes = b.commutes ∙ ap second a.commutes;
  insides = b.insides ∙ a.insides;
  barred = λ r. b.barred r ∙ a.barred r;
  inside = λ r. b.inside r ∙ a.inside r;
}

pub drop_spares : DropSpares
unfolding is_inside
drop_spares hidden forest r w out =
    spares-server hidden forest r.server (with_dropped r.number)
    (drop_spares_ordered (hidden_on r.server hidden) (server_at r.server forest) r.number
    (server_ordered forest w r.server) out)

-- a server that has a directory is there
there : (forest : List Server) (dir : NodeRef) → IsTrue (is_dir_of dir forest)
    → (s : Server) × (slice_get forest dir.server ≡ Some s)
there forest dir is_directory = go (slice_get forest dir.server) refl is_directory
  where
    go : (o : Option Server) → slice_get forest dir.server ≡ o
        → IsTrue (is_dir_at dir.number (unwrap_or o no_server).nodes)
        → (s : Server) × (slice_get forest dir.server ≡ Some s)
    go None e h = absurd (cc)
    go (Some s) e h = (s, e)

pub parent_decides : ParentDecides
unfolding is_inside is_barred
parent_decides hidden forest dir make w is_directory at in_dir =
    let t = there forest dir is_directory in
    let here : server_at dir.server forest ≡ t.0 = ap (λ o. unwrap_or o no_server) t.1 in
    let after : server_at dir.server (tree_changed_at dir.server (with_new make) forest)
    ≡ added t.0 (make t.0.next)
    = server_at-set_there dir.server forest t.0 _ t.1 ∙ ap (with_new make) here in
    ap (λ s. is_inside_at (next_of dir.server forest) (hidden_on dir.server hidden) s.nodes) after
    ∙ ap (λ s. is_inside_at s.next (hidden_on dir.server hidden) (added t.0 (make t.0.next)).nodes)
    here
    ∙ server_parent_decides (hidden_on dir.server hidden) t.0 dir.number (make t.0.next)
    (w.servers dir.server t.0 t.1) (at t.0.next) (in_dir t.0.next)
    ∙ ap (λ s. is_among (barred_from (hidden_on dir.server hidden) s.nodes) dir.number) (sym here)

pub next_is_free : NextIsFree
unfolding is_hidden is_barred
next_is_free hidden forest server w given =
    next_is_free_ordered (hidden_on server hidden) (server_at server forest)
    (server_ordered forest w server) (server_below forest w server) (λ k hid. given (record {
      server = server;
      number = k;
    }) hid)
