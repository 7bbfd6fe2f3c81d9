-- Lives with a crash behind each change nothing inside hidden directories.
use Rattle.std.proofs.Common.{◌≡◌, ◌∙◌, ◌<◌, ◌≤◌, ℕ, List, [], ◌∷◌, length, refl, sym, ap, subst, map}
use Rattle.std.specs.Prelude.{None}
use Rattle.std.proofs.lemmas.List.{length-map}
use Rattle.std.proofs.lemmas.List.Elements.{All-weaker}
use Rattle.p9_base.specs.declared.node_ref.NodeRef.{NodeRef}
use Rattle.p9_base.specs.NodeRef.{servers_max}
use Rattle.p9_tree.specs.Forest.{IsForest, next_of}
use Rattle.p9_tree.specs.Inside.{inner}
use Rattle.p9_tree.specs.Journal.{IsAlike}
use Rattle.p9_tree.specs.Node.{touched}
use Rattle.p9_tree.specs.Server.{Server}
use Rattle.p9_tree.specs.Unread.{all_unread, unread}
use Rattle.p9_space.specs.Table.{MountRow}
use Rattle.p9_world.specs.World.{World}
use Rattle.p9_cert.specs.Gap.{first_gap}
use Rattle.p9_cert.specs.Policy.{policy_of}
use Rattle.p9_guard.specs.Sentence.{IsWellFormed}
use Rattle.p9_input_laws.specs.Lives.{LivesChangeNothingInside, left_after}
use Rattle.p9_kept_laws.specs.Crashes.{AreLives, CrashesChangeNothingInside, CrashesSpareInsides}
use Rattle.p9_kept_laws.specs.Crashes.{Life, next_world}
use Rattle.p9_kept_laws.proofs.Alike.{inner-unread, next_of-unread}
use Rattle.p9_kept_laws.proofs.Gaps.{gap-alike}

module _ (forest left : List Server) (alike : IsAlike forest left) where
  as-many : length left ≡ length forest
  as-many = sym (length-map left unread) ∙ ap length (sym alike) ∙ length-map forest unread

  as-far : (server : ℕ) → next_of server left ≡ next_of server forest
  as-far server =
      sym (next_of-unread server left) ∙ ap (next_of server) (sym alike)
      ∙ next_of-unread server forest

  -- a world is well-formed with one forest where it is with the other
  next-well : (world : World) (table : List MountRow) → IsForest forest
      → IsWellFormed (record world { forest = left }) table
      → IsWellFormed (record world { forest = forest }) table
  next-well world table well ok = record {
    named = record {
      named = ok.named.named ∙ as-many;
      few = subst (λ n. n ≤ servers_max) as-many ok.named.few;
      distinct = ok.named.distinct;
      below = All-weaker (λ r. r.number < next_of r.server left)
          (λ r. r.number < next_of r.server forest)
          (λ r. subst (λ next. r.number < next) (as-far r.server)) world.hidden ok.named.below;
    };
    forest = well;
    setting = ok.setting;
  }

module _ (A : Type 0) (given : LivesChangeNothingInside A) where
  pub crashes-spare : CrashesChangeNothingInside A
  crashes-spare world table certificate ok none [] all = record {
    promised = tt;
    insides = refl;
    left = (given world table certificate ok none [] tt).left;
  }
  crashes-spare world table certificate ok none (life ∷ lives) all =
      let first = given world table certificate ok none (life.events ∷ []) (all.0.happen, tt) in
      let left = (left_after world table life.events).forest in
      let rows = first.left.sealed.certificate in
      let well = next-well life.recovered left all.0.alike world table all.0.well first.left.well in
      let closed = gap-alike (policy_of world) life.recovered left table rows all.0.alike
      ∙ first.left.sealed.closed in
      let later = crashes-spare (next_world world life) table rows well closed lives all.1 in
      record {
        promised = (first.promised.0, later.promised);
        insides = later.insides ∙ ap (inner world.hidden) all.0.alike
            ∙ inner-unread world.hidden left
            ∙ ap (map (map (touched 0))) first.insides
            ∙ sym (inner-unread world.hidden world.forest);
        left = later.left;
      }
