-- What a journal keeps after a change that it was told.
use Rattle.std.proofs.Common.{◌≡◌, ◌∙◌, ◌≤◌, ℕ, Bool, IsTrue, List, Option, Some, ap, arith, length}
use Rattle.std.proofs.Common.{subst, sym}
use Rattle.std.proofs.Math.ListN.{length-set}
use Rattle.p9_base.specs.NodeRef.{servers_max}
use Rattle.p9_tree.specs.Forest.{server_at, tree_changed_at}
use Rattle.p9_tree.specs.ForestEdit.{ForestEdit, forest_edited}
use Rattle.p9_tree.specs.Journal.{IsKept, Keeps, KeepsIfAny}
use Rattle.p9_tree.specs.Node.{touched}
use Rattle.p9_tree.specs.Server.{Server, with_changed}
use Rattle.p9_tree.specs.Unread.{all_unread}
use Rattle.p9_tree.proofs.UnreadForest.{unread-forest_edited, unread-forest_touched}

module _ {J : Type 0} (is_whole : J → Bool) (stands_for : J → List Server) where
  -- the one journal that there is keeps a forest
  pub keeps-only : (j : J) (forest : List Server) → Keeps is_whole stands_for j forest
      → KeepsIfAny is_whole stands_for (Some j) forest
  keeps-only j forest keeps k e =
      let same : j ≡ k = cc in subst (λ i. Keeps is_whole stands_for i forest) same keeps

  -- a journal that was told a change keeps the forest after it
  pub keeps-noted : (j k : J) (edit : ForestEdit) (forest : List Server)
      → (IsTrue (is_whole k) → IsTrue (is_whole j))
      → (IsTrue (is_whole k) → stands_for k ≡ forest_edited edit (stands_for j))
      → Keeps is_whole stands_for j forest
      → Keeps is_whole stands_for k (forest_edited edit forest)
  keeps-noted j k edit forest whole noted keeps now =
      ap all_unread (noted now)
      ∙ unread-forest_edited edit (stands_for j) forest (keeps (whole now))

  -- a journal keeps a forest of which a file was read
  pub kept-touched : (journal : Option J) (fs gs : List Server) (server number clock : ℕ)
      → gs ≡ tree_changed_at server (with_changed number (touched clock)) fs
      → IsKept is_whole stands_for journal fs → IsKept is_whole stands_for journal gs
  kept-touched journal fs gs server number clock touch was = record {
    few = few;
    kept = λ j is whole. was.kept j is whole
        ∙ sym (ap all_unread touch ∙ unread-forest_touched server number clock fs);
  }
    where
      few : length gs ≤ servers_max
      few = omega (
        arith,
        ap length touch,
        length-set fs server (with_changed number (touched clock) (server_at server fs)),
        was.few,
      )
