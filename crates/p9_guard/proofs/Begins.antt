-- A guard begins with a guarded state.
use Rattle.std.proofs.Common.{◌≡◌, ℕ, ◌<◌, suc, true, false, List, [], ◌∷◌, None, refl}
use Rattle.std.proofs.Common.{◌∙◌, inl, inr, arith, subst}
use Rattle.std.specs.Prelude.{All, IsTrue, map}
use Rattle.p9_base.specs.declared.node_ref.NodeRef.{NodeRef}
use Rattle.p9_base.specs.NodeRef.{same_node}
use Rattle.p9_tree.specs.Forest.{IsForest, next_of}
use Rattle.p9_inside.proofs.Facts.{lt_test, or_cases}
use Rattle.p9_space.specs.Given.{is_table_given}
use Rattle.p9_space.specs.Table.{MountRow}
use Rattle.p9_world.specs.World.{IsWorld, World}
use Rattle.p9_cert.specs.Closed.{IsClosed}
use Rattle.p9_cert.specs.Gap.{first_gap}
use Rattle.p9_cert.specs.Policy.{policy_of}
use Rattle.p9_cert.specs.Rows.{is_row}
use Rattle.p9_policy.proofs.Basics.{same_ref}
use Rattle.p9_cert.proofs.Gaps.{no_gap_is_closed}
use Rattle.p9_policy.proofs.Parents.{row_is_hidden}
use Rattle.p9_step.specs.Sound.{IsState}
use Rattle.p9_step.specs.State.{State}
use Rattle.p9_guard_laws.specs.Guarded.{AreHiddenGiven, IsGuardedState}
use Rattle.p9_guard_laws.proofs.Begins.{certified_is_guarded}
use Rattle.p9_guard.specs.Served.{served}

-- what holds of each of some nodes holds of one that is among them
among : (P : NodeRef → Type 0) (rows : List NodeRef) (at : NodeRef) → All P rows
    → is_row rows at ≡ true → P at
among P [] at all e = let no : false ≡ true = e in absurd (cc)
among P (row ∷ rows) at all e =
    elim (or_cases (same_node row at) (is_row rows at) e) [
      | inl same ↦ subst P (same_ref row at same) (all 0 row (omega arith))
      | inr later ↦ among P rows at (λ k d within. all (suc k) d (omega (arith, within))) later
    ]

-- each hidden directory has a number that was given
hidden_given : (world : World) → IsWorld world → AreHiddenGiven world.hidden world.forest
hidden_given world ok at hidden =
    lt_test at.number (next_of at.server world.forest)
    (among (λ r. r.number < next_of r.server world.forest) world.hidden at ok.below
    (row_is_hidden world.hidden at ∙ hidden))

module _ (world : World) (table : List MountRow) (rows : List NodeRef)
    (verified : first_gap (policy_of world) world.forest table rows ≡ None)
    (forest : IsForest world.forest) where
  closed : IsClosed (policy_of world) world.forest table (is_row rows)
  closed = (no_gap_is_closed (policy_of world) world.forest table rows forest).0 verified

  pub table_given : IsTrue (is_table_given world.forest table)
  table_given = closed.given

  pub begun : (ok : IsWorld world) (numbers : List ℕ)
      → numbers ≡ map (λ s. s.next) world.forest → (state : State) → state ≡ served world table
      → IsState state
      → IsGuardedState world.hidden (record { rows = rows; next = numbers }) state
  begun ok numbers are state is sound =
      rw (are, is)
      (certified_is_guarded world.hidden rows (served world table)
      (subst IsState is sound) (hidden_given world ok) closed refl)
