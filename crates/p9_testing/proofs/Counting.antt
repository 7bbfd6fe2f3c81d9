-- A call of `refuses`: what it is handed, and what its caller has of it.
use Rattle.std.proofs.Common.{◌≡◌, ℕ, List, [], ◌∷◌, refl, ap, Bool}
use seplogic.Ra.Ura.{Ura}
use mir.Val.{Val, vbool, vptr}
use base.Logic.{SProp, ent, sep, ex, guard, id⊢}
use base.Fml.{Lft, Share, ftrue, fsep, flft}
use prog.Memory.{Memory}
use prog.Routine.{Routine}
use types.Logic.{Logic, sem}
use contract.Monad.{Fun}
use types.Kit.{‵, raw, ◌⊛◌, some, later, ◌$◌, ◌∵◌, !, qed, move, keep, use1, split, join, pick}
use types.Kit.{fjoin, feq_l, feq_i, check, show, await, updating, now as at_once, done}
use denote.RattleType.{RattleType}
use denote.Memory.{hidden_shr}
use denote.Builtin.{bool}
use denote.Steps.{nothing, only}
use denote.Triple.Statement.{Contract}
use denote.Triple.Spec.{triple_of}
use Rattle.std.specs.contracts.cell.Cell as cell
use Rattle.p9_testing.specs.contracts.count.Requests as requests
use Rattle.p9_testing.specs.contracts.allocator.refuses as refuses

abbrev pub Counter : RattleType
Counter = cell.the_row requests.the_row

module _ {M : Type 1} {𝓤 : Ura M} (𝓛 : Logic 𝓤) (at_mem : Memory → SProp 𝓤)
    (run : Routine → Fun 𝓤) where
  abbrev pub Counts : Contract 𝓤
  Counts = triple_of 𝓛 refuses.signature (refuses.spec 𝓛 at_mem run)

  abbrev pub at_counts : Lft → Share → ℕ × ℕ → Counts.Ghost
  at_counts κ q c = (
    (
      (κ, tt),
      (q, tt),
      tt,
      (record { ref_ptr = c; now = record { value = tt } }, tt),
      (vptr c.0 c.1 ∷ [], tt),
    ),
    tt,
  )

module _ {M : Type 1} {𝓤 : Ura M} (𝓛 : Logic 𝓤) (at_mem : Memory → SProp 𝓤)
    (run : Routine → Fun 𝓤) (κ : Lft) (q : Share) (c : ℕ × ℕ) where
  open 𝓛 use {H, A}

  abbrev pub Shared : SProp 𝓤
  Shared = sem 𝓛 (hidden_shr Counter κ (record { value = tt }) c.0 c.1)

  -- It is handed a reference to the counter, and a token of its lifetime.
  pub Counts-goes : ent 𝓤 (sep 𝓤 Shared (A.lft κ q))
      ((Counts 𝓛 at_mem run).pre (at_counts 𝓛 at_mem run κ q c))
  Counts-goes =
      qed 𝓛 (‵ (hidden_shr Counter κ (record { value = tt }) c.0 c.1) ∷ ‵ (flft κ q) ∷ []) ∵
      feq_i ! (List Val) (vptr c.0 c.1 ∷ []) (vptr c.0 c.1 ∷ []) refl $ fjoin ! $ nothing ! $
      move ! (1 ∷ []) $ fjoin ! $
      nothing ! $ move ! (2 ∷ []) $ join ! $ join ! $ nothing ! $ move ! (1 ∷ []) $ done !

  -- Its caller has the token again, and a flag.
  pub Counts-gives : (v : Val)
      → ent 𝓤 ((Counts 𝓛 at_mem run).post (at_counts 𝓛 at_mem run κ q c) v)
      (H.⇛ (ex 𝓤 (λ (y : Bool). guard 𝓤 (v ≡ vbool y) (A.lft κ q))))
  Counts-gives v =
      qed 𝓛 (raw ((Counts 𝓛 at_mem run).post (at_counts 𝓛 at_mem run κ q c) v) ∷ []) ∵
      updating ! $
      use1 𝓛 (later (some (λ (y : Bool). ((‵ (flft κ q) ⊛ ‵ ftrue) ⊛ ‵ (bool.own_val y (v ∷ [])))
      ⊛ some (λ (ws : Unit {0} × Unit {0}). ‵ (fsep ftrue ftrue) ⊛ ‵ ftrue)))) (id⊢ 𝓤 _) $
      await ! tt $ pick ! (λ y. split ! $ split ! $ move ! (1 ∷ []) $ feq_l ! (λ e. split ! $
      at_once ! $ show ! (λ (z : Bool). guard 𝓤 (v ≡ vbool z) (A.lft κ q)) y $ check ! (ap only e) $
      keep ! (0 ∷ []) $ done !))
