-- How far a file has been read, one block after another.
use Rattle.std.proofs.Common.{◌≡◌, ℕ, ◌-◌, Bool, true, false, cond, eqb, List, ◌∷◌, ◌++◌, length}
use Rattle.std.proofs.Common.{Option, Some, None, refl, sym, ap, subst, ◌∙◌, append_assoc, arith, length-append}
use Rattle.std.proofs.lemmas.Bool.{eqb-true}
use Rattle.byteorder.specs.Endian.{little_number}
use Rattle.p9_log.specs.declared.crash.Crash.{Crash}
use Rattle.p9_log.specs.declared.crash.Crash.TheVariants.{Killed, Stopped}
use Rattle.p9_log.specs.Blocks.{behind, block_at, content_in, counts}
use Rattle.p9_log.specs.Reading.{HasBlocks, IsReadTo, closed_at}
use Rattle.p9_log.specs.Rest.{Runs}
use Rattle.p9_log.proofs.Readings.{block-parts, content-step}
use Rattle.p9_log.proofs.Rest.{runs-head, runs-join, behind-open, counts-open, parts-more, stopped-front}

module _ (how mode : Crash) (file rest bytes : List ℕ) (block behind_it : List ℕ) (gate : ℕ) (head : List ℕ)
    (front : List ℕ) (whole : file ≡ front ++ rest) (is_rest : rest ≡ (gate ∷ 1 ∷ head ++ block) ++ behind_it) where
  abbrev piece : ℕ → List ℕ
  piece g = g ∷ 1 ∷ head ++ block

  -- a block with an open sync gate
  go_on : length head ≡ 8 → little_number 8 head ≡ length block → (kept : Option ℕ)
      → HasBlocks how mode file front bytes kept → HasBlocks how mode file (front ++ piece 1) (bytes ++ block) kept
  go_on eight is None (same, runs) = (same, λ x. runs-join x x x front (piece 1) bytes block (runs x) (whole_block x))
    where
      whole_block : (x : Crash) → Runs x (piece 1) block x
      whole_block x = subst (λ a. Runs x (piece 1) block a) (behind-open x) (runs-head x 1 head block (counts-open x) eight is)
  go_on eight is (Some kept) (synced, g, more, parted, at, closed, killed, stopped, parts) = (
    synced,
    g,
    more ++ piece 1,
    ap (λ (bs : List ℕ). bs ++ piece 1) parted ∙ append_assoc synced (g ∷ more) (piece 1),
    at,
    closed,
    killed,
    stopped,
    parts-more g synced more (content_in Stopped file) bytes parts (piece 1) block whole_block,
  )
    where
      whole_block : (x : Crash) → Runs x (piece 1) block x
      whole_block x = subst (λ a. Runs x (piece 1) block a) (behind-open x) (runs-head x 1 head block (counts-open x) eight is)

  -- the first block with a closed one
  first_closed : length head ≡ 8 → little_number 8 head ≡ length block → eqb gate 1 ≡ false → (at : ℕ) → at ≡ length front
      → mode ≡ Killed → (kept : Option ℕ) → HasBlocks how mode file front bytes kept
      → HasBlocks how Stopped file (front ++ piece gate) (bytes ++ block) (Some at)
  first_closed eight is shut at at_is killed None (same, runs) = (
    front,
    gate,
    1 ∷ head ++ block,
    refl,
    at_is,
    shut,
    sym same ∙ killed,
    refl,
    record {
      kept = λ x. subst (λ bs. Runs x front bs x) (sym stopped) (runs x);
      written = runs-join Killed Killed Stopped front (piece gate) bytes block (runs Killed)
          (subst (λ a. Runs Killed (piece gate) block a) turned (runs-head Killed gate head block refl eight is));
      opened = λ x. runs-join x x x front (piece 1) bytes block (runs x)
          (subst (λ a. Runs x (piece 1) block a) (behind-open x) (runs-head x 1 head block (counts-open x) eight is));
    },
  )
    where
      stopped : content_in Stopped file ≡ bytes
      stopped =
          ap (content_in Stopped) (whole ∙ ap (λ (bs : List ℕ). front ++ bs) is_rest)
          ∙ stopped-front front bytes ((1 ∷ head ++ block) ++ behind_it) gate runs shut

      turned : behind Killed gate ≡ Stopped
      turned = ap (λ (b : Bool). cond b Killed Stopped) shut
  first_closed eight is shut at at_is killed (Some kept) (synced, g, more, parted, there, closed, k, stopped, parts) =
      absurd (cc (killed, stopped))

-- one block more
pub read-step : (how mode : Crash) (file rest bytes : List ℕ) (kept : Option ℕ) (x : List ℕ × Crash × List ℕ)
    → IsReadTo how mode file rest bytes kept → block_at mode rest ≡ Some x
    → IsReadTo how x.1 file x.2 (bytes ++ x.0) (closed_at mode x.1 (length file - length rest) kept)
read-step how mode file rest bytes kept x so_far e =
    let b = block-parts mode rest x e in
    let at_is : length file - length rest ≡ length so_far.front =
    omega (arith, ap length so_far.whole, length-append so_far.front rest) in
    record {
      front = so_far.front ++ (b.gate ∷ 1 ∷ b.head ++ x.0);
      whole = so_far.whole ∙ ap (λ (bs : List ℕ). so_far.front ++ bs) b.whole
          ∙ sym (append_assoc so_far.front (b.gate ∷ 1 ∷ b.head ++ x.0) x.2);
      content = so_far.content ∙ ap (λ (bs : List ℕ). bytes ++ bs) (content-step mode rest x e)
          ∙ sym (append_assoc bytes x.0 (content_in x.1 x.2));
      blocks = subst (λ a. HasBlocks how a file (so_far.front ++ (b.gate ∷ 1 ∷ b.head ++ x.0)) (bytes ++ x.0) (closed_at mode a (length file - length rest) kept))
          (sym b.after)
          (next how mode file rest bytes x.0 x.2 b.gate b.head so_far.front so_far.whole b.whole b.eight b.is b.counted (length file - length rest) at_is kept so_far.blocks);
    }
  where
    next : (how mode : Crash) (file rest bytes block behind_it : List ℕ) (gate : ℕ) (head front : List ℕ)
        (whole : file ≡ front ++ rest) (is_rest : rest ≡ (gate ∷ 1 ∷ head ++ block) ++ behind_it)
        → length head ≡ 8 → little_number 8 head ≡ length block → counts mode gate 1 ≡ true → (at : ℕ) → at ≡ length front
        → (kept : Option ℕ) → HasBlocks how mode file front bytes kept
        → HasBlocks how (behind mode gate) file (front ++ (gate ∷ 1 ∷ head ++ block)) (bytes ++ block) (closed_at mode (behind mode gate) at kept)
    next how Stopped file rest bytes block behind_it gate head front whole is_rest eight is counted at at_is kept blocks =
        let one : gate ≡ 1 = open_gate gate counted in
        subst (λ g. HasBlocks how Stopped file (front ++ (g ∷ 1 ∷ head ++ block)) (bytes ++ block) kept) (sym one)
        (go_on how Stopped file rest bytes block behind_it gate head front whole is_rest eight is kept blocks)
      where
        open_gate : (gate : ℕ) → counts Stopped gate 1 ≡ true → gate ≡ 1
        open_gate gate c = go (eqb gate 1) refl c
          where
            go : (t : Bool) → eqb gate 1 ≡ t → cond t true false ≡ true → gate ≡ 1
            go true e c = eqb-true gate 1 e
            go false e c = absurd cc
    next how Killed file rest bytes block behind_it gate head front whole is_rest eight is counted at at_is kept blocks =
        go (eqb gate 1) refl
      where
        go : (t : Bool) → eqb gate 1 ≡ t
            → HasBlocks how (cond t Killed Stopped) file (front ++ (gate ∷ 1 ∷ head ++ block)) (bytes ++ block) (closed_at Killed (cond t Killed Stopped) at kept)
        go true e =
            subst (λ g. HasBlocks how Killed file (front ++ (g ∷ 1 ∷ head ++ block)) (bytes ++ block) kept) (sym (eqb-true gate 1 e))
            (go_on how Killed file rest bytes block behind_it gate head front whole is_rest eight is kept blocks)
        go false e =
            first_closed how Killed file rest bytes block behind_it gate head front whole is_rest eight is e at at_is refl kept blocks
