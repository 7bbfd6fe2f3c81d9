-- Files at rest.
use Rattle.std.proofs.Common.{◌≡◌, ℕ, ◌+◌, ◌<◌, ◌^◌, true, false, eqb}
use Rattle.std.proofs.Common.{List, [], ◌∷◌, ◌++◌, None, length, get_or, take, drop, refl, sym, ap, subst, ◌∙◌}
use Rattle.std.proofs.Common.{append_assoc, arith, length-append}
use Rattle.std.proofs.lemmas.List.{append-nil, take_at, drop_at, drop-drop, drop_more}
use Rattle.byteorder.specs.Endian.{little_number}
use Rattle.p9_log.specs.declared.crash.Crash.{Crash}
use Rattle.p9_log.specs.declared.crash.Crash.TheVariants.{Killed, Stopped}
use Rattle.p9_log.specs.Blocks.{number, counts, behind, block_at, content_in}
use Rattle.p9_log.specs.Rest.{block, Runs, Parts, between, IsAtRest, IsSplit}
use Rattle.p9_log.proofs.Readings.{length-number, number-reads, block-back, content-step}
use Rattle.p9_log.proofs.Readings.{content-stop, closed}

-- one front after another
pub runs-join : (how mid after : Crash) (front next content more : List ℕ) → Runs how front content mid
    → Runs mid next more after → Runs how (front ++ next) (content ++ more) after
runs-join how mid after front next content more first second rest =
    ap (content_in how) (append_assoc front next rest) ∙ first (next ++ rest)
    ∙ ap (λ bs. content ++ bs) (second rest) ∙ sym (append_assoc content more (content_in after rest))

-- a block that counts, whatever the eight bytes of its size are
pub runs-head : (how : Crash) (gate : ℕ) (head bytes : List ℕ) → counts how gate 1 ≡ true
    → length head ≡ 8 → little_number 8 head ≡ length bytes
    → Runs how (gate ∷ 1 ∷ head ++ bytes) bytes (behind how gate)
runs-head how gate head bytes counted eight is more =
    content-step how ((gate ∷ 1 ∷ head ++ bytes) ++ more) (bytes, behind how gate, more)
    (block-back how gate head bytes more counted eight is)

-- a block that counts
pub runs-block : (how : Crash) (gate : ℕ) (bytes : List ℕ) → length bytes < 2 ^ 64
    → counts how gate 1 ≡ true → Runs how (block gate bytes) bytes (behind how gate)
runs-block how gate bytes small counted =
    runs-head how gate (number (length bytes)) bytes counted (length-number (length bytes))
    (number-reads (length bytes) small)

-- an open block counts in any way, and changes none
pub counts-open : (how : Crash) → counts how 1 1 ≡ true
counts-open Killed = refl
counts-open Stopped = refl

pub behind-open : (how : Crash) → behind how 1 ≡ how
behind-open Killed = refl
behind-open Stopped = refl

pub runs-open : (how : Crash) (bytes : List ℕ) → length bytes < 2 ^ 64
    → Runs how (block 1 bytes) bytes how
runs-open how bytes small =
    subst (λ after. Runs how (block 1 bytes) bytes after) (behind-open how)
    (runs-block how 1 bytes small (counts-open how))

-- a front behind which nothing counts
pub runs-stop : (how after : Crash) (front content more : List ℕ) → Runs how front content after
    → block_at after more ≡ None → content_in how (front ++ more) ≡ content
runs-stop how after front content more runs none =
    runs more ∙ ap (λ bs. content ++ bs) (content-stop after more none) ∙ append-nil content

-- a closed sync gate behind a front
pub stopped-front : (front content rest : List ℕ) (gate : ℕ) → ((how : Crash) → Runs how front content how)
    → eqb gate 1 ≡ false → content_in Stopped (front ++ gate ∷ rest) ≡ content
stopped-front front content rest gate runs shut_gate =
    runs-stop Stopped Stopped front content (gate ∷ rest) (runs Stopped) (closed gate rest shut_gate)

module _ (gate : ℕ) (front rest synced content : List ℕ) (parts : Parts gate front rest synced content) where
  -- more open blocks
  pub parts-more : (more bytes : List ℕ) → ((how : Crash) → Runs how more bytes how)
      → Parts gate front (rest ++ more) synced (content ++ bytes)
  parts-more more bytes runs = record {
    kept = parts.kept;
    written = subst (λ f. Runs Killed f (content ++ bytes) Stopped) (append_assoc front (gate ∷ rest) more)
        (runs-join Killed Stopped Stopped (front ++ gate ∷ rest) more content bytes parts.written (runs Stopped));
    opened = λ how. subst (λ f. Runs how f (content ++ bytes) how) (append_assoc front (1 ∷ rest) more)
        (runs-join how how how (front ++ 1 ∷ rest) more content bytes (parts.opened how) (runs how));
  }

  -- a block more
  pub parts-append : (bytes : List ℕ) → length bytes < 2 ^ 64
      → Parts gate front (rest ++ block 1 bytes) synced (content ++ bytes)
  parts-append bytes small = parts-more (block 1 bytes) bytes (λ how. runs-open how bytes small)

-- a mark behind open blocks
pub parts-fresh : (front content : List ℕ) → ((how : Crash) → Runs how front content how)
    → Parts 0 front (1 ∷ number 0) content content
parts-fresh front content runs = record {
  kept = runs;
  written = subst (λ bs. Runs Killed (front ++ 0 ∷ 1 ∷ number 0) bs Stopped) (append-nil content)
      (runs-join Killed Killed Stopped front (0 ∷ 1 ∷ number 0) content [] (runs Killed)
      (subst (λ f. Runs Killed f [] Stopped) same (runs-block Killed 0 [] (omega arith) refl)));
  opened = λ how. subst (λ bs. Runs how (front ++ 1 ∷ 1 ∷ number 0) bs how) (append-nil content)
      (runs-join how how how front (1 ∷ 1 ∷ number 0) content [] (runs how)
      (subst (λ f. Runs how f [] how) (ap (λ (bs : List ℕ). 1 ∷ 1 ∷ bs) (append-nil (number 0))) (runs-open how [] (omega arith))));
}
  where
    same : block 0 [] ≡ 0 ∷ 1 ∷ number 0
    same = ap (λ (bs : List ℕ). 0 ∷ 1 ∷ bs) (append-nil (number 0))

module _ (gate : ℕ) (front rest tail synced content : List ℕ)
    (parts : Parts gate front rest synced content) (shut_gate : eqb gate 1 ≡ false)
    (none : block_at Stopped tail ≡ None) where
  -- what such a file has in it
  pub split-killed : content_in Killed ((front ++ gate ∷ rest) ++ tail) ≡ content
  split-killed = runs-stop Killed Stopped (front ++ gate ∷ rest) content tail parts.written none

  pub split-stopped : content_in Stopped ((front ++ gate ∷ rest) ++ tail) ≡ synced
  split-stopped =
      ap (content_in Stopped) (append_assoc front (gate ∷ rest) tail)
      ∙ stopped-front front synced (rest ++ tail) gate parts.kept shut_gate

  -- its offsets
  pub is_split : (file : List ℕ) (kept end : ℕ) → file ≡ (front ++ gate ∷ rest) ++ tail
      → kept ≡ length front → end ≡ length front + 1 + length rest
      → IsSplit file kept end × (drop end file ≡ tail)
  is_split file kept end is kept_is end_is =
      let blocks_long : length (front ++ gate ∷ rest) ≡ end = omega (arith, length-append front (gate ∷ rest), end_is) in
      let long : length file ≡ end + length tail = ap length is ∙ omega (arith, blocks_long, length-append (front ++ gate ∷ rest) tail) in
      let parted : file ≡ front ++ (gate ∷ rest ++ tail) = is ∙ append_assoc front (gate ∷ rest) tail in
      let taken : take kept file ≡ front = ap (take kept) parted ∙ take_at front (gate ∷ rest ++ tail) kept (sym kept_is) in
      let dropped : drop kept file ≡ gate ∷ rest ++ tail = ap (drop kept) parted ∙ drop_at front (gate ∷ rest ++ tail) kept (sym kept_is) in
      let at : get_or file kept 0 ≡ gate =
      ap (λ (bs : List ℕ). get_or bs 0 0) (sym (drop_more file kept 0 (omega (arith, long))) ∙ dropped) in
      let blocks : take end file ≡ front ++ gate ∷ rest =
      ap (take end) is ∙ take_at (front ++ gate ∷ rest) tail end blocks_long in
      let inner : between kept end file ≡ rest =
      ap (drop (kept + 1)) (blocks ∙ sym (append_assoc front (gate ∷ []) rest))
      ∙ drop_at (front ++ gate ∷ []) rest (kept + 1) (omega (arith, length-append front (gate ∷ []), kept_is)) in
      let last : drop end file ≡ tail = ap (drop end) is ∙ drop_at (front ++ gate ∷ rest) tail end blocks_long in
      let killed : content_in Killed file ≡ content = ap (content_in Killed) is ∙ split-killed in
      let stopped : content_in Stopped file ≡ synced = ap (content_in Stopped) is ∙ split-stopped in (
        record {
          order = omega arith;
          size = omega (arith, long);
          whole = is ∙ (λ i. (sym taken i ++ sym at i ∷ sym inner i) ++ sym last i);
          gate = ap (λ g. eqb g 1) at ∙ shut_gate;
          tail = ap (block_at Stopped) last ∙ none;
          parts = subst (λ (x : ℕ × List ℕ × List ℕ × List ℕ × List ℕ). Parts x.0 x.1 x.2 x.3 x.4)
              (λ i. (sym at i, sym taken i, sym inner i, sym stopped i, sym killed i)) parts;
        },
        last,
      )

-- the gates of the next block behind the blocks
pub at_rest : (file : List ℕ) (kept end : ℕ) (more : List ℕ) → IsSplit file kept end
    → drop end file ≡ 1 ∷ 0 ∷ more → IsAtRest file kept end
at_rest file kept end more split e = record {
  split = split;
  next = e ∙ ap (λ (bs : List ℕ). 1 ∷ 0 ∷ bs) (sym (ap (drop 2) e) ∙ drop-drop 2 end file);
}
