-- What a crash leaves while the end of a file is repaired.
use Rattle.std.proofs.Common.{take-append-drop, length-drop, ⊎_elim, drop, append_assoc, ◌≡◌, inl, inr, ℕ, ◌+◌, ◌≤◌, List, [], ◌∷◌, ◌++◌, length, take}
use Rattle.std.proofs.Common.{Option, Some, None, refl, sym, ap, subst, ◌∙◌, arith, length-append}
use Rattle.std.proofs.lemmas.List.{append-nil, take_at, drop_at, drop-take}
use Rattle.p9_log.specs.declared.crash.Crash.{Crash}
use Rattle.p9_log.specs.declared.crash.Crash.TheVariants.{Killed, Stopped}
use Rattle.p9_log.specs.Blocks.{block_at, content_in}
use Rattle.p9_log.specs.Log.{IsKept, IsRecovered, StillHas}
use Rattle.p9_log.specs.Reading.{HasBlocks, IsCutBehind, IsFound}
use Rattle.p9_log.specs.Rest.{IsSplit, Runs}
use Rattle.p9_log.proofs.Ends.{head-stop, few-none}
use Rattle.p9_log.proofs.Readings.{content-stop, killed-stop}
use Rattle.p9_log.proofs.Rest.{stopped-front, runs-stop, is_split, split-killed, split-stopped}

module _ (how : Crash) (file bytes : List ℕ) (end left : ℕ) (kept : Option ℕ) (f : IsFound how file bytes end left kept) where
  -- what it has in it
  pub content-is : content_in how file ≡ bytes
  content-is = f.read.content ∙ ap (λ (bs : List ℕ). bytes ++ bs) (content-stop f.mode f.rest f.none) ∙ append-nil bytes

  size : length f.read.front ≡ end
  size = omega (arith, f.ends, f.size, ap length f.read.whole, length-append f.read.front f.rest)

  pub cut-is : take end file ≡ f.read.front
  cut-is = ap (take end) f.read.whole ∙ take_at f.read.front f.rest end size

  pub within : end ≤ length file
  within = omega (arith, f.ends)

  -- what is cut behind all the blocks
  pub cut-recovered : (kind : Crash) (c : List ℕ) → IsCutBehind end file c → IsRecovered how kind file c
  cut-recovered kind c ((same, there, no_longer), head) =
      let more : List ℕ = drop end c in
      let parted : c ≡ f.read.front ++ more =
      sym (take-append-drop end c) ∙ ap (λ (bs : List ℕ). bs ++ more) (same ∙ cut-is) in
      let rest : drop end file ≡ f.rest = ap (drop end) f.read.whole ∙ drop_at f.read.front f.rest end size in
      go how f.mode file f.rest bytes f.read.front kept f.read.blocks kind c more
      (λ m none. ⊎_elim
      (λ ten. content-stop m more (head-stop m f.rest more none
      (sym (drop-take end 10 c) ∙ ap (drop end) ten ∙ drop-take end 10 file ∙ ap (take 10) rest)
      (omega (arith, length-drop end c, f.ends, f.size))))
      (λ few. few-none m more (omega (arith, length-drop end c))) head)
      f.none content-is parted
    where
      runs-none : (x after : Crash) (front bytes more : List ℕ) → Runs x front bytes after → content_in after more ≡ []
          → content_in x (front ++ more) ≡ bytes
      runs-none x after front bytes more runs none = runs more ∙ ap (λ (bs : List ℕ). bytes ++ bs) none ∙ append-nil bytes

      go : (how mode : Crash) (file rest bytes front : List ℕ) (kept : Option ℕ) → HasBlocks how mode file front bytes kept
          → (kind : Crash) (c more : List ℕ) → ((m : Crash) → block_at m rest ≡ None → content_in m more ≡ [])
          → block_at mode rest ≡ None → content_in how file ≡ bytes → c ≡ front ++ more
          → IsRecovered how kind file c
      go Killed mode file rest bytes front None (same, runs) Killed c more nothing none has is =
          ap (content_in Killed) is
          ∙ runs-none Killed Killed front bytes more (runs Killed) (nothing Killed (subst (λ m. block_at m rest ≡ None) same none)) ∙ sym has
      go Killed mode file rest bytes front None (same, runs) Stopped c more nothing none has is =
          inr (ap (content_in Stopped) is
          ∙ runs-none Stopped Stopped front bytes more (runs Stopped) (nothing Stopped (killed-stop rest (subst (λ m. block_at m rest ≡ None) same none))) ∙ sym has)
      go Stopped mode file rest bytes front None (same, runs) kind c more nothing none has is =
          ap (content_in Stopped) is
          ∙ runs-none Stopped Stopped front bytes more (runs Stopped) (nothing Stopped (subst (λ m. block_at m rest ≡ None) same none)) ∙ sym has
      go Killed mode file rest bytes front (Some k) (synced, gate, inner, parted, at, shut, killed, stopped, parts) Killed c more nothing none has is =
          ap (content_in Killed) (is ∙ ap (λ (bs : List ℕ). bs ++ more) parted)
          ∙ runs-none Killed Stopped (synced ++ gate ∷ inner) bytes more parts.written (nothing Stopped (subst (λ m. block_at m rest ≡ None) stopped none)) ∙ sym has
      go Killed mode file rest bytes front (Some k) (synced, gate, inner, parted, at, shut, killed, stopped, parts) Stopped c more nothing none has is =
          inl (ap (content_in Stopped) (is ∙ ap (λ (bs : List ℕ). bs ++ more) parted ∙ append_assoc synced (gate ∷ inner) more)
          ∙ stopped-front synced (content_in Stopped file) (inner ++ more) gate parts.kept shut)
      go Stopped mode file rest bytes front (Some k) (synced, gate, inner, parted, at, shut, killed, stopped, parts) kind c more nothing none has is =
          absurd (cc (killed))

-- with a closed sync gate
module _ (how : Crash) (file bytes : List ℕ) (end left kept : ℕ) (f : IsFound how file bytes end left (Some kept)) (now : List ℕ) (is : now ≡ take end file) where
  pub record IsCut : Type 0 where
    pub split : IsSplit now kept end
    pub written : content_in Killed now ≡ content_in how file
    pub synced : content_in Stopped now ≡ content_in Stopped file
    pub killed : how ≡ Killed

  pub is_cut : IsCut
  is_cut = go f.read.front kept refl (size how file bytes end left (Some kept) f) (is ∙ cut-is how file bytes end left (Some kept) f) f.read.blocks
    where
      go : (front : List ℕ) (k : ℕ) → k ≡ kept → length front ≡ end → now ≡ front → HasBlocks how f.mode file front bytes (Some k) → IsCut
      go front k same size here (synced, gate, more, parted, at, shut, killed, stopped, parts) =
          let parted_now : now ≡ (synced ++ gate ∷ more) ++ [] = here ∙ parted ∙ sym (append-nil (synced ++ gate ∷ more)) in
          let long : end ≡ length synced + 1 + length more = omega (arith, ap length parted, length-append synced (gate ∷ more)) in
          record {
            split = (is_split gate synced more [] (content_in Stopped file) bytes parts shut refl now kept end parted_now (sym same ∙ at) long).0;
            written = ap (content_in Killed) parted_now ∙ split-killed gate synced more [] (content_in Stopped file) bytes parts shut refl
                ∙ sym (content-is how file bytes end left (Some kept) f);
            synced = ap (content_in Stopped) parted_now ∙ split-stopped gate synced more [] (content_in Stopped file) bytes parts shut refl;
            killed = killed;
          }

  pub kept-recovered : (kind : Crash) (c : List ℕ) → IsKept kind now c → IsRecovered how kind file c
  kept-recovered kind c = go how is_cut.killed is_cut.written kind
    where
      go : (how : Crash) → how ≡ Killed → content_in Killed now ≡ content_in how file → (kind : Crash) → IsKept kind now c → IsRecovered how kind file c
      go Killed killed written Killed is = is ∙ written
      go Killed killed written Stopped is = ⊎_elim (λ e. inl (e ∙ is_cut.synced)) (λ e. inr (e ∙ written)) is
      go Stopped killed written kind is = absurd (cc (killed))

-- with all sync gates open
module _ (how : Crash) (file bytes : List ℕ) (end left : ℕ) (f : IsFound how file bytes end left None) (now : List ℕ) (is : now ≡ take end file) where
  here : now ≡ f.read.front
  here = is ∙ cut-is how file bytes end left None f

  runs-now : (x : Crash) → Runs x now bytes x
  runs-now x = subst (λ front. Runs x front bytes x) (sym here) (f.read.blocks.1 x)

  pub open-content : content_in Stopped now ≡ bytes
  open-content = ap (content_in Stopped) (sym (append-nil now)) ∙ runs-stop Stopped Stopped now bytes [] (runs-now Stopped) refl

  pub open-runs : (x : Crash) → Runs x now (content_in Stopped now) x
  open-runs x = subst (λ bs. Runs x now bs x) (sym open-content) (runs-now x)

  pub open-same : content_in Stopped now ≡ content_in how file
  open-same = open-content ∙ sym (content-is how file bytes end left None f)

  pub still-recovered : (kind : Crash) (c : List ℕ) → StillHas kind (content_in Stopped now) c → IsRecovered how kind file c
  still-recovered kind c = go how open-same kind
    where
      go : (how : Crash) → content_in Stopped now ≡ content_in how file → (kind : Crash) → StillHas kind (content_in Stopped now) c → IsRecovered how kind file c
      go Killed same Killed has = has Killed ∙ same
      go Killed same Stopped has = inr (has ∙ same)
      go Stopped same Killed has = has Stopped ∙ same
      go Stopped same Stopped has = has ∙ same
