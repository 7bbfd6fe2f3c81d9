-- A run of a journal, step by step.
use Rattle.std.proofs.Common.{◌≡◌, inl, ⊎_elim, ℕ, zero, suc, ◌+◌, ◌<◌, ◌≤◌, get_or, add-one, List, [], ◌∷◌, ◌++◌, length, take, drop}
use Rattle.std.proofs.Common.{refl, sym, ap, subst, ◌∙◌, append_assoc, arith}
use Rattle.std.proofs.lemmas.List.{append-nil, length-append, take-append-drop, take-take, take_at}
use Rattle.p9_log.specs.declared.crash.Crash.{Crash}
use Rattle.p9_log.specs.declared.crash.Crash.TheVariants.{Killed, Stopped}
use Rattle.p9_log.specs.Blocks.{content_in}
use Rattle.p9_log.specs.Device.{LeavesOnly}
use Rattle.p9_record.specs.Closed.{closed_spelling}
use Rattle.p9_tree.specs.ForestChange.{forest_edit_of}
use Rattle.p9_tree.specs.ForestEdit.{ForestEdit, all_forest_edited, forest_edited}
use Rattle.p9_tree.specs.Server.{Server}
use Rattle.p9_kept.specs.declared.living.Step.{Step}
use Rattle.p9_kept.specs.declared.living.Step.TheVariants.{Note, Settle, Sync}
use Rattle.p9_kept.specs.Edits.{IsWhole, stood_for}
use Rattle.p9_kept.specs.Runs.{IsAfter, IsTaken, Lives, after_changes, edits_of, kept_after, settled_by}
use Rattle.p9_kept.specs.Making.{IsAppendedAndKept}
use Rattle.p9_kept.proofs.Edits.{all_forest_edited-append, stood-more}

-- What is kept.

pub edits_of-append : (xs ys : List Step) → edits_of (xs ++ ys) ≡ edits_of xs ++ edits_of ys
edits_of-append [] ys = refl
edits_of-append (Note change ∷ xs) ys = ap (λ es. forest_edit_of change ∷ es) (edits_of-append xs ys)
edits_of-append (Settle ∷ xs) ys = edits_of-append xs ys
edits_of-append (Sync ∷ xs) ys = edits_of-append xs ys

kept-append : (how : Crash) (a b : ℕ) (xs ys : List Step)
    → kept_after how a b (xs ++ ys)
    ≡ kept_after how (a + length (edits_of xs)) (kept_after how a b xs) ys
kept-append how a b [] ys = ap (λ n. kept_after how n b ys) (let e : a ≡ a + 0 = omega arith in e)
kept-append how a b (Note change ∷ xs) ys =
    kept-append how (a + 1) b xs ys
    ∙ ap (λ n. kept_after how n (kept_after how (a + 1) b xs) ys)
    (let e : (a + 1) + length (edits_of xs) ≡ a + suc (length (edits_of xs)) = omega arith in e)
kept-append how a b (Settle ∷ xs) ys = kept-append how a (settled_by how a b) xs ys
kept-append how a b (Sync ∷ xs) ys = kept-append how a a xs ys

-- a step behind others
kept-last : (how : Crash) (done : List Step) (step : Step)
    → kept_after how 0 0 (done ++ step ∷ [])
    ≡ kept_after how (length (edits_of done)) (kept_after how 0 0 done) (step ∷ [])
kept-last how done step =
    kept-append how 0 0 done (step ∷ [])
    ∙ ap (λ n. kept_after how n (kept_after how 0 0 done) (step ∷ []))
    (let e : 0 + length (edits_of done) ≡ length (edits_of done) = omega arith in e)

-- no fewer than before
kept-more : (how : Crash) (a b : ℕ) (ys : List Step) → b ≤ a → b ≤ kept_after how a b ys
kept-more how a b [] le = omega arith
kept-more how a b (Note change ∷ ys) le = kept-more how (a + 1) b ys (omega (arith, le))
kept-more Killed a b (Settle ∷ ys) le =
    omega (arith, le, kept-more Killed a a ys (let r : a ≤ a = omega arith in r))
kept-more Stopped a b (Settle ∷ ys) le = kept-more Stopped a b ys le
kept-more how a b (Sync ∷ ys) le =
    omega (arith, le, kept-more how a a ys (let r : a ≤ a = omega arith in r))

-- and no more than were noted
kept-most : (how : Crash) (a b : ℕ) (xs : List Step) → b ≤ a
    → kept_after how a b xs ≤ a + length (edits_of xs)
kept-most how a b [] le = omega (arith, le)
kept-most how a b (Note change ∷ xs) le =
    omega (arith, kept-most how (a + 1) b xs (omega (arith, le)))
kept-most Killed a b (Settle ∷ xs) le = kept-most Killed a a xs (let r : a ≤ a = omega arith in r)
kept-most Stopped a b (Settle ∷ xs) le = kept-most Stopped a b xs le
kept-most how a b (Sync ∷ xs) le = kept-most how a a xs (let r : a ≤ a = omega arith in r)

none-below : 0 ≤ 0
none-below = omega arith

pub kept-noted : (how : Crash) (xs : List Step) → kept_after how 0 0 xs ≤ length (edits_of xs)
kept-noted how xs = omega (arith, kept-most how 0 0 xs none-below)

-- more steps keep no less
pub kept-rises : (how : Crash) (k i : ℕ) (steps : List Step) → k ≤ i
    → kept_after how 0 0 (take k steps) ≤ kept_after how 0 0 (take i steps)
kept-rises how k i steps le =
    let xs = take k steps in
    let ys = drop k (take i steps) in
    let split : xs ++ ys ≡ take i steps =
    ap (λ (f : List Step). f ++ ys) (sym (take-take k i steps le)) ∙ take-append-drop k (take i steps) in
    let noted : kept_after how 0 0 xs ≤ 0 + length (edits_of xs) = kept-most how 0 0 xs none-below in
    let more : kept_after how 0 0 xs ≤ kept_after how (0 + length (edits_of xs)) (kept_after how 0 0 xs) ys =
    kept-more how (0 + length (edits_of xs)) (kept_after how 0 0 xs) ys noted in
    let is : kept_after how 0 0 (take i steps)
    ≡ kept_after how (0 + length (edits_of xs)) (kept_after how 0 0 xs) ys =
    ap (kept_after how 0 0) (sym split) ∙ kept-append how 0 0 xs ys in
    omega arith

-- the changes of the first steps are the first
pub edits-few : (i : ℕ) (steps : List Step) → length (edits_of (take i steps)) ≤ length (edits_of steps)
edits-few i steps =
    omega (
      arith,
      ap (λ (s : List Step). length (edits_of s)) (sym (take-append-drop i steps)),
      ap length (edits_of-append (take i steps) (drop i steps)),
      length-append (edits_of (take i steps)) (edits_of (drop i steps)),
    )

-- one change more
note-next : (steps done rest : List Step) (edit : ForestEdit) (forest : List Server)
    → edits_of steps ≡ edits_of done ++ edit ∷ edits_of rest
    → after_changes (length (edits_of done) + 1) steps forest
    ≡ forest_edited edit (after_changes (length (edits_of done)) steps forest)
note-next steps done rest edit forest is =
    let xs = edits_of done in
    let ys = edits_of rest in
    let longer : edits_of steps ≡ (xs ++ edit ∷ []) ++ ys = is ∙ sym (append_assoc xs (edit ∷ []) ys) in
    let size : length (xs ++ edit ∷ []) ≡ length xs + 1 = length-append xs (edit ∷ []) in
    let front : take (length xs) (edits_of steps) ≡ xs =
    ap (take (length xs)) is ∙ take_at xs (edit ∷ ys) (length xs) refl in
    ap (λ (es : List ForestEdit). all_forest_edited es forest)
    (ap (take (length xs + 1)) longer ∙ take_at (xs ++ edit ∷ []) ys (length xs + 1) size)
    ∙ all_forest_edited-append xs (edit ∷ []) forest
    ∙ ap (λ (es : List ForestEdit). forest_edited edit (all_forest_edited es forest)) (sym front)

-- a step more
pub after-step : (steps done rest : List Step) (step : Step) (forest : List Server)
    (file noted file' noted' : List ℕ) → steps ≡ done ++ step ∷ rest
    → IsAfter steps done forest file noted
    → IsWhole (content_in Killed file ++ noted) → IsTaken step file noted file' noted'
    → IsAfter steps (done ++ step ∷ []) forest file' noted'
after-step steps done rest (Note change) forest file noted file' noted' is at whole taken =
    let edit = forest_edit_of change in
    let kept : (how : Crash) → kept_after how 0 0 (done ++ Note change ∷ []) ≡ kept_after how 0 0 done =
    λ how. kept-last how done (Note change) in
    let size : length (edits_of (done ++ Note change ∷ [])) ≡ length (edits_of done) + 1 =
    ap length (edits_of-append done (Note change ∷ [])) ∙ length-append (edits_of done) (edit ∷ []) in
    record {
      settled =
          ap (λ f. stood_for (content_in Killed f)) taken.0 ∙ at.settled
          ∙ ap (λ n. after_changes n steps forest) (sym (kept Killed));
      synced =
          ap (λ f. stood_for (content_in Stopped f)) taken.0 ∙ at.synced
          ∙ ap (λ n. after_changes n steps forest) (sym (kept Stopped));
      stands =
          ap (λ f. stood_for (content_in Killed f ++ noted')) taken.0
          ∙ ap (λ b. stood_for (content_in Killed file ++ b)) taken.1
          ∙ ap stood_for (sym (append_assoc (content_in Killed file) noted (closed_spelling edit)))
          ∙ stood-more [] (content_in Killed file ++ noted) edit whole taken.2
          ∙ ap (forest_edited edit) at.stands
          ∙ sym (note-next steps done rest edit forest
          (ap edits_of is ∙ edits_of-append done (Note change ∷ rest)))
          ∙ ap (λ n. after_changes n steps forest) (sym size);
    }
after-step steps done rest Settle forest file noted file' noted' is at whole taken =
    let size : length (edits_of (done ++ Settle ∷ [])) ≡ length (edits_of done) =
    ap length (edits_of-append done (Settle ∷ []) ∙ append-nil (edits_of done)) in
    let all : stood_for (content_in Killed file') ≡ after_changes (length (edits_of done)) steps forest =
    ap stood_for taken.0 ∙ at.stands in
    record {
      settled =
          all ∙ ap (λ n. after_changes n steps forest) (sym (kept-last Killed done Settle));
      synced =
          ap stood_for taken.1 ∙ at.synced
          ∙ ap (λ n. after_changes n steps forest) (sym (kept-last Stopped done Settle));
      stands =
          ap (λ b. stood_for (content_in Killed file' ++ b)) taken.2
          ∙ ap stood_for (append-nil (content_in Killed file')) ∙ all
          ∙ ap (λ n. after_changes n steps forest) (sym size);
    }
after-step steps done rest Sync forest file noted file' noted' is at whole taken =
    let size : length (edits_of (done ++ Sync ∷ [])) ≡ length (edits_of done) =
    ap length (edits_of-append done (Sync ∷ []) ∙ append-nil (edits_of done)) in
    let all : stood_for (content_in Killed file') ≡ after_changes (length (edits_of done)) steps forest =
    ap stood_for taken.0 ∙ at.stands in
    record {
      settled =
          all ∙ ap (λ n. after_changes n steps forest) (sym (kept-last Killed done Sync));
      synced =
          ap stood_for taken.1 ∙ at.stands
          ∙ ap (λ n. after_changes n steps forest) (sym (kept-last Stopped done Sync));
      stands =
          ap (λ b. stood_for (content_in Killed file' ++ b)) taken.2
          ∙ ap stood_for (append-nil (content_in Killed file')) ∙ all
          ∙ ap (λ n. after_changes n steps forest) (sym size);
    }

-- the steps before one, that one, and those behind it
split-at : (steps : List Step) (i : ℕ) (step : Step) → i < length steps → step ≡ get_or steps i step
    → steps ≡ take i steps ++ step ∷ drop (suc i) steps
split-at [] i step lt is = absurd (omega arith)
split-at (x ∷ xs) zero step lt is = ap (λ (y : Step). y ∷ xs) (sym is)
split-at (x ∷ xs) (suc i) step lt is = ap (λ (ys : List Step). x ∷ ys) (split-at xs i step (omega (arith, lt)) is)

take-next : (steps : List Step) (i : ℕ) (step : Step) → i < length steps → step ≡ get_or steps i step
    → take i steps ++ step ∷ [] ≡ take (suc i) steps
take-next [] i step lt is = absurd (omega arith)
take-next (x ∷ xs) zero step lt is = ap (λ (y : Step). y ∷ []) is
take-next (x ∷ xs) (suc i) step lt is = ap (λ (ys : List Step). x ∷ ys) (take-next xs i step (omega (arith, lt)) is)

-- the step of an index
pub after-next : (steps : List Step) (i : ℕ) (step : Step) (forest : List Server)
    (file noted file' noted' : List ℕ) → i < length steps → step ≡ get_or steps i step
    → IsAfter steps (take i steps) forest file noted
    → IsWhole (content_in Killed file ++ noted) → IsTaken step file noted file' noted'
    → IsAfter steps (take (i + 1) steps) forest file' noted'
after-next steps i step forest file noted file' noted' lt is at whole taken =
    subst (λ d. IsAfter steps d forest file' noted')
    (take-next steps i step lt is ∙ rw add-one refl)
    (after-step steps (take i steps) (drop (suc i) steps) step forest file noted file' noted'
    (split-at steps i step lt is) at whole taken)

-- What a crash leaves.

-- what is left in a step stands for one of the forests
stands-for-some : (how : Crash) (i least : ℕ) (steps : List Step) (forest : List Server)
    (file noted c : List ℕ)
    → IsAfter steps (take i steps) forest file noted
    → least ≤ kept_after how 0 0 (take i steps) → IsAppendedAndKept how file noted c
    → (n : ℕ) × (least ≤ n) × (n ≤ length (edits_of steps))
    × (stood_for (content_in how c) ≡ after_changes n steps forest)
stands-for-some Killed i least steps forest file noted c at le is =
    let kept : kept_after Killed 0 0 (take i steps) ≤ length (edits_of (take i steps)) = kept-noted Killed (take i steps) in
    let few : length (edits_of (take i steps)) ≤ length (edits_of steps) = edits-few i steps in
    ⊎_elim
    (λ e. (kept_after Killed 0 0 (take i steps), le, omega arith, ap stood_for e ∙ at.settled))
    (λ e. (length (edits_of (take i steps)), omega arith, few, ap stood_for e ∙ at.stands)) is
stands-for-some Stopped i least steps forest file noted c at le is =
    let kept : kept_after Stopped 0 0 (take i steps) ≤ length (edits_of (take i steps)) = kept-noted Stopped (take i steps) in
    let few : length (edits_of (take i steps)) ≤ length (edits_of steps) = edits-few i steps in
    ⊎_elim
    (λ e. (kept_after Stopped 0 0 (take i steps), le, omega arith, ap stood_for e ∙ at.synced))
    (λ e. (length (edits_of (take i steps)), omega arith, few, ap stood_for e ∙ at.stands)) is

module _ {D : Type 0} (seen : D → List ℕ) (moment : D → ℕ) (may_leave : D → Crash → List ℕ → Type 0)
    (left_since : D → Crash → ℕ → List ℕ → Type 0) (how : Crash) (steps : List Step)
    (forest : List Server) where
  -- a step within which the run lives on
  pub lives-on : (i k : ℕ) (noted : List ℕ) (old mid new : D) → k ≤ i
      → IsAfter steps (take i steps) forest (seen mid) noted
      → LeavesOnly moment left_since how (IsAppendedAndKept how (seen mid) noted) mid new
      → Lives seen moment left_since how steps (take k steps) forest old mid
      → Lives seen moment left_since how steps (take k steps) forest old new
  lives-on i k noted old mid new le at step lives =
      let before : moment lives.at_then ≤ moment mid = lives.before in
      let later : moment mid ≤ moment new = step.later in
      record {
        at_then = lives.at_then;
        noted = lives.noted;
        is = lives.is;
        later = lives.later;
        before = omega arith;
        leaves = λ c left.
            ⊎_elim (λ was. lives.leaves c was)
            (λ is. stands-for-some how i (kept_after how 0 0 (take k steps)) steps forest (seen mid) noted c at
            (kept-rises how k i steps le) is)
            (step.since (moment lives.at_then) c before left);
      }

  -- and from now on
  pub lives-now : (i : ℕ) (noted : List ℕ) (old new : D) → moment old ≤ moment new
      → ((c : List ℕ) → left_since new how (moment new) c → may_leave new how c)
      → ((c : List ℕ) → may_leave new how c → content_in how c ≡ content_in how (seen new))
      → IsAfter steps (take i steps) forest (seen new) noted
      → Lives seen moment left_since how steps (take i steps) forest old new
  lives-now i noted old new later only as_seen at = record {
    at_then = new;
    noted = noted;
    is = at;
    later = later;
    before = omega arith;
    leaves = λ c left.
        stands-for-some how i (kept_after how 0 0 (take i steps)) steps forest (seen new) noted c at
        (omega arith) (same how c (as_seen c (only c left)));
  }
    where
      same : (how : Crash) (c : List ℕ) → content_in how c ≡ content_in how (seen new)
          → IsAppendedAndKept how (seen new) noted c
      same Killed c e = inl e
      same Stopped c e = inl e
