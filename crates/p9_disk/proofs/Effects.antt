-- What a call makes of the file is what a crash within it may make of it.
use Rattle.std.proofs.Common.{◌≡◌, inl, inr, ⊎_elim, ℕ, ◌+◌, ◌-◌, ◌≤◌, ◌<◌, min, List, [], ◌∷◌, ◌++◌, length, take, drop, refl, sym, ap, subst, ◌∙◌, append_assoc, arith, length-append, length-drop, length-take, take-append-drop}
use Rattle.std.proofs.lemmas.Bool.{cases_lt}
use Rattle.std.proofs.lemmas.List.{append-nil, take_all, take_at, take_min, drop_at, drop_all}
use Rattle.p9_log.specs.declared.crash.Crash.{Crash}
use Rattle.p9_log.specs.declared.crash.Crash.TheVariants.{Killed, Stopped}
use Rattle.p9_log.specs.Device.{After, IsCut, IsWritten}
use Rattle.p9_disk.specs.Events.{Event, drafted, overwritten, seen, opened, read_failed, wrote, write_failed, cut_to, cut_failed, synced, sync_failed, draft_begun, draft_added, draft_failed, draft_put, draft_renamed, put_failed}
use Rattle.p9_disk.specs.Crashes.{may_leave, step_of}

-- a write that isn't done
pub not_written : (how : Crash) (at : ℕ) (bytes file : List ℕ) → IsWritten how at bytes file file
not_written Killed at bytes file =
    (0, sym (take-append-drop at file) ∙ ap (λ (bs : List ℕ). bs ++ drop at file) (sym (append-nil (take at file))) ∙ ap (λ (k : ℕ). take at file ++ [] ++ drop k file) (omega arith))
not_written Stopped at bytes file = record { before = take_min at file; after = refl; no_shorter = omega arith; no_longer = omega arith }

-- and one that is
behind : (at : ℕ) (bytes file : List ℕ) → drop (at + length bytes) (overwritten file at bytes) ≡ drop (at + length bytes) file
behind at bytes file =
    let n = at + length bytes in
    let front : length (take at file) ≡ min at (length file) = length-take at file in
    let both = length-append (take at file) bytes in
    let all = length-append (take at file ++ bytes) (drop n file) in
    let rest = length-drop n file in
    ⊎_elim
    (λ (short : length file < at).
    drop_all n ((take at file ++ bytes) ++ drop n file) (omega (arith, short)) ∙ sym (drop_all n file (omega (arith, short))))
    (λ (long : at ≤ length file). drop_at (take at file ++ bytes) (drop n file) n (omega (arith, long)))
    (cases_lt (length file) at)

written : (how : Crash) (at : ℕ) (bytes file : List ℕ) → IsWritten how at bytes file (overwritten file at bytes)
written Killed at bytes file = (length bytes, sym (ap (overwritten file at) (take_all (length bytes) bytes (omega arith))))
written Stopped at bytes file =
    let n = at + length bytes in
    let front : length (take at file) ≡ min at (length file) = length-take at file in
    let both = length-append (take at file) bytes in
    let all = length-append (take at file ++ bytes) (drop n file) in
    let rest = length-drop n file in
    let long : length (overwritten file at bytes) ≡ min at (length file) + length bytes + (length file - n) = omega arith in
    record {
      before = ap (take (min at (length file))) (append_assoc (take at file) bytes (drop n file))
          ∙ take_at (take at file) (bytes ++ drop n file) (min at (length file)) front;
      after = behind at bytes file;
      no_shorter = omega (arith, long);
      no_longer = omega (arith, long);
    }

not_cut : (how : Crash) (n : ℕ) (file : List ℕ) → IsCut how n file file
not_cut Killed n file = inl refl
not_cut Stopped n file = record { no_shorter = omega arith; no_longer = omega arith; before = take_min n file }

cut : (how : Crash) (n : ℕ) (file : List ℕ) → IsCut how n file (take n file)
cut Killed n file = inr refl
cut Stopped n file =
    let long : length (take n file) ≡ min n (length file) = length-take n file in
    record { no_shorter = omega arith; no_longer = omega arith; before = take_all (min n (length file)) (take n file) (omega arith) }

-- a call takes its step
takes : (how : Crash) (e : Event) (earlier : List Event) → step_of how e (drafted earlier) (seen earlier) (seen (e ∷ earlier))
takes how (opened bytes) earlier = refl
takes how read_failed earlier = refl
takes how (wrote at bytes) earlier = written how at bytes (seen earlier)
takes how (write_failed at bytes) earlier = not_written how at bytes (seen earlier)
takes how (cut_to len) earlier = cut how len (seen earlier)
takes how (cut_failed len) earlier = not_cut how len (seen earlier)
takes how synced earlier = refl
takes how sync_failed earlier = refl
takes how draft_begun earlier = refl
takes how (draft_added bytes) earlier = refl
takes how draft_failed earlier = refl
takes how draft_put earlier = inr refl
takes how draft_renamed earlier = inr refl
takes how put_failed earlier = inl refl

-- a crash may leave what is seen
pub leaves_seen : (how : Crash) (events : List Event) → may_leave how events (seen events)
leaves_seen Killed events = refl
leaves_seen Stopped [] = refl
leaves_seen Stopped (opened bytes ∷ earlier) = refl
leaves_seen Stopped (read_failed ∷ earlier) = (seen earlier, leaves_seen Stopped earlier, takes Stopped read_failed earlier)
leaves_seen Stopped (wrote at bytes ∷ earlier) = (seen earlier, leaves_seen Stopped earlier, takes Stopped (wrote at bytes) earlier)
leaves_seen Stopped (write_failed at bytes ∷ earlier) = (seen earlier, leaves_seen Stopped earlier, takes Stopped (write_failed at bytes) earlier)
leaves_seen Stopped (cut_to len ∷ earlier) = (seen earlier, leaves_seen Stopped earlier, takes Stopped (cut_to len) earlier)
leaves_seen Stopped (cut_failed len ∷ earlier) = (seen earlier, leaves_seen Stopped earlier, takes Stopped (cut_failed len) earlier)
leaves_seen Stopped (synced ∷ earlier) = (leaves_seen Stopped earlier, λ _. refl)
leaves_seen Stopped (sync_failed ∷ earlier) = (seen earlier, leaves_seen Stopped earlier, takes Stopped sync_failed earlier)
leaves_seen Stopped (draft_begun ∷ earlier) = (seen earlier, leaves_seen Stopped earlier, takes Stopped draft_begun earlier)
leaves_seen Stopped (draft_added bytes ∷ earlier) = (seen earlier, leaves_seen Stopped earlier, takes Stopped (draft_added bytes) earlier)
leaves_seen Stopped (draft_failed ∷ earlier) = (seen earlier, leaves_seen Stopped earlier, takes Stopped draft_failed earlier)
leaves_seen Stopped (draft_put ∷ earlier) = ((seen earlier, leaves_seen Stopped earlier, inr refl), λ _. refl)
leaves_seen Stopped (draft_renamed ∷ earlier) = (seen earlier, leaves_seen Stopped earlier, takes Stopped draft_renamed earlier)
leaves_seen Stopped (put_failed ∷ earlier) = (seen earlier, leaves_seen Stopped earlier, takes Stopped put_failed earlier)

module _ (how : Crash) (e : Event) (earlier : List Event) (c : List ℕ) where
  from_seen : c ≡ seen (e ∷ earlier) → After (step_of how e (drafted earlier)) (may_leave how earlier) c
  from_seen is =
      (seen earlier, leaves_seen how earlier, subst (step_of how e (drafted earlier) (seen earlier)) (sym is) (takes how e earlier))

-- what a crash leaves after a call, it might have left before, after the call's step
pub after : (how : Crash) (e : Event) (earlier : List Event) (c : List ℕ) → may_leave how (e ∷ earlier) c
    → After (step_of how e (drafted earlier)) (may_leave how earlier) c
after Killed e earlier c is = from_seen Killed e earlier c is
after Stopped (opened bytes) earlier c is = from_seen Stopped (opened bytes) earlier c is
after Stopped synced earlier c (left, only) = (c, left, refl)
after Stopped draft_put earlier c (left, only) = left
after Stopped read_failed earlier c left = left
after Stopped (wrote at bytes) earlier c left = left
after Stopped (write_failed at bytes) earlier c left = left
after Stopped (cut_to len) earlier c left = left
after Stopped (cut_failed len) earlier c left = left
after Stopped sync_failed earlier c left = left
after Stopped draft_begun earlier c left = left
after Stopped (draft_added bytes) earlier c left = left
after Stopped draft_failed earlier c left = left
after Stopped draft_renamed earlier c left = left
after Stopped put_failed earlier c left = left
