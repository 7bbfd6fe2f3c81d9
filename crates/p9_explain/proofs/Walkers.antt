-- Who takes a walk.
use Rattle.std.proofs.Common.{◌≡◌, ℕ, ◌<◌, true, List, refl, length, get_or, sym, ap, ◌∙◌}
use Rattle.std.specs.List.{list_any}
use Rattle.std.specs.Str.{bytes_eq}
use Rattle.std.proofs.lemmas.List.Folds.{list_any_at}
use Rattle.std.proofs.lemmas.Slice.Eq.{bytes_eq-Decides}
use Rattle.p9_judge.specs.declared.breach.Step.{Step}
use Rattle.p9_world.specs.World.{World}
use Rattle.p9_explain.specs.Walker.{TakesAll, takes_all}

-- a user at a position among the listed ones, who may take all steps
pub takes-all : (world : World) (users : List (List ℕ)) (i : ℕ) (user : List ℕ) (steps : List Step)
    → i < length users → user ≡ get_or users i user → users ≡ world.users
    → takes_all world user steps ≡ true → TakesAll world user steps
takes-all world users i user steps within at all takes = record {
  listed =
      ap (list_any (bytes_eq user)) (sym all)
      ∙ list_any_at (bytes_eq user) users i user within
      (ap (bytes_eq user) (sym at) ∙ (bytes_eq-Decides user user).1 refl);
  takes = takes;
}
