use Rattle.std.proofs.Common.{◌≡◌, ◌++◌, drop, map}
use Rattle.p9_admin.specs.Hide.{unfit_names}
use Rattle.p9_admin.proofs.hide.plain_names.Given as goal

-- the names so far, with those that are left, are all; and the first unfit one is among these
abbrev pub invariant-loop-text : goal.invariant-loop-text
invariant-loop-text l = record {
  all : l.names.items ++ map (λ text. text.now) (drop l.text-index l.texts) ≡ map (λ text. text.now) l.texts;
  unfit : unfit_names (map (λ text. text.now) (drop l.text-index l.texts)) ≡ unfit_names (map (λ text. text.now) l.texts);
}
