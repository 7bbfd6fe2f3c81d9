use Rattle.std.proofs.Common.{◌≡◌, drop, map}
use Rattle.std.specs.List.{fold}
use Rattle.p9_pack.specs.Once.{each_once, with_text}
use Rattle.p9_pack.proofs.once.each_once.Given as goal

-- the texts so far, with those that are left
abbrev pub invariant-loop-text : goal.invariant-loop-text
invariant-loop-text g l =
    fold with_text (map (λ text. text.now) l.found.items) (map (λ text. text.now) (drop l.text-index l.texts))
    ≡ each_once (map (λ text. text.now) l.texts)
