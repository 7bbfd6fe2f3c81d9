use Rattle.std.proofs.Common.{◌≡◌, drop, map}
use Rattle.std.specs.List.{list_any}
use Rattle.std.specs.Str.{bytes_eq}
use Rattle.p9_pack.proofs.once.has_text.Given as goal

-- the text is among those that are left
abbrev pub invariant-loop-other : goal.invariant-loop-other
invariant-loop-other l =
    list_any (λ other. bytes_eq other l.text) (map (λ other. other.now) (drop l.other-index l.others))
    ≡ list_any (λ other. bytes_eq other l.text) (map (λ other. other.now) l.others)
