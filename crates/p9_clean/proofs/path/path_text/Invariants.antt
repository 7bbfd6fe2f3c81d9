use Rattle.std.proofs.Common.{◌≡◌, map, string_bytes, ◌+◌, [], ◌++◌, take}
use Rattle.std.specs.Prelude.{if◌then◌else◌, codes}
use Rattle.std.specs.List.{join_with_byte}
use Rattle.p9_base.specs.Name.{slash}
use Rattle.p9_clean.proofs.path.path_text.Given as goal

abbrev pub invariant-loop-element : goal.invariant-loop-element
invariant-loop-element g l =
    string_bytes l.text
    ≡ (if l.rooted then codes "/" else [])
    ++ join_with_byte slash (map (λ e. e.now) (take (l.element-index + 1) l.elements))
