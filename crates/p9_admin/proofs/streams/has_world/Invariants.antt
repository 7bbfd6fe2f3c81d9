use Rattle.std.proofs.Common.{◌≡◌, drop, map}
use Rattle.std.specs.List.{list_any}
use Rattle.std.specs.Str.{bytes_eq}
use Rattle.p9_prepared.specs.Section.{head_of}
use Rattle.p9_prepared.specs.declared.section.Section.TheVariants.{World}
use Rattle.p9_admin.proofs.streams.has_world.Given as goal

-- the line is among those that are left
abbrev pub invariant-loop-line : goal.invariant-loop-line
invariant-loop-line l =
    list_any (λ line. bytes_eq line (head_of World)) (map (λ line. line.now) (drop l.line-index l.lines))
    ≡ list_any (λ line. bytes_eq line (head_of World)) (map (λ line. line.now) l.lines)
