use Rattle.std.proofs.Common.{◌≡◌, drop, map}
use Rattle.std.specs.List.{list_any}
use Rattle.p9_admin.specs.Hide.{is_at, place_view}
use Rattle.p9_admin.proofs.hide.is_hidden.Given as goal

-- the directory is among those that are left
abbrev pub invariant-loop-hide : goal.invariant-loop-hide
invariant-loop-hide l =
    list_any (λ hide. is_at hide (l.server, l.names)) (map place_view (drop l.hide-index l.hides))
    ≡ list_any (λ hide. is_at hide (l.server, l.names)) (map place_view l.hides)
