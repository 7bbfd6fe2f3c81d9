-- Trails: the places that a walk came by, from the place of attachment on.
use Rattle.std.specs.Prelude.{ℕ, ◌-◌, ◌<◌, ◌≤◌, List, [], ◌∷◌, ◌++◌, length, slice_index_or, take}
use Rattle.std.specs.Prelude.{nat_lt, if◌then◌else◌}
use Rattle.p9_base.specs.declared.node_ref.NodeRef.{NodeRef}
use Rattle.p9_table.specs.declared.trail.Step.{Step}
use Rattle.p9_table.specs.declared.trail.Step.TheVariants.{Up, To}

-- the most places of a trail
abbrev pub places_max : ℕ
places_max = 64

-- one place at least, and not too many
pub record IsTrail (trail : List NodeRef) : Type 0 where
  pub some : 0 < length trail
  pub few : length trail ≤ places_max

-- the last place; the other case never comes, since no trail is empty
abbrev pub here : List NodeRef → NodeRef
here trail = slice_index_or trail (length trail - 1) (record { server = 0; number = 0 })

-- back by one place; a trail of one place stays
abbrev pub upward : List NodeRef → List NodeRef
upward trail = if nat_lt 1 (length trail) then take (length trail - 1) trail else trail

-- the places after a step
abbrev pub stepped : List NodeRef → Step → List NodeRef
stepped trail Up = upward trail
stepped trail (To place) = trail ++ place ∷ []
