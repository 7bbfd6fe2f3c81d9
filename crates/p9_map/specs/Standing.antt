-- How the certificate of an input stands, and which one is drawn.
use Rattle.std.specs.Prelude.{ℕ, List, ◌++◌, Option, Some, None, codes}
use Rattle.p9_base.specs.declared.node_ref.NodeRef.{NodeRef}
use Rattle.p9_cert.specs.Gap.{gap_text}
use Rattle.p9_cert.specs.declared.gap.Gap.{Gap as GapOf}
use Rattle.p9_map.specs.declared.standing.Standing.{Standing}
use Rattle.p9_map.specs.declared.standing.Standing.TheVariants.{Missing, Accepted, Gap}

-- of the rows of a certificate, if there is one, and its first gap
abbrev pub standing_of : Option (List NodeRef) → Option GapOf → Standing
standing_of None gap = Missing
standing_of (Some rows) None = Accepted
standing_of (Some rows) (Some gap) = Gap gap

-- the line that says so
abbrev pub standing_text : Standing → List ℕ
standing_text Missing = codes "certificate: none"
standing_text Accepted = codes "certificate: accepted"
standing_text (Gap gap) = codes "certificate: " ++ gap_text gap

-- the exit status of a yes
abbrev pub standing_status : Standing → ℕ
standing_status Missing = 0
standing_status Accepted = 0
standing_status (Gap gap) = 1

-- the rows that are drawn of a yes: those of the certificate without a gap, and else the least
abbrev pub drawn_rows : Option (List NodeRef) → Option GapOf → (least : List NodeRef) → List NodeRef
drawn_rows None gap least = least
drawn_rows (Some rows) None least = rows
drawn_rows (Some rows) (Some gap) least = least
