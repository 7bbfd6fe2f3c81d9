-- How a journal is settled.
use Rattle.std.specs.Prelude.{ℕ, Bool, if◌then◌else◌}
use Rattle.p9_tree.specs.declared.journal.Unsettled.{Unsettled}
use Rattle.p9_tree.specs.declared.journal.Unsettled.TheVariants.{Missing, Failed}

-- why a journal isn't settled: its file failed, if it was whole until then
abbrev pub unsettled : (whole : Bool) → Unsettled
unsettled whole = if whole then Failed else Missing

-- fewer bytes than these are noted where a journal was relieved
abbrev pub relieved : ℕ
relieved = 32768
