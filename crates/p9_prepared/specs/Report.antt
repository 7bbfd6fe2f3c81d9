-- What failed in the making of a name space, as it is reported.
use Rattle.std.specs.Prelude.{ℕ, List, [], ◌∷◌, ◌++◌, codes}
use Rattle.std.specs.List.{flat_map}
use Rattle.p9_nsline.specs.Space.{Report}
use Rattle.p9_nsline.specs.Text.{fault_text}
use Rattle.p9_prepared.specs.Refusal.{at_line}

-- one line each: the line of the namespace section, and why its operation did nothing
abbrev pub report_line : Report → List ℕ
report_line report = at_line (codes "ns") report.0 (fault_text report.1) ++ 10 ∷ []

-- the lines of all reports
abbrev pub reports_text : List Report → List ℕ
reports_text reports = flat_map report_line reports
