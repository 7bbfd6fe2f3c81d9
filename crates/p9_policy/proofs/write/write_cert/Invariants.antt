use Rattle.std.proofs.Common.{◌≡◌, ◌++◌, drop, string_bytes}
use Rattle.std.specs.List.{flat_map}
use Rattle.p9_policy.specs.Text.{certificate_text, row_text}
use Rattle.p9_policy.proofs.write.write_cert.Given as goal

-- what is written, and the lines of the rows that are left
abbrev pub invariant-loop-row : goal.invariant-loop-row
invariant-loop-row g l =
    string_bytes l.text ++ flat_map row_text (drop l.row-index l.row-items)
    ≡ certificate_text l.certificate
