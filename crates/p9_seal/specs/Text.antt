-- The bytes of an input with a certificate in its place.
use Rattle.std.specs.Prelude.{ℕ, ◌||◌, Bool, not, List, ◌++◌}
use Rattle.std.specs.Prelude.{take, drop}
use Rattle.std.specs.List.{flat_map, prefix_len}
use Rattle.std.specs.Str.{bytes_eq}
use Rattle.p9_base.specs.Line.{whole_lines}
use Rattle.p9_prepared.specs.Bundle.{ended}
use Rattle.p9_prepared.specs.Section.{head_of}
use Rattle.p9_prepared.specs.declared.section.Section.TheVariants.{Cert, Script}

-- the lines that begin the sections of a certificate and of a script
abbrev pub cert_head : List ℕ
cert_head = head_of Cert

abbrev pub script_head : List ℕ
script_head = head_of Script

-- the line begins a script
abbrev pub begins_script : List ℕ → Bool
begins_script line = bytes_eq line script_head

-- the line begins a certificate, or a script, which is after it
abbrev pub begins_certificate_or_script : List ℕ → Bool
begins_certificate_or_script line = bytes_eq line cert_head || begins_script line

-- the lines before the place of a certificate
abbrev pub lines_before : List (List ℕ) → List (List ℕ)
lines_before lines = take (prefix_len (λ line. not (begins_certificate_or_script line)) lines) lines

-- and those after it: the script
abbrev pub lines_after : List (List ℕ) → List (List ℕ)
lines_after lines = drop (prefix_len (λ line. not (begins_script line)) lines) lines

-- the input with this text as its certificate: the lines before it and after it are as they were,
-- each with a newline
unfoldable pub sealed_text : (input certificate : List ℕ) → List ℕ
sealed_text input certificate =
    let lines = whole_lines input in
    flat_map ended (lines_before lines) ++ ended cert_head ++ certificate
    ++ flat_map ended (lines_after lines)
