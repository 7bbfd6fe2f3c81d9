-- The lines of a certificate's text.
use Rattle.std.proofs.Common.{◌≡◌, ◌<◌, ◌^◌, ℕ, List, [], ◌∷◌, ◌++◌, true, map}
use Rattle.std.proofs.Common.{refl, ap, arith, rules}
use Rattle.std.specs.Prelude.{codes}
use Rattle.std.specs.Str.Parse.{digits_value}
use Rattle.std.specs.Char.{is_ascii_digit}
use Rattle.std.specs.Fmt.{decimal}
use Rattle.std.specs.List.{AllByRecursion, flat_map, list_all}
use Rattle.std.proofs.lemmas.Bool.{and_parts}
use Rattle.std.proofs.lemmas.Bool.Decides.{nat_tests}
use Rattle.std.proofs.lemmas.Fmt.{digits_decimal}
use Rattle.std.proofs.lemmas.List.Elements.{recursion_from_All}
use Rattle.std.proofs.lemmas.Str.Parse.{IsNumeralModel, numerals_by_value}
use Rattle.p9_base.specs.declared.node_ref.NodeRef.{NodeRef}
use Rattle.p9_cert.specs.Rows.{IsCertificate, IsRow}
use Rattle.p9_cert.specs.Text.{certificate_text, row_text}
use Rattle.p9_prepared.specs.Bundle.{ended}
use Rattle.p9_seal.proofs.Pieces.{AreLines, IsLine}
use Rattle.p9_seal.proofs.Resealed.{BeginsNone}

-- a word of digits is what a number writes
model : IsNumeralModel (λ ds. list_all is_ascii_digit ds ≡ true) (digits_value 10)
model = numerals_by_value _ (search rules)

-- no digit is a newline
no-newlines : (ds : List ℕ) → list_all is_ascii_digit ds ≡ true → IsLine ds
no-newlines [] digits = tt
no-newlines (d ∷ ds) digits =
    let parts = and_parts (is_ascii_digit d) (list_all is_ascii_digit ds) digits in
    let digit : is_ascii_digit d ≡ true = parts.0 in
    (grind (arith, nat_tests), no-newlines ds parts.1)

decimal-line : (n : ℕ) → n < 2 ^ 64 → IsLine (decimal n)
decimal-line n small = no-newlines (decimal n) (digits_decimal model n small)

append-line : (xs ys : List ℕ) → IsLine xs → IsLine ys → IsLine (xs ++ ys)
append-line [] ys first second = second
append-line (x ∷ xs) ys first second = (first.0, append-line xs ys first.1 second)

-- the line of a row
abbrev pub row_line : NodeRef → List ℕ
row_line row = codes "dir " ++ decimal row.server ++ codes " " ++ decimal row.number

row-clean : (row : NodeRef) → IsRow row → IsLine (row_line row)
row-clean row sound =
    let server_small : row.server < 2 ^ 64 = (let lt : row.server < 2 ^ 16 = sound.0 in omega arith) in
    let number_small : row.number < 2 ^ 64 = (let lt : row.number < 2 ^ 48 = sound.1 in omega arith) in
    append-line (codes "dir " ++ decimal row.server ++ codes " ") (decimal row.number)
    (append-line (codes "dir " ++ decimal row.server) (codes " ")
    (append-line (codes "dir ") (decimal row.server) (refl, (refl, (refl, (refl, tt))))
    (decimal-line row.server server_small))
    (refl, tt))
    (decimal-line row.number number_small)

rows-clean : (rows : List NodeRef) → AllByRecursion IsRow rows → AreLines (map row_line rows)
rows-clean [] sound = tt
rows-clean (row ∷ rows) sound = (row-clean row sound.0, rows-clean rows sound.1)

rows-begin : (rows : List NodeRef) → AllByRecursion BeginsNone (map row_line rows)
rows-begin [] = tt
rows-begin (row ∷ rows) = (refl, rows-begin rows)

rows-written : (rows : List NodeRef) → flat_map ended (map row_line rows) ≡ flat_map row_text rows
rows-written [] = refl
rows-written (row ∷ rows) = ap (λ text. row_text row ++ text) (rows-written rows)

-- the lines of a certificate's text
abbrev pub cert_lines : List NodeRef → List (List ℕ)
cert_lines rows = codes "cert 1" ∷ map row_line rows

pub cert_lines-written : (rows : List NodeRef)
    → flat_map ended (cert_lines rows) ≡ certificate_text rows
cert_lines-written rows = ap (λ text. codes "cert 1" ++ 10 ∷ [] ++ text) (rows-written rows)

pub cert_lines-clean : (rows : List NodeRef) → IsCertificate rows → AreLines (cert_lines rows)
cert_lines-clean rows certificate = (
  (refl, (refl, (refl, (refl, (refl, (refl, tt)))))),
  rows-clean rows (recursion_from_All IsRow rows certificate.sound),
)

pub cert_lines-begin : (rows : List NodeRef) → AllByRecursion BeginsNone (cert_lines rows)
cert_lines-begin rows = (refl, rows-begin rows)
