-- The text of a certificate: `cert 1`, and a line `dir SERVER NUMBER` for each row.
use Rattle.std.specs.Prelude.{◌≡◌, ℕ, Bool, false, ◌&&◌, List, [], ◌∷◌, ◌++◌, Option, Some, None}
use Rattle.std.specs.Prelude.{Result, Ok, Err, codes, if◌then◌else◌}
use Rattle.std.specs.Fmt.{decimal}
use Rattle.std.specs.List.{flat_map}
use Rattle.std.specs.Str.{bytes_eq}
use Rattle.p9_base.specs.declared.node_ref.NodeRef.{NodeRef}
use Rattle.p9_base.specs.Decimal.{number_of}
use Rattle.p9_base.specs.NodeRef.{servers_max}
use Rattle.p9_base.specs.Results.{try_fold}
use Rattle.p9_base.specs.Statement.{statements_of}
use Rattle.p9_tree.specs.Server.{next_max}
use Rattle.p9_policy.specs.declared.read.ReadError.{ReadError}
use Rattle.p9_policy.specs.declared.read.ReadError.TheVariants.{BadCert, NoMemory}
use Rattle.p9_policy.specs.Rows.{may_follow}

-- the words `cert` and `1`, spelled so
abbrev pub is_head : List (List ℕ) → Bool
is_head (verb ∷ version ∷ []) = bytes_eq verb (codes "cert") && bytes_eq version (codes "1")
is_head words = false

-- a node, where both of its parts are good
abbrev pub node_ref_of : (server number : Option ℕ) → Option NodeRef
node_ref_of (Some server) (Some number) = Some (record { server = server; number = number })
node_ref_of server number = None

-- the row of `dir SERVER NUMBER`
abbrev pub row_in : List (List ℕ) → Option NodeRef
row_in (verb ∷ server ∷ number ∷ []) =
    if bytes_eq verb (codes "dir")
    then node_ref_of (number_of servers_max server) (number_of next_max number)
    else None
row_in words = None

-- a row joins those before it, where it is greater; else the line is bad
abbrev pub with_next_row : List NodeRef → ℕ → Option NodeRef → Result (List NodeRef) ℕ
with_next_row rows line (Some row) = if may_follow rows row then Ok (rows ++ row ∷ []) else Err line
with_next_row rows line None = Err line

-- the rows with that of a statement, which is its line and its words
abbrev pub with_statement : List NodeRef → ℕ × List (List ℕ) → Result (List NodeRef) ℕ
with_statement rows statement = with_next_row rows statement.0 (row_in statement.1)

-- the rows that the statements of a text give, or the number of the first bad line; that is 1 where
-- there is no statement
abbrev pub stated : List (ℕ × List (List ℕ)) → Result (List NodeRef) ℕ
stated [] = Err 1
stated (first ∷ others) =
    if is_head first.1 then try_fold with_statement [] others else Err first.0

-- the rows of a text
abbrev pub certificate_of : List ℕ → Result (List NodeRef) ℕ
certificate_of text = stated (statements_of text)

-- an error says that an allocation failed, or which line is the first bad one
abbrev pub IsReadError : Result (List NodeRef) ℕ → ReadError → Type 0
IsReadError certificate NoMemory = Unit {0}
IsReadError certificate (BadCert line) = certificate ≡ Err line

-- The text that is written.

-- the line of a row
abbrev pub row_text : NodeRef → List ℕ
row_text row = codes "dir " ++ decimal row.server ++ codes " " ++ decimal row.number ++ 10 ∷ []

abbrev pub certificate_text : List NodeRef → List ℕ
certificate_text rows = codes "cert 1" ++ 10 ∷ [] ++ flat_map row_text rows
