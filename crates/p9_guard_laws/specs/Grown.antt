-- How a certificate grows while an exporter serves.
use Rattle.std.specs.Prelude.{ℕ, ◌&&◌, ◌||◌, not, nat_le, List, map, slice_get, unwrap_or}
use Rattle.p9_base.specs.declared.node_ref.NodeRef.{NodeRef}
use Rattle.p9_tree.specs.Server.{Server}
use Rattle.p9_tree.specs.Forest.{is_dir_of}
use Rattle.p9_tree.specs.Inside.{is_inside}
use Rattle.p9_cert.specs.Rows.{is_row}
use Rattle.p9_cert.specs.Safe.{Set}

-- what a guard begins with: the rows of its certificate, and each server's next number
pub record Start : Type 0 where
  pub rows : List NodeRef
  pub next : List ℕ

-- of a certificate and a forest
abbrev pub start_of : List NodeRef → List Server → Start
start_of rows forest = record { rows = rows; next = map (λ s. s.next) forest }

-- the server's next number at the start
abbrev pub next_then : Start → ℕ → ℕ
next_then start server = unwrap_or (slice_get start.next server) 0

-- the certificate as it has grown: the rows that still exist and the directories that were made
-- since, so far as they are inside no hidden directory
unfoldable pub grown : List NodeRef → Start → List Server → Set
grown hidden start forest at =
    is_dir_of at forest
    && (not (is_inside at hidden forest)
    && (is_row start.rows at || nat_le (next_then start at.server) at.number))
