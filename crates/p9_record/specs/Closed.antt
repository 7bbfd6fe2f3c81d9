-- Changes with a checksum behind them.
use Rattle.std.specs.Prelude.{◌≡◌, ℕ, List, ◌++◌, Some, None, take, if◌then◌else◌}
use Rattle.std.specs.Hash.DefaultHasher as sip
use Rattle.std.specs.Hash.FoldHasher as folding
use Rattle.std.specs.Int.{w64, to_le_bytes}
use Rattle.std.specs.Str.{bytes_eq}
use Rattle.p9_tree.specs.ForestEdit.{ForestEdit}
use Rattle.p9_wire.specs.FieldReading.{◌and_then◌, Reader, bytes_at}
use Rattle.p9_record.specs.Record.{forest_spelling}
use Rattle.p9_record.specs.RecordReading.{forest_edit_at}

-- what the standard library's hasher of maps computes of the bytes, in eight bytes, the lowest first
unfoldable pub checksum : List ℕ → List ℕ
checksum bytes = to_le_bytes w64 (folding.finish (folding.write folding.initial bytes))

-- the bytes of a closed record: the spelling of a change, and its checksum
unfoldable pub closed_spelling : ForestEdit → List ℕ
closed_spelling edit = forest_spelling edit ++ checksum (forest_spelling edit)

-- the change that is read at the front of the bytes, where its checksum follows it
unfoldable pub closed_edit_at : Reader ForestEdit
closed_edit_at bytes =
    forest_edit_at bytes and_then λ x. bytes_at 8 x.1 and_then λ sum.
    if bytes_eq sum.0 (checksum (forest_spelling x.0)) then Some (x.0, sum.1) else None

-- all of a closed record but for the bytes of a file that it carries takes no more bytes
abbrev pub closed_fixed_max : ℕ
closed_fixed_max = 523

-- the SipHash-1-3 of the bytes with both keys 0, in eight bytes, the lowest first
unfoldable pub earlier_checksum : List ℕ → List ℕ
earlier_checksum bytes = to_le_bytes w64 (sip.finish (sip.write sip.initial bytes))

-- the bytes begin with a change, and behind it is its checksum of an earlier version
pub record IsEarlier (bytes : List ℕ) : Type 0 where
  pub edit : ForestEdit
  pub rest : List ℕ
  pub read : forest_edit_at bytes ≡ Some (edit, rest)
  pub sum : take 8 rest ≡ earlier_checksum (forest_spelling edit)
