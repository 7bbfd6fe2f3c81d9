-- What the mode of an open or a create asks for: open(5).
use Rattle.std.specs.Prelude.{ℕ, ◌%◌, ◌==◌, ◌&&◌, ◌||◌, Bool, true, false, not, bit_and, Option}
use Rattle.std.specs.Prelude.{Some, None, if◌then◌else◌}
use Rattle.p9_base.specs.declared.mode.Rights.{Rights}
use Rattle.p9_fids.specs.declared.opened.OpenMode.{OpenMode}
use Rattle.p9_fids.specs.declared.opened.OpenMode.TheVariants.{Read, Write, ReadWrite, Execute}
use Rattle.p9_fids.specs.declared.opened.Opened.{Opened}
use Rattle.p9_step.specs.declared.opening.Opening.{Opening}

-- the low two bits
abbrev pub open_mode_of : ℕ → OpenMode
open_mode_of bits =
    if bits % 4 == 0 then Read
    else if bits % 4 == 1 then Write
    else if bits % 4 == 2 then ReadWrite
    else Execute

-- besides these there are truncation (16), close on exec (32), which is dropped, and
-- remove-on-close (64). The other bits are 4, 8 and 128, which are 140 together; none has a meaning
abbrev pub opening_of : ℕ → Option Opening
opening_of bits =
    if bit_and bits 140 == 0 then Some (record {
      mode = open_mode_of bits;
      truncates = not (bit_and bits 16 == 0);
      remove_on_close = not (bit_and bits 64 == 0);
    })
    else None

-- the mode reads, and nothing else
abbrev pub is_read : OpenMode → Bool
is_read Read = true
is_read Write = false
is_read ReadWrite = false
is_read Execute = false

-- to read, and nothing else: the only way to open a directory
abbrev pub is_plain_read : Opening → Bool
is_plain_read o = is_read o.mode && not o.truncates && not o.remove_on_close

-- the rights that a mode asks for
abbrev pub mode_rights : OpenMode → Rights
mode_rights Read = record { read = true; write = false; execute = false }
mode_rights Write = record { read = false; write = true; execute = false }
mode_rights ReadWrite = record { read = true; write = true; execute = false }
mode_rights Execute = record { read = false; write = false; execute = true }

-- truncation asks to write besides
abbrev pub wanted_by : Opening → Rights
wanted_by o = let r = mode_rights o.mode in record r { write = r.write || o.truncates }

-- a fid that was opened so
abbrev pub newly_opened : Opening → Opened
newly_opened o = record {
  mode = o.mode;
  remove_on_close = o.remove_on_close;
  next_offset = 0;
  cursor = None;
}
