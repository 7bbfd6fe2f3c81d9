-- What read(5) says of the bytes of a file.
use Rattle.std.specs.Prelude.{◌≡◌, ℕ, ◌≤◌, false, List, Some, length}
use Rattle.p9_tree.specs.Node.{Node, is_dir}
use Rattle.p9_wire.specs.Message.{Rread, Rwrite, Tread, Twrite}
use Rattle.p9_fids.specs.declared.opened.Opened.{Opened}
use Rattle.p9_fids.specs.Fid.{Fid}
use Rattle.p9_step.specs.Open.{is_append_only}
use Rattle.p9_step.specs.Read.{readable}
use Rattle.p9_step.specs.State.{Session, State, fid_file, fid_ref, iounit_of}
use Rattle.p9_manual_laws.specs.Asked.{Has, asked}

-- the bytes that were written at an offset are read there, by the same fid or by any other that is
-- open for reading the file, also in another session
abbrev pub WrittenIsReadBack : Type 0
WrittenIsReadBack =
    (state : State) (writer reader : ℕ) (writer_session reader_session : Session)
    (fid other_fid clock later : ℕ) (v w : Fid) (n : Node) (opened : Opened) (offset : ℕ)
    (bytes : List ℕ)
    → Has state writer writer_session fid v → Has state reader reader_session other_fid w
    → fid_ref state.setting.table w ≡ fid_ref state.setting.table v
    → fid_file state.setting.table state.forest v ≡ Some n → is_dir n ≡ false
    → is_append_only n ≡ false → readable w.opened ≡ Some opened
    → length bytes ≤ iounit_of reader_session
    → let after = asked state writer clock (Twrite fid offset bytes) in
    after.reply ≡ Some (Rwrite (length bytes))
    → (asked after.state reader later (Tread other_fid offset (length bytes))).reply
    ≡ Some (Rread bytes)

-- a read of a file or directory gives what it would have given before a read by another session
abbrev pub ReadsDontDisturb : Type 0
ReadsDontDisturb =
    (state : State) (first second : ℕ) (first_session second_session : Session)
    (fid other_fid clock later : ℕ) (v w : Fid) (offset other_offset count other_count : ℕ)
    → (first ≡ second → ⊥) → Has state first first_session fid v
    → Has state second second_session other_fid w
    → fid_ref state.setting.table w ≡ fid_ref state.setting.table v
    → let after = asked state first clock (Tread fid offset count) in
    (asked after.state second later (Tread other_fid other_offset other_count)).reply
    ≡ (asked state second later (Tread other_fid other_offset other_count)).reply
