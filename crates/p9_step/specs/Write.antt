-- Writing: write in read(5).
use Rattle.std.specs.Prelude.{ℕ, ◌+◌, Bool, false, nat_le, List, [], ◌∷◌, Ok, length, if◌then◌else◌}
use Rattle.p9_base.specs.declared.fault.Fault.TheVariants.{FidNotOpen, FileTooLarge, PhaseError}
use Rattle.p9_base.specs.declared.fault.Fault.TheVariants.{UnknownFid}
use Rattle.p9_base.specs.declared.node_ref.NodeRef.{NodeRef}
use Rattle.p9_base.specs.Results.{obtain, need}
use Rattle.p9_tree.specs.Node.{Node}
use Rattle.p9_tree.specs.Server.{Server}
use Rattle.p9_wire.specs.Message.{Rwrite}
use Rattle.std.specs.Option.{option_map_or}
use Rattle.p9_fids.specs.Fid.{Fid, fid_at}
use Rattle.p9_fids.specs.Opened.{writes}
use Rattle.p9_step.specs.State.{Setting, Session, fid_file, fid_ref}
use Rattle.p9_step.specs.Answer.{Answer}
use Rattle.p9_step.specs.ForestChange.{EditNode, Mark, Overwrite}
use Rattle.p9_step.specs.Open.{is_append_only}
use Rattle.p9_tree.specs.Bytes.{file_max}

-- open for writing
abbrev pub is_writable : Fid → Bool
is_writable v = option_map_or (λ o. writes o.mode) v.opened false

-- where the bytes go: to the offset; in an append-only file, to its end
abbrev pub write_offset : (offset : ℕ) → Node → ℕ
write_offset offset n = if is_append_only n then length n.bytes else offset

-- the bytes are in the file from the start on, and it is marked
abbrev pub written : Session → (clock : ℕ) → Fid → NodeRef → (start : ℕ) (bytes : List ℕ) → Answer
written session clock v at start bytes =
    Ok (record {
      changes = EditNode at (Overwrite start bytes) ∷ EditNode at (Mark v.user clock) ∷ [];
      session = session;
      reply = Rwrite (length bytes);
    })

-- no bytes change nothing, at any offset
abbrev pub write_file : Session → (clock : ℕ) → Fid → NodeRef → Node
    → (offset : ℕ) (bytes : List ℕ) → Answer
write_file session clock v at n offset [] =
    Ok (record { changes = []; session = session; reply = Rwrite 0 })
write_file session clock v at n offset (b ∷ bs) =
    let bytes = b ∷ bs in
    let start = write_offset offset n in
    need (nat_le (start + length bytes) file_max) FileTooLarge (
    written session clock v at start bytes)

-- the tests in their order
abbrev pub write_answer : Setting → List Server → Session → (clock fid offset : ℕ) (bytes : List ℕ)
    → Answer
write_answer setting forest session clock fid offset bytes =
    obtain (fid_at fid session.fids) UnknownFid (λ v.
    need (is_writable v) FidNotOpen (
    obtain (fid_file setting.table forest v) PhaseError (λ n.
    write_file session clock v (fid_ref setting.table v) n offset bytes)))
