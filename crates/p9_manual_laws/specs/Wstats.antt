-- What stat(5) says of a wstat that touches nothing.
use Rattle.std.specs.Prelude.{◌≡◌, ℕ, ◌-◌, ◌^◌, ◌⊎◌, List, [], Some}
use Rattle.p9_base.specs.declared.qid.Qid.{Qid}
use Rattle.p9_tree.specs.Node.{Node}
use Rattle.p9_wire.specs.Stat.{StatFields}
use Rattle.p9_wire.specs.Message.{Rwstat, Twstat}
use Rattle.p9_fids.specs.Fid.{Fid}
use Rattle.p9_step.specs.Qid.{stat_of}
use Rattle.p9_step.specs.State.{Session, State, fid_file, fid_ref}
use Rattle.p9_manual_laws.specs.Asked.{Has, asked}

-- a number is the greatest of its field, or what is there
abbrev pub IsNumberUntouched : (greatest there wanted : ℕ) → Type 0
IsNumberUntouched greatest there wanted = (wanted ≡ greatest) ⊎ (wanted ≡ there)

-- a text is empty, or what is there
abbrev pub IsTextUntouched : (there wanted : List ℕ) → Type 0
IsTextUntouched there wanted = (wanted ≡ []) ⊎ (wanted ≡ there)

-- each part of a qid, by itself
pub record IsQidUntouched (there wanted : Qid) : Type 0 where
  pub kind : IsNumberUntouched (2 ^ 8 - 1) there.kind wanted.kind
  pub version : IsNumberUntouched (2 ^ 32 - 1) there.version wanted.version
  pub path : IsNumberUntouched (2 ^ 64 - 1) there.path wanted.path

-- each field of a stat, by itself
pub record IsUntouched (there wanted : StatFields) : Type 0 where
  pub kind : IsNumberUntouched (2 ^ 16 - 1) there.kind wanted.kind
  pub dev : IsNumberUntouched (2 ^ 32 - 1) there.dev wanted.dev
  pub qid : IsQidUntouched there.qid wanted.qid
  pub mode : IsNumberUntouched (2 ^ 32 - 1) there.mode wanted.mode
  pub atime : IsNumberUntouched (2 ^ 32 - 1) there.atime wanted.atime
  pub mtime : IsNumberUntouched (2 ^ 32 - 1) there.mtime wanted.mtime
  pub length : IsNumberUntouched (2 ^ 64 - 1) there.length wanted.length
  pub name : IsTextUntouched there.name wanted.name
  pub uid : IsTextUntouched there.uid wanted.uid
  pub gid : IsTextUntouched there.gid wanted.gid
  pub muid : IsTextUntouched there.muid wanted.muid

-- a wstat with every field untouched changes nothing
abbrev pub UntouchedStatChangesNothing : Type 0
UntouchedStatChangesNothing =
    (state : State) (name : ℕ) (session : Session) (fid clock : ℕ) (v : Fid) (n : Node)
    (wanted : StatFields)
    → Has state name session fid v → fid_file state.setting.table state.forest v ≡ Some n
    → IsUntouched (stat_of (fid_ref state.setting.table v) n) wanted
    → asked state name clock (Twstat fid wanted)
    ≡ record { state = state; reply = Some Rwstat }
