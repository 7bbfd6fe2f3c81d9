-- What a guard keeps while it serves.
use Rattle.std.specs.Prelude.{◌≡◌, ℕ, ◌≤◌, List, Some, IsTrue, IsFalse}
use Rattle.std.specs.List.{AllByRecursion}
use Rattle.p9_base.specs.declared.node_ref.NodeRef.{NodeRef}
use Rattle.p9_tree.specs.Server.{Server}
use Rattle.p9_tree.specs.Forest.{next_of}
use Rattle.p9_tree.specs.Inside.{is_hidden, is_inside}
use Rattle.p9_space.specs.Given.{is_given}
use Rattle.p9_space.specs.Table.{MountRow}
use Rattle.p9_fids.specs.declared.opened.Opened.{Opened}
use Rattle.p9_fids.specs.Fid.{Fid}
use Rattle.p9_step.specs.Sound.{IsState}
use Rattle.p9_step.specs.State.{Session, Setting, State, fid_ref}
use Rattle.p9_cert.specs.Policy.{Policy}
use Rattle.p9_cert.specs.Safe.{IsSafe, Set}
use Rattle.p9_cert.specs.Closed.{IsClosed}
use Rattle.p9_guard_laws.specs.Grown.{Start, grown, next_then}

-- what no event changes: who is listed, the groups, what is hidden, and the mount table
pub record Premises : Type 0 where
  pub policy : Policy
  pub table : List MountRow

-- that of a setting
abbrev pub premises_of : List NodeRef → Setting → Premises
premises_of hidden setting = record {
  policy = record { users = setting.users; groups = setting.groups; hidden = hidden };
  table = setting.table;
}

-- the set of directories is a closed certificate for the forest
abbrev pub IsCertified : Premises → List Server → Set → Type 0
IsCertified premises forest certified = IsClosed premises.policy forest premises.table certified

-- each hidden number was given to a node
abbrev pub AreHiddenGiven : List NodeRef → List Server → Type 0
AreHiddenGiven hidden forest =
    (at : NodeRef) → IsTrue (is_hidden at hidden) → IsTrue (is_given forest at)

module _ (premises : Premises) (start : Start) (forest : List Server) where
  -- the certificate that has grown since the start
  abbrev pub grown_since : Set
  grown_since = grown premises.policy.hidden start forest

  -- a place of a fid is inside no hidden directory, and is safe
  pub record IsSafePlace (place : NodeRef) : Type 0 where
    pub outside : IsFalse (is_inside place premises.policy.hidden forest)
    pub safe : IsSafe premises.policy forest premises.table grown_since place

  -- each place of a fid is safe, and it is not open on a hidden file or directory
  pub record IsSafeFid (v : Fid) : Type 0 where
    pub places : AllByRecursion IsSafePlace v.trail
    pub shown : (opened : Opened) → v.opened ≡ Some opened
        → IsFalse (is_hidden (fid_ref premises.table v) premises.policy.hidden)

  -- so is each fid of a session
  abbrev pub IsSafeSession : Session → Type 0
  IsSafeSession session = AllByRecursion (λ fid. IsSafeFid fid.1) session.fids

-- a state that a guard keeps: the exporter can come to it, no next number is less than at the
-- start, each hidden number was given to a node, the grown certificate is closed, and each fid of
-- each session is safe
pub record IsGuardedState (hidden : List NodeRef) (start : Start) (state : State) : Type 0 where
  pub sound : IsState state
  pub later : (server : ℕ) → next_then start server ≤ next_of server state.forest
  pub hidden_given : AreHiddenGiven hidden state.forest
  pub closed : IsCertified (premises_of hidden state.setting) state.forest
      (grown_since (premises_of hidden state.setting) start state.forest)
  pub fids : AllByRecursion
      (λ row. IsSafeSession (premises_of hidden state.setting) start state.forest row.1) state.sessions
