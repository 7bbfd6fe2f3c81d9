-- What is kept of a guarded state's forest and fids, in the form in which it is carried from event
-- to event.
use Rattle.std.specs.Prelude.{◌≡◌, ℕ, ◌≤◌, List, Some, IsTrue, IsFalse}
use Rattle.std.specs.List.{AllByRecursion}
use Rattle.p9_base.specs.User.{is_listed_user}
use Rattle.p9_base.specs.declared.node_ref.NodeRef.{NodeRef}
use Rattle.p9_tree.specs.Server.{Server}
use Rattle.p9_tree.specs.Forest.{next_of}
use Rattle.p9_tree.specs.Inside.{is_hidden, is_inside}
use Rattle.p9_space.specs.Given.{is_given}
use Rattle.p9_space.specs.Rights.{Who}
use Rattle.p9_space.specs.Table.{IsTable}
use Rattle.p9_fids.specs.declared.opened.Opened.{Opened}
use Rattle.p9_fids.specs.Fid.{Fid, FidRow}
use Rattle.p9_step.specs.State.{fid_ref}
use Rattle.p9_cert.specs.Safe.{IsSafe}
use Rattle.p9_guard_laws.specs.Guarded.{AreHiddenGiven, Premises, IsCertified}
use Rattle.p9_guard_laws.specs.Grown.{Start, grown, next_then}

-- a user, with the premises's groups
abbrev pub who_in : Premises → List ℕ → Who
who_in premises user = record { user = user; groups = premises.policy.groups }

module _ (premises : Premises) (start : Start) (forest : List Server) where
  -- a place of a fid was given to a node, is inside no hidden directory, and is safe
  pub record HeldPlace (place : NodeRef) : Type 0 where
    pub given : IsTrue (is_given forest place)
    pub outside : IsFalse (is_inside place premises.policy.hidden forest)
    pub safe : IsSafe premises.policy forest premises.table (grown premises.policy.hidden start forest) place

  -- a fid is a listed user's, and each of its places is safe; it is not open on a hidden directory
  pub record HeldFid (v : Fid) : Type 0 where
    pub listed : IsTrue (is_listed_user premises.policy.users v.user)
    pub places : AllByRecursion HeldPlace v.trail
    pub shown : (opened : Opened) → v.opened ≡ Some opened
        → IsFalse (is_hidden (fid_ref premises.table v) premises.policy.hidden)

  -- so is each fid of a session
  abbrev pub HeldFids : List FidRow → Type 0
  HeldFids fids = AllByRecursion (λ row. HeldFid row.1) fids

  -- no row of the table is empty, no number is given twice, hidden ones were given, and the grown
  -- certificate is closed
  pub record IsKept : Type 0 where
    pub table : IsTable premises.table
    pub later : (server : ℕ) → next_then start server ≤ next_of server forest
    pub hidden : AreHiddenGiven premises.policy.hidden forest
    pub closed : IsCertified premises forest (grown premises.policy.hidden start forest)
