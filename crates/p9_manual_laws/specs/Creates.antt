-- What open(5) says of a file that was made.
use Rattle.std.specs.Prelude.{◌≡◌, ℕ, ◌<◌, ◌++◌, ◌⊎◌, true, List, [], ◌∷◌, Option, None, Some, Ok, All}
use Rattle.std.specs.Prelude.{length, map}
use Rattle.p9_base.specs.declared.node_ref.NodeRef.{NodeRef}
use Rattle.p9_base.specs.declared.qid.Qid.{Qid}
use Rattle.p9_base.specs.NodeRef.{beside}
use Rattle.p9_tree.specs.Forest.{child_in, children_of, node_of}
use Rattle.p9_tree.specs.Node.{Node}
use Rattle.p9_tree.specs.Server.{Server}
use Rattle.p9_table.specs.declared.row.Member.{Member}
use Rattle.p9_space.specs.Rights.{Who, may, to_read}
use Rattle.p9_space.specs.Table.{MountRow, members_of}
use Rattle.p9_space.specs.Trail.{here, places_max}
use Rattle.p9_space.specs.Walk.{is_searched, may_search, walk}
use Rattle.p9_wire.specs.Message.{Rcreate, Tcreate}
use Rattle.p9_fids.specs.Fid.{Fid}
use Rattle.p9_step.specs.Create.{permitting}
use Rattle.p9_step.specs.Listing.{UnionEntry, entry_at, listing}
use Rattle.p9_step.specs.Sound.{IsState}
use Rattle.p9_step.specs.State.{Session, State}
use Rattle.p9_manual_laws.specs.Asked.{Has, asked}
use Rattle.p9_manual_laws.specs.Modes.{IsMasked}

-- the node is mounted at the place, after these members
pub record IsMounted (table : List MountRow) (place node : NodeRef) (earlier : List Member)
    : Type 0 where
  pub member : Member
  pub later : List Member
  pub is : member.node ≡ node
  pub all : members_of place table ≡ earlier ++ member ∷ later

-- a walk by the name passes the member by: it may not be searched, or has no child of the name
abbrev pub IsPassedBy : List Server → Option Who → List ℕ → Member → Type 0
IsPassedBy forest who name m =
    is_searched forest who m ≡ true → child_in m.node name forest ≡ None

-- a listing has the entries of these files of the directory, one after another
pub record Lists (entries : List UnionEntry) (position : ℕ) (dir : NodeRef) (files : List Node)
    : Type 0 where
  pub earlier : List UnionEntry
  pub later : List UnionEntry
  pub all : entries ≡ earlier ++ map (entry_at position dir) files ++ later

-- Of a file that was made under a name, in the first directory that permits creation of those that
-- are mounted where the fid was:
-- its mode is by the formula, of the asked one and of the directory's, its owner is the fid's user,
-- its group is the directory's, and it is empty;
-- it is found in the directory by its name, after the files that were there; a listing of each
-- place where the directory is mounted has these files and then this one, for whoever may read the
-- directory, and for all where it is mounted first;
-- and a walk by the name leads to it from each place where the directory is mounted, for whoever
-- may search it, if it passes by the members before it.
pub record IsMade (before after : State) (v : Fid) (name : List ℕ) (perm : ℕ) : Type 0 where
  pub member : Member
  pub dir : Node
  pub node : Node
  pub chosen : permitting (members_of (here v.trail) before.setting.table) ≡ Some member
  pub within : node_of member.node before.forest ≡ Some dir
  pub mode : IsMasked node.mode dir.mode perm
  pub owner : node.uid ≡ v.user
  pub group : node.gid ≡ dir.gid
  pub empty : node.bytes ≡ []
  pub found : child_in member.node name after.forest ≡ Some node
  pub last : children_of member.node after.forest
      ≡ children_of member.node before.forest ++ node ∷ []
  pub listed : (who : Who) (place : NodeRef) (earlier : List Member)
      → IsMounted after.setting.table place member.node earlier
      → (earlier ≡ []) ⊎ (may who dir to_read ≡ true)
      → Lists (listing after.setting.table after.forest who place) (length earlier) member.node
      (children_of member.node before.forest ++ node ∷ [])
  pub reached : (who : Option Who) (trail : List NodeRef) (earlier : List Member)
      → IsMounted after.setting.table (here trail) member.node earlier
      → All (IsPassedBy after.forest who name) earlier → may_search who dir ≡ true
      → length trail < places_max
      → walk after.forest after.setting.table who trail (name ∷ [])
      ≡ Ok (trail ++ beside member.node node.number ∷ [])

-- a file that was created has the mode that the formula gives, is found by a walk, and listed
abbrev pub CreatedIsFound : Type 0
CreatedIsFound =
    (state : State) (name : ℕ) (session : Session) (fid clock : ℕ) (v : Fid) (new : List ℕ)
    (perm mode : ℕ) (qid : Qid) (iounit : ℕ)
    → IsState state → Has state name session fid v
    → let after = asked state name clock (Tcreate fid new perm mode) in
    after.reply ≡ Some (Rcreate qid iounit) → IsMade state after.state v new perm
