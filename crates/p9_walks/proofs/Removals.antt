-- Removing files.
use Rattle.p9_step.specs.State.{who_of}
use Rattle.std.proofs.Common.{◌≡◌, ℕ, true, false, List, Option, Some, None, Ok, is_some}
use Rattle.std.proofs.Common.{refl}
use Rattle.p9_base.specs.declared.node_ref.NodeRef.{NodeRef}
use Rattle.p9_base.specs.Results.{obtain, need}
use Rattle.p9_tree.specs.Node.{Node}
use Rattle.p9_tree.specs.Server.{Server, with_dropped}
use Rattle.p9_tree.specs.Forest.{has_children_of, node_of, tree_changed_at}
use Rattle.p9_fids.specs.Fid.{Fid}
use Rattle.p9_wire.specs.Message.{Rremove}
use Rattle.p9_step.specs.State.{Setting, Session, fid_ref}
use Rattle.p9_walks.specs.Answers.{Answers}
use Rattle.p9_step.specs.ForestChange.{all_applied, applied}
use Rattle.p9_step.specs.End.{parent_marked, taken_out}
use Rattle.p9_step.specs.Remove.{removal}
use Rattle.p9_step.specs.Rights.{may_write_parent}

-- a test that finds nothing
pub absent : {X : Type 0} (o : Option X) → is_some o ≡ false → o ≡ None
absent None none = refl
absent (Some x) none = cc

-- a node is taken out, and its directory marked
all_applied-taken_out : (user : List ℕ) (now : ℕ) (at : NodeRef) (n : Node)
    (old dropped new : List Server)
    → dropped ≡ tree_changed_at at.server (with_dropped at.number) old
    → new ≡ all_applied (parent_marked user now at n.parent) dropped
    → new ≡ all_applied (taken_out user now at n) old
unfolding applied
all_applied-taken_out user now at n old dropped new drop mark = rw (mark, drop) refl

-- a removal that no test refuses
pub removal-made : (setting : Setting) (old dropped new : List Server) (left : Session) (now : ℕ)
    (v : Fid) (at : NodeRef) (n : Node) →
    at ≡ fid_ref setting.table v → node_of at old ≡ Some n → is_some n.parent ≡ true
    → may_write_parent (who_of setting v.user) old at n ≡ true → has_children_of at old ≡ false →
    dropped ≡ tree_changed_at at.server (with_dropped at.number) old
    → new ≡ all_applied (parent_marked v.user now at n.parent) dropped →
    Answers (removal setting old left now v) false old new left left (Ok Rremove)
unfolding obtain need
removal-made setting old dropped new left now v at n at_is found inner permitted empty drop mark =
    rw (← at_is, found, inner, permitted, empty)
    (refl, all_applied-taken_out v.user now at n old dropped new drop mark)
