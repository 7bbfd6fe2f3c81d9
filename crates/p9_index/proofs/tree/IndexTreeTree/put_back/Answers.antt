use Rattle.std.proofs.Common.{◌≡◌, ◌∙◌, Some, ap, refl, subst, sym}
use Rattle.std.specs.Option.{option_map_or}
use Rattle.std.specs.Result.{OnOk}
use Rattle.p9_index.specs.Join.{CanJoin}
use Rattle.p9_index.specs.Tree.{server_of}
use Rattle.p9_tree.specs.declared.node.Entry.{Entry}
use Rattle.p9_tree.specs.Node.{IsTellable, root_name}
use Rattle.p9_tree.specs.Saved.{saved_node}
use Rattle.p9_tree.specs.Server.{Server, added}
use Rattle.p9_tree.proofs.Restored.{put_back-joined, put_back-root, saved-name, saved-parent}
use Rattle.p9_index.proofs.tree.IndexTreeTree.put_back.Goals as goal

pub join-requires : goal.join-requires
join-requires g c =
    let t = c.args.self.now in
    let e : Entry = c.in-Some.entry in
    let is : c.args.saved.now.entry ≡ Some e = c.in-Some.is in
    let parent : (saved_node c.args.saved.now).parent ≡ Some e.parent =
    saved-parent c.args.saved.now e is in
    subst (CanJoin t.nodes.entries t.next e c.args.saved.now.number)
    (sym c.in_ok-node.ensures.node) (record {
      not_given = c.requires.not_given e.parent parent;
      can_add = c.requires.can_add e.parent parent;
      own = refl;
      parent = parent;
      name = ap (λ o. option_map_or (λ (e : Entry). e.name) o root_name) is;
      valid = saved-name c.args.saved.now e is c.restored.ensures.name;
      tellable = subst IsTellable c.in_ok-node.ensures.node c.in_ok-node.ensures.tellable;
    })

pub returns-clause-ok : goal.returns-clause-ok
returns-clause-ok g c =
    let t = c.args.self.now in
    let e : Entry = c.in-Some.entry in
    let parent : (saved_node c.args.saved.now).parent ≡ Some e.parent =
    saved-parent c.args.saved.now e c.in-Some.is in
    subst
    (λ (s : Server). OnOk c.join.result
    (server_of c.join.new.self.nodes.entries c.join.new.self.next ≡ s))
    (ap (added (server_of t.nodes.entries c.args.saved.now.number)) c.in_ok-node.ensures.node
    ∙ put_back-joined (server_of t.nodes.entries t.next) (saved_node c.args.saved.now) e.parent
    t.well_formed c.requires parent)
    c.join.ensures.ok

pub returns-in_default-clause-ok : goal.returns-in_default-clause-ok
returns-in_default-clause-ok g c =
    let t = c.args.self.now in
    c.set_root_fields.ensures
    ∙ put_back-root c.args.saved.now (server_of t.nodes.entries t.next) c.in_default.is
