use Rattle.std.proofs.Common.{ap, ◌∙◌, sym, inl, inr}
use Rattle.std.proofs.lemmas.Result.{err_from_is_err_and}
use Rattle.p9_tree.specs.Bytes.{overwritten}
use Rattle.p9_tree.specs.Node.{with_bytes}
use Rattle.p9_tree.specs.Server.{Server, with_nodes}
use Rattle.p9_tree.proofs.Lookups.{absent-changed_at, exists-position, set-changed_at}
use Rattle.p9_tree.proofs.Changed.{WellFormed-set, WellFormed-set_same, done_or_kept}
use Rattle.p9_tree.proofs.Changed.{keeps-with_bytes, sound-overwritten}
use Rattle.p9_tree.proofs.plain.PlainTreeTree.write.Goals as goal

pub invariant_of-self : goal.invariant_of-self
invariant_of-self g c =
    let s : Server = record { nodes = c.args.self.now.nodes.items; next = c.args.self.now.next } in
    elim (done_or_kept c.write.result c.write.ensures.ok c.write.ensures.err) [
      | inl new ↦ record {
        well_formed =
            WellFormed-set c.args.number (with_bytes (overwritten c.args.offset c.args.bytes.now)) s
            _ _ _ (sym c.position.ensures ∙ c.in-Some.is) c.index_mut.ensures.value new
            (keeps-with_bytes _)
            (sound-overwritten c.args.offset c.args.bytes.now s c.args.number _ _
            (sym c.position.ensures ∙ c.in-Some.is) c.index_mut.ensures.value c.requires.file
            c.requires.fits) c.args.self.now.well_formed;
      }
      | inr same ↦ record {
        well_formed =
            WellFormed-set_same c.args.number s _ _ _ (sym c.position.ensures ∙ c.in-Some.is)
            c.index_mut.ensures.value same c.args.self.now.well_formed;
      }
    ]

pub returns-in_ok-write-clause-ok : goal.returns-in_ok-write-clause-ok
returns-in_ok-write-clause-ok g c =
    let s : Server = record { nodes = c.args.self.now.nodes.items; next = c.args.self.now.next } in
    ap (with_nodes s)
    (set-changed_at c.args.number (with_bytes (overwritten c.args.offset c.args.bytes.now)) _ _
    _ _ (sym c.position.ensures ∙ c.in-Some.is) c.index_mut.ensures.value c.in_ok-write.ensures.ok)

pub returns-in_default-clause-ok : goal.returns-in_default-clause-ok
returns-in_default-clause-ok g c =
    let s : Server = record { nodes = c.args.self.now.nodes.items; next = c.args.self.now.next } in
    ap (with_nodes s)
    (absent-changed_at c.args.number (with_bytes (overwritten c.args.offset c.args.bytes.now)) _
    (sym c.position.ensures ∙ c.in_default.is))

pub returns-in_err-write-clause-there : goal.returns-in_err-write-clause-there
returns-in_err-write-clause-there g c =
    let p = err_from_is_err_and c.from_residual.result c.from_residual.ensures.1 in
    rw p.1
    (exists-position c.args.number _ _ _ (sym c.position.ensures ∙ c.in-Some.is)
    c.index_mut.ensures.value)
