use Rattle.std.proofs.Common.{◌≡◌, List, ℕ, IsTrue, subst, sym, ap, ◌∙◌}
use Rattle.std.specs.Option.{option_map_or}
use Rattle.p9_base.specs.Text.{is_text}
use Rattle.p9_tree.specs.declared.kept.KeptEntry.{KeptEntry}
use Rattle.p9_tree.specs.Node.{Node, root_name}
use Rattle.p9_tree.proofs.TextLemmas.{is_text-root_name}
use Rattle.p9_tree.proofs.node.Node.name.Goals as goal

pub returns-in-None-clause-text : goal.returns-in-None-clause-text
returns-in-None-clause-text g c =
    let seen : c.args.self.now.name
    ≡ option_map_or (λ (e : KeptEntry _). e.name) c.self.inside.entry root_name = ap
    (λ (n : Node). n.name) (sym c.self.view_is) in
    let root : c.args.self.now.name ≡ root_name =
    seen ∙ ap (λ e. option_map_or (λ (e : KeptEntry _). e.name) e root_name) c.in-None.is in
    subst (λ (s : List ℕ). IsTrue (is_text s)) (sym root) is_text-root_name
