use Rattle.std.proofs.Common.{◌≡◌, sym, ap, ◌∙◌}
use Rattle.std.specs.Option.{option_copied}
use Rattle.p9_tree.specs.Forest.{forest_changed_at, node_of}
use Rattle.p9_tree.specs.Node.{marked}
use Rattle.p9_step.specs.ForestChange.{Cut, Mark, all_applied, edited}
use Rattle.p9_walks.proofs.Places.{node_of-below}
use Rattle.p9_requests.proofs.Truncation.{copied-some, cut-there, cuts, cuts-made, qid-after}
use Rattle.p9_requests.proofs.Truncation.{still_there}
use Rattle.p9_requests.proofs.open.cut_file.Goals as goal

pub unwrap-requires : goal.unwrap-requires
unwrap-requires g c =
    let old = c.args.forest.now in
    let new = c.bump.new.self in
    let cut : new ≡ all_applied (cuts c.args.user c.args.clock c.args.at) old =
    c.bump.ensures
    ∙ ap (forest_changed_at c.args.at (marked c.args.user c.args.clock)) c.cut.ensures
    ∙ cuts-made c.args.user c.args.clock c.args.at old in
    let after = cut-there c.args.user c.args.clock c.args.at old new cut in
    let there =
    still_there (λ n. edited (Mark c.args.user c.args.clock) (edited (Cut 0) n))
    (node_of c.args.at old) (node_of c.args.at new) c.requires after in
    let e = c.node.ensures in
    copied-some c.node.result (rw e there)

pub qid_of-requires : goal.qid_of-requires
qid_of-requires g c =
    node_of-below _ c.args.at c.unwrap.result.now c.well_formed-2.ensures
    (sym c.node.ensures ∙ ap option_copied c.unwrap.ensures)

pub returns-clause-forest : goal.returns-clause-forest
returns-clause-forest g c =
    c.bump.ensures
    ∙ ap (forest_changed_at c.args.at (marked c.args.user c.args.clock)) c.cut.ensures
    ∙ cuts-made c.args.user c.args.clock c.args.at c.args.forest.now

pub returns-clause-qid : goal.returns-clause-qid
returns-clause-qid g c =
    let old = c.args.forest.now in
    let new = c.bump.new.self in
    let cut : new ≡ all_applied (cuts c.args.user c.args.clock c.args.at) old =
    c.bump.ensures
    ∙ ap (forest_changed_at c.args.at (marked c.args.user c.args.clock)) c.cut.ensures
    ∙ cuts-made c.args.user c.args.clock c.args.at old in
    let after = cut-there c.args.user c.args.clock c.args.at old new cut in
    qid-after (λ n. edited (Mark c.args.user c.args.clock) (edited (Cut 0) n)) c.args.at
    (node_of c.args.at old) (node_of c.args.at new) c.unwrap.result.now c.qid_of.result after
    (sym c.node.ensures ∙ ap option_copied c.unwrap.ensures) c.qid_of.ensures
