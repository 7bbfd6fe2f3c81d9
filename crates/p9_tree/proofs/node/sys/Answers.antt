use Rattle.std.proofs.lemmas.Bool.{true_from_ne_false}
use Rattle.p9_tree.proofs.TextLemmas.{is_user-sys}
use Rattle.p9_tree.proofs.node.sys.Goals as goal

pub unwrap-requires : goal.unwrap-requires
unwrap-requires c = true_from_ne_false _ (λ none. c.new.ensures.none.0 none is_user-sys)
