use Rattle.std.proofs.lemmas.Bool.{true_from_ne_false}
use Rattle.p9_prepared.proofs.Smalls.{is_user-glenda}
use Rattle.p9_prepared.proofs.small.glenda.Goals as goal

pub unwrap-requires : goal.unwrap-requires
unwrap-requires c = true_from_ne_false _ (λ none. c.new.ensures.none.0 none is_user-glenda)
