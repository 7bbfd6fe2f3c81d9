use Rattle.std.proofs.lemmas.List.Sorted.{IsPermutation-trans}
use Rattle.p9_files.proofs.dir.greatest_first.Goals as goal

pub returns-clause-same : goal.returns-clause-same
returns-clause-same g c =
    IsPermutation-trans c.args.items.items c.sort.new.self.items c.reverse.new.self.items
    c.sort.ensures.permutation c.reverse.ensures.permutation
