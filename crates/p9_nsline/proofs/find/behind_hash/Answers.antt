use Rattle.std.proofs.Common.{lit<}
use Rattle.std.proofs.lemmas.Str.Pattern.{strip_prefix_char}
use Rattle.p9_nsline.proofs.Finding.{behind_hash-is}
use Rattle.p9_nsline.proofs.find.behind_hash.Goals as goal

pub returns : goal.returns
returns c =
    behind_hash-is c.args.path.now c.strip_prefix.result
    (strip_prefix_char 35 c.args.path.now c.strip_prefix.result c.strip_prefix.ensures.cases
    (lit< tt))
