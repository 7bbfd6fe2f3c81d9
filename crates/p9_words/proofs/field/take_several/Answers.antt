use Rattle.std.proofs.Common.{rules}
use Rattle.p9_words.specs.Reading.{several_at}
use Rattle.p9_words.proofs.Items.{put_after-items}
use Rattle.p9_words.proofs.field.take_several.Goals as goal

pub returns : goal.returns
unfolding several_at
returns g c = search (rules, put_after-items)
