use Rattle.p9_words.proofs.Omissions.{whole-law}
use Rattle.p9_words.proofs.laws.whole_messages_are_read_the_same.Goals as goal

pub returns : goal.returns
returns c = whole-law
