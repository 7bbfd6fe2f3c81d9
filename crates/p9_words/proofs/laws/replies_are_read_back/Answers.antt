use Rattle.p9_words.proofs.Replies.{reply-law}
use Rattle.p9_words.proofs.laws.replies_are_read_back.Goals as goal

pub returns : goal.returns
returns c = reply-law
