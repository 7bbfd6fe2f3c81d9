use Rattle.p9_words.proofs.Requests.{request-law}
use Rattle.p9_words.proofs.laws.requests_are_read_back.Goals as goal

pub returns : goal.returns
returns c = request-law
