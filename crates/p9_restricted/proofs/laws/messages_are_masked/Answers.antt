use Rattle.p9_restricted.proofs.MaskedMessages.{messages-are-masked}
use Rattle.p9_restricted.proofs.laws.messages_are_masked.Goals as goal

pub returns : goal.returns
returns c = messages-are-masked
