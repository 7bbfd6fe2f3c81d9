use Rattle.std.proofs.Common.{IsUtf8, subst}
use Rattle.std.proofs.lemmas.Str.{is_utf8-from_IsUtf8}
use Rattle.p9_seal.proofs.sealing.sealed.Goals as goal

pub returns-clause-utf8 : goal.returns-clause-utf8
returns-clause-utf8 g c =
    is_utf8-from_IsUtf8 _ (subst IsUtf8 c.as_str-text.ensures.value c.as_str-text.utf8)
