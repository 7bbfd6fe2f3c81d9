use Rattle.p9_base.proofs.Texts.{IsUtf8-from_is_text}
use Rattle.p9_base.proofs.text.Text.as_str.Goals as goal

pub from_utf8_unchecked-requires : goal.from_utf8_unchecked-requires
from_utf8_unchecked-requires g c = IsUtf8-from_is_text _ c.self.invariant.2
