use Rattle.std.proofs.Common.{ap, ◌∙◌}
use Rattle.std.specs.Prelude.{not}
use Rattle.p9_base.proofs.Texts.{is_text-IsUtf8}
use Rattle.p9_base.proofs.text.is_text.Goals as goal

pub returns : goal.returns
returns c = ap not c.has_nul.ensures ∙ is_text-IsUtf8 c.args.text.now c.utf8.text
