use Rattle.std.proofs.Common.{◌∙◌}
use Rattle.std.proofs.lemmas.Iterator.{YieldsList-from_chars}
use Rattle.std.proofs.lemmas.Iterator.Consumers.{count_from_yields_List}
use Rattle.std.proofs.lemmas.Str.{IsUtf8-string_bytes}
use Rattle.std.specs.String.{string_bytes}
use Rattle.p9_map.proofs.label.Label.name_len.Goals as goal

pub returns : goal.returns
returns g c =
    count_from_yields_List c.chars.result c.count.result c.count.ensures.ran
    (YieldsList-from_chars (string_bytes c.args.self.now.name)
    (IsUtf8-string_bytes c.args.self.now.name) (c.chars.ensures.rest ∙ c.deref.ensures))
