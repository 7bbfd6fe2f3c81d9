use Rattle.std.proofs.Common.{◌≡◌, subst}
use Rattle.std.specs.String.{string_bytes}
use Rattle.p9_cert.specs.Policy.{policy_of}
use Rattle.p9_prepared.specs.NameSpace.{NameSpace}
use Rattle.p9_fixed.specs.Change.{first_change}
use Rattle.p9_explain.specs.Change.{IsChangeTold}
use Rattle.p9_explain.proofs.Changes.{changeable-told}
use Rattle.p9_explain.proofs.explained.kind_words.Goals as goal

pub returns-in_ok-format-in-Some : goal.returns-in_ok-format-in-Some
returns-in_ok-format-in-Some g c =
    let words = string_bytes c.in_ok-words-in-Some.words in
    let text = string_bytes c.in_ok-format-in-Some.field-0 in
    let found = c.in_ok-first_change.field-0 in
    let change = c.in-Some.change in
    let rows = c.args.least.now in
    changeable-told c.args.space.now rows found change words text c.in-Some.is
    (subst (λ (s : NameSpace).
    found ≡ first_change (policy_of s.world) s.world.forest s.table rows) c.space.view_is
    c.in_ok-first_change.ensures.change)
    (subst (λ (s : NameSpace). IsChangeTold s.world change words) c.space.view_is
    c.in_ok-words-in-Some.ensures)
    c.in_ok-format-in-Some.ensures.ok
