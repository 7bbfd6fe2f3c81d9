use Rattle.std.proofs.Common.{◌∷◌, []}
use Rattle.std.specs.Prelude.{codes}
use Rattle.p9_world.specs.Text.{group_words}
use Rattle.p9_world.proofs.Lines.{line-added, line-begun, line-text, line-words}
use Rattle.p9_world.proofs.write.write_group.Goals as goal

pub returns-clause-ok : goal.returns-clause-ok
returns-clause-ok g c =
    let group = c.args.group.now in
    let first = codes "group" in
    let named = c.put_word.new.text.items in
    let led = c.put_word-2.new.text.items in
    line-added c.append.result (group_words group) c.put_users.new.text.items _ _
    (line-words first (group.name ∷ group.leader ∷ []) group.members.now led _
    (line-text first (group.name ∷ []) group.leader _ named led
    (line-text first [] group.name _ c.extend_from_slice.new.self.items named
    (line-begun first _ _ c.new-text.ensures.items c.in_ok-extend_from_slice.ensures.items)
    c.in_ok-put_word.ensures c.as_str.ensures.text)
    c.in_ok-put_word-2.ensures c.as_str-2.ensures.text) c.in_ok-put_users.ensures)
    c.append.ensures.ok
