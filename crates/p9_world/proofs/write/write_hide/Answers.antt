use Rattle.std.proofs.Common.{◌∷◌, []}
use Rattle.std.specs.Prelude.{codes, true}
use Rattle.p9_clean.specs.Path.{path_of}
use Rattle.p9_world.specs.Text.{hide_words}
use Rattle.p9_world.proofs.Lines.{line-added, line-begun, line-text, line-word}
use Rattle.p9_world.proofs.write.write_hide.Goals as goal

pub returns-clause-ok : goal.returns-clause-ok
returns-clause-ok g c =
    let hide = c.args.hide.now in
    let first = codes "hide" in
    let path = path_of true hide.path.now in
    let named = c.put_word.new.text.items in
    line-added c.append.result (hide_words hide) c.put_path.new.text.items _ _
    (line-word first (hide.server ∷ []) path named _
    (line-text first [] hide.server _ c.extend_from_slice.new.self.items named
    (line-begun first _ _ c.new-text.ensures.items c.in_ok-extend_from_slice.ensures.items)
    c.in_ok-put_word.ensures c.as_str.ensures.text) c.in_ok-put_path.ensures)
    c.append.ensures.ok
