use Rattle.std.proofs.Common.{◌∷◌, []}
use Rattle.std.specs.Prelude.{codes, true}
use Rattle.p9_clean.specs.Path.{path_of}
use Rattle.p9_world.specs.Text.{bytes_word, file_mode_word, file_words}
use Rattle.p9_world.proofs.Lines.{line-added, line-begun, line-word, line-words}
use Rattle.p9_world.proofs.write.write_file.Goals as goal

pub returns-clause-ok : goal.returns-clause-ok
returns-clause-ok g c =
    let file = c.args.file.now in
    let first = codes "file" in
    let path = path_of true file.path.now in
    let mode = file_mode_word file.flags file.permissions in
    let bytes = bytes_word file.bytes.now in
    let named = c.put_path.new.text.items in
    let moded = c.put_file_mode.new.text.items in
    let owned = c.put_users.new.text.items in
    line-added c.append.result (file_words file) c.put_bytes.new.text.items _ _
    (line-word first (path ∷ mode ∷ file.uid ∷ file.gid ∷ []) bytes owned _
    (line-words first (path ∷ mode ∷ []) (file.uid ∷ file.gid ∷ []) moded _
    (line-word first (path ∷ []) mode named _
    (line-word first [] path c.extend_from_slice.new.self.items _
    (line-begun first _ _ c.new-text.ensures.items c.in_ok-extend_from_slice.ensures.items)
    c.in_ok-put_path.ensures) c.in_ok-put_file_mode.ensures) c.in_ok-put_users.ensures)
    c.in_ok-put_bytes.ensures)
    c.append.ensures.ok
