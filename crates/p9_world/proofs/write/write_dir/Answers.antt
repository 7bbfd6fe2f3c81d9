use Rattle.std.proofs.Common.{◌∷◌, []}
use Rattle.std.specs.Prelude.{codes, true}
use Rattle.p9_clean.specs.Path.{path_of}
use Rattle.p9_world.specs.Text.{dir_words, permissions_word}
use Rattle.p9_world.proofs.Lines.{line-added, line-begun, line-word, line-words}
use Rattle.p9_world.proofs.write.write_dir.Goals as goal

pub returns-clause-ok : goal.returns-clause-ok
returns-clause-ok g c =
    let dir = c.args.dir.now in
    let first = codes "dir" in
    let path = path_of true dir.path.now in
    let mode = permissions_word dir.permissions in
    let named = c.put_path.new.text.items in
    let moded = c.put_permissions.new.text.items in
    line-added c.append.result (dir_words dir) c.put_users.new.text.items _ _
    (line-words first (path ∷ mode ∷ []) (dir.uid ∷ dir.gid ∷ []) moded _
    (line-word first (path ∷ []) mode named _
    (line-word first [] path c.extend_from_slice.new.self.items _
    (line-begun first _ _ c.new-text.ensures.items
    c.in_ok-extend_from_slice.ensures.items)
    c.in_ok-put_path.ensures) c.in_ok-put_permissions.ensures) c.in_ok-put_users.ensures)
    c.append.ensures.ok
