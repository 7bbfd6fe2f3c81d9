-- A change does the same to forests that differ in no more than their times of last access.
use Rattle.std.proofs.Common.{◌≡◌, ◌∙◌, ℕ, zero, suc, List, [], ◌∷◌, ◌++◌, refl, sym, ap}
use Rattle.std.proofs.lemmas.List.{map-append}
use Rattle.p9_tree.specs.Forest.{tree_changed_at}
use Rattle.p9_tree.specs.Server.{Server, rooted, with_changed}
use Rattle.p9_tree.specs.Edit.{Edit, edited}
use Rattle.p9_tree.specs.ForestEdit.{AddServer, ForestEdit, OnServer, forest_edited}
use Rattle.p9_tree.specs.Node.{touched}
use Rattle.p9_tree.specs.Unread.{all_unread, unread}
use Rattle.p9_tree.proofs.Unread.{unread-edited, unread-touched}

-- a change of one server of forests that are alike
unread-on_server : (edit : Edit) (server : ℕ) (fs gs : List Server) → all_unread fs ≡ all_unread gs
    → all_unread (tree_changed_at server (edited edit) fs)
    ≡ all_unread (tree_changed_at server (edited edit) gs)
unread-on_server edit server [] [] e = refl
unread-on_server edit server [] (g ∷ gs) e = cc
unread-on_server edit server (f ∷ fs) [] e = cc
unread-on_server edit zero (f ∷ fs) (g ∷ gs) e =
    let one : unread f ≡ unread g = cc in
    let same : unread (edited edit f) ≡ unread (edited edit g) = unread-edited edit f g one in cc
unread-on_server edit (suc server) (f ∷ fs) (g ∷ gs) e =
    let rest : all_unread fs ≡ all_unread gs = cc in
    let same = unread-on_server edit server fs gs rest in cc

-- a change of forests that are alike
pub unread-forest_edited : (edit : ForestEdit) (fs gs : List Server) → all_unread fs ≡ all_unread gs
    → all_unread (forest_edited edit fs) ≡ all_unread (forest_edited edit gs)
unread-forest_edited AddServer fs gs e =
    map-append unread fs (rooted ∷ []) ∙ ap (λ ss. ss ++ unread rooted ∷ []) e
    ∙ sym (map-append unread gs (rooted ∷ []))
unread-forest_edited (OnServer server edit) fs gs e = unread-on_server edit server fs gs e

-- reading a file changes nothing else
pub unread-forest_touched : (server number clock : ℕ) (fs : List Server)
    → all_unread (tree_changed_at server (with_changed number (touched clock)) fs) ≡ all_unread fs
unread-forest_touched server number clock [] = refl
unread-forest_touched zero number clock (f ∷ fs) =
    ap (λ s. s ∷ all_unread fs) (unread-touched number clock f)
unread-forest_touched (suc server) number clock (f ∷ fs) =
    ap (λ ss. unread f ∷ ss) (unread-forest_touched server number clock fs)
