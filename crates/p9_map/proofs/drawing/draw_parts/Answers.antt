use Rattle.std.proofs.Common.{◌≡◌, ◌+◌, ◌++◌, ap, ◌∙◌}
use Rattle.std.specs.Prelude.{codes}
use Rattle.std.specs.String.{string_bytes}
use Rattle.p9_map.specs.Box.{badge_text, limited, look_text, note_text, rect_text}
use Rattle.p9_map.specs.Svg.{text_element}
use Rattle.p9_map.proofs.Drawn.{boxed}
use Rattle.p9_map.proofs.drawing.draw_parts.Goals as goal

pub returns : goal.returns
returns g c =
    let rect = c.args.rect in
    let mark = c.args.mark in
    let name = string_bytes c.args.label.now.name in
    let note = string_bytes c.args.label.now.note in
    let x = limited (rect.left + 10) in
    let y = limited (rect.top + 15) in
    let line : string_bytes c.line.new.self.text
    ≡ string_bytes c.draw_look.new.svg.text ++ text_element (codes "name") x y name =
    c.in_ok-line.ensures
    ∙ ap (λ n. string_bytes c.draw_look.new.svg.text
    ++ text_element (codes "name") c.saturating_add-x.result c.saturating_add-y.result n)
    c.as_str.ensures.value
    ∙ ap (λ x. string_bytes c.draw_look.new.svg.text
    ++ text_element (codes "name") x c.saturating_add-y.result name) c.saturating_add-x.ensures
    ∙ ap (λ y. string_bytes c.draw_look.new.svg.text ++ text_element (codes "name") x y name)
    c.saturating_add-y.ensures in
    let noted : string_bytes c.draw_note.new.svg.text
    ≡ string_bytes c.line.new.self.text ++ note_text x y name note =
    c.in_ok-draw_note.ensures
    ∙ ap (λ x. string_bytes c.line.new.self.text ++ note_text x c.saturating_add-y.result name note)
    c.saturating_add-x.ensures
    ∙ ap (λ y. string_bytes c.line.new.self.text ++ note_text x y name note)
    c.saturating_add-y.ensures in
    boxed (string_bytes c.args.svg.now.text) (rect_text rect mark) (look_text mark.look rect)
    (text_element (codes "name") x y name) (note_text x y name note) (badge_text rect mark.number)
    (string_bytes c.draw_rect.new.svg.text) (string_bytes c.draw_look.new.svg.text)
    (string_bytes c.line.new.self.text) (string_bytes c.draw_note.new.svg.text)
    (string_bytes c.draw_badge.new.svg.text) c.in_ok-draw_rect.ensures c.in_ok-draw_look.ensures line
    noted c.in_ok-draw_badge.ensures
