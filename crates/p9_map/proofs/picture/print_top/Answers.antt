use Rattle.std.proofs.Common.{◌++◌, ap, ◌∙◌}
use Rattle.std.specs.String.{string_bytes}
use Rattle.p9_map.proofs.Drawn.{three}
use Rattle.p9_map.proofs.picture.print_top.Goals as goal

pub returns : goal.returns
returns g c =
    let o = c.args.out.now.items in
    let h = string_bytes c.in_ok-head.head.text in
    let v = c.args.verdict.now in
    let t = string_bytes c.in_ok-title.title.text in (
      h,
      three o h v t c.print_text.new.out.items c.extend_from_slice.new.self.items
          c.print_text-2.new.out.items c.in_ok-print_text.ensures
          (c.in_ok-extend_from_slice.ensures.items
          ∙ ap (λ bs. c.print_text.new.out.items ++ bs) c.as_bytes.ensures.value)
          c.in_ok-print_text-2.ensures
          ∙ ap (λ t. o ++ (h ++ v ++ t)) c.in_ok-title.ensures,
    )
