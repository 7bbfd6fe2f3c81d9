use Rattle.std.proofs.Common.{◌++◌, ap, ◌∙◌}
use Rattle.std.specs.String.{string_bytes}
use Rattle.p9_map.proofs.Drawn.{two}
use Rattle.p9_map.proofs.picture.print_end.Goals as goal

pub returns : goal.returns
returns g c =
    let o = c.args.out.now.items in
    let k = string_bytes c.in_ok-legend.legend.text in
    let z = string_bytes c.in_ok-last.last.text in (
      k,
      c.in_ok-last.ensures.0,
      two o k z c.print_text.new.out.items c.print_text-2.new.out.items c.in_ok-print_text.ensures
          c.in_ok-print_text-2.ensures
          ∙ ap (λ z. o ++ (k ++ z)) c.in_ok-last.ensures.1,
    )
