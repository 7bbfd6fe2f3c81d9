use Rattle.std.proofs.Common.{◌++◌, ◌∙◌, ap, length, sym}
use Rattle.p9_view.specs.Passing.{passers_text}
use Rattle.p9_view.proofs.Passers.{all-pass}
use Rattle.p9_view.proofs.passing.print_passers.Goals as goal

pub returns-then-has_public : goal.returns-then-has_public
returns-then-has_public g c =
    let world = c.args.world.now in
    c.in_ok-extend_from_slice.ensures.items
    ∙ ap (λ text. c.args.out.now.items ++ text) c.as_bytes.ensures.value
    ∙ ap (λ text. c.args.out.now.items ++ text)
    (c.all_text.ensures world.users (sym c.count-count.ensures))
    ∙ ap (λ n. c.args.out.now.items ++ passers_text n world.users) c.count-count.ensures
    ∙ ap (λ users. c.args.out.now.items ++ passers_text (length world.users) users)
    (sym (all-pass world c.args.members.now (sym c.has_public.ensures ∙ c.if-has_public.true)))
