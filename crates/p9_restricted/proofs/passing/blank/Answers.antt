use Rattle.std.proofs.Common.{ℕ, ap, ◌∙◌, replicate, rules}
use Rattle.p9_restricted.proofs.Blanks.{length-written, put_blanks}
use Rattle.p9_restricted.proofs.passing.blank.Goals as goal

pub returns-then-mask-gt0 : goal.returns-then-mask-gt0
returns-then-mask-gt0 c =
    let mask = c.args.mask in
    let bytes = c.args.bytes.now in
    put_blanks mask bytes c.fill.new.self
    (c.fill.ensures.after (search rules)
    ∙ ap (λ (n : ℕ). replicate n 32) (length-written mask bytes (c.requires c.if-mask-gt0.true)))
