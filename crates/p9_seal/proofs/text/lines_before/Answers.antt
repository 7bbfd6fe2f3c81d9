use Rattle.std.proofs.Common.{ℕ, Bor, List, map, take, sym, ap, ◌∙◌}
use Rattle.std.proofs.lemmas.List.{take-map}
use Rattle.p9_seal.proofs.text.lines_before.Goals as goal

pub returns : goal.returns
returns c =
    let now = λ (line : Bor (List ℕ)). line.now in
    sym (take-map now c.count_before.result c.args.lines.now)
    ∙ ap (λ n. take n (map now c.args.lines.now)) c.count_before.ensures.count
