use Rattle.std.proofs.Common.{ℕ, ◌-◌, Bor, List, length, map, drop, sym, ap, ◌∙◌, arith}
use Rattle.std.proofs.Common.{length-drop}
use Rattle.std.proofs.lemmas.List.{drop-map, take_all}
use Rattle.p9_seal.proofs.text.lines_after.Goals as goal

pub returns : goal.returns
returns c =
    let now = λ (line : Bor (List ℕ)). line.now in
    let lines = c.args.lines.now in
    let n = c.count_to_script.result in
    ap (map now) (take_all (length lines - n) (drop n lines) (omega (arith, length-drop n lines)))
    ∙ sym (drop-map now n lines)
    ∙ ap (λ n. drop n (map now lines)) c.count_to_script.ensures.count
