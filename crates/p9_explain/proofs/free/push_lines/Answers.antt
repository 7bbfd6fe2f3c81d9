use Rattle.std.proofs.Common.{Bor, List, ℕ, map, refl}
use Rattle.std.specs.List.{flat_map}
use Rattle.std.specs.String.{string_bytes}
use Rattle.p9_explain.specs.Free.{ended}
use Rattle.p9_explain.proofs.Pieces.{piece-all, piece-at}
use Rattle.p9_explain.proofs.free.push_lines.Goals as goal

-- the text of lines, and of one
abbrev text_of : List (Bor (List ℕ)) → List ℕ
text_of lines = flat_map ended (map (λ (line : Bor (List ℕ)). line.now) lines)

abbrev line_of : Bor (List ℕ) → List (Bor (List ℕ)) → List ℕ
line_of line lines = ended line.now

pub loop-line-preserved : goal.loop-line-preserved
loop-line-preserved g c =
    piece-at text_of line_of (λ line lines. refl) c.args.lines.now c.loop-line.line-index
    (string_bytes c.loop-line.text) _ _ (string_bytes c.push_line.new.text) c.loop-line-test.true
    c.in_ok-push_line.ensures c.loop-line.invariant

pub returns : goal.returns
returns g c =
    piece-all text_of line_of (λ line lines. refl) c.args.lines.now c.loop-line.line-index
    (string_bytes c.loop-line.text) _ c.loop-line-test.false refl c.loop-line.invariant
